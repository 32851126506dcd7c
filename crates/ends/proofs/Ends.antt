-- Where an end lies: at its link's a, or at its link's b; in range, if the drawing is faultless.
use mathlib.Core.Path.{◌≡◌, ap, ◌∙◌}
use mathlib.Core.Bool.{true}
use Prim.Native.Nat.{ℕ, ◌*◌, ◌-◌, ◌<◌, ◌≤◌}
use native.Mathlib.Omega.{arith}
use native.Mathlib.Decide.{dec_lt}
use lib.ListN.{length}
use borrow.Author.Tests.{lt-ltb, le-ltb}
use Rattle.geom.specs.Points.{in_range}
use Rattle.segm.specs.Segments.{Drawing, segment_at}
use Rattle.faults.specs.Faultless.{Faultless}
use Rattle.faults.proofs.Faultless.{proper_at}
use Rattle.ends.specs.Ends.{end_point}

pub end_a : (links : Drawing) (e : ℕ) → e < length links → end_point links e ≡ (segment_at links e).a
unfolding end_point
end_a links e h = rw (lt-ltb e (length links) h)

pub end_b : (links : Drawing) (e : ℕ) → length links ≤ e → end_point links e ≡ (segment_at links (e - length links)).b
unfolding end_point
end_b links e h = rw (le-ltb e (length links) h)

pub end_near : (d : Drawing) → Faultless d → (e : ℕ) → e < 2 * length d → in_range (end_point d e) ≡ true
end_near d r e h = go (dec_lt e (length d))
  where
    go : Dec (e < length d) → in_range (end_point d e) ≡ true
    go (yes l) = ap in_range (end_a d e l) ∙ (proper_at r e l).near_a
    go (no l) = ap in_range (end_b d e (omega arith)) ∙ (proper_at r (e - length d) (omega arith)).near_b
