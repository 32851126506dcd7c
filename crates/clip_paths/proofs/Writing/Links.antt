-- Links: the travel over one and over all.
use mathlib.Core.Path.{◌≡◌, refl}
use mathlib.Core.List.{List, [], ◌∷◌}
use mathlib.Core.Logic.{inl, inr}
use mathlib.Core.Bool.{true}
use Prim.Native.Nat.{ℕ, ◌+◌, ◌*◌, ◌<◌, ◌≤◌}
use native.Mathlib.Nat as N
use native.Mathlib.Numerals.{add-one}
use native.Mathlib.Omega.{arith}
use lib.ListN.{length, get_or, drop}
use lib.Seq.{drop-cons}
use Rattle.integers.proofs.Booleans.{both_l, both_r}
use Rattle.geom.specs.Points.{in_range, travel}
use Rattle.geom.proofs.Points.{travel_bound}
use Rattle.segm.specs.declared.Segment.{Segment}
use Rattle.lists.specs.Members.{◌∈◌}
use Rattle.segm.specs.Segments.{Drawing, nowhere, segment_at}
use Rattle.faults.specs.Faults.{ends_in_range}
use Rattle.moves.specs.Bits.{bits_set}
use Rattle.moves.proofs.Bits.{set_are}
use Rattle.clip_paths.specs.Writing.{travel_over}

-- ---- travel, of a link with both ends in range
module _ (s : Segment) (e : ends_in_range s ≡ true) where
  pub link_bound : (bits : ℕ) → bits_set bits * travel s.a s.b ≤ 134217728
  unfolding ends_in_range
  link_bound bits =
      N.mul-le-mul {n₂ = 2} {m₂ = 67108864} (omega (arith, set_are bits))
      (travel_bound s.a s.b (both_l (in_range s.a) (in_range s.b) e) (both_r (in_range s.a) (in_range s.b) e))

-- of all links
pub all_bound : (links : Drawing) (bits : List ℕ) → ((s : Segment) → s ∈ links → ends_in_range s ≡ true) → travel_over links bits ≤ length links * 134217728
unfolding travel_over
all_bound [] bits h = omega arith
all_bound (s ∷ links) [] h = omega arith
all_bound (s ∷ links) (b ∷ bits) h = omega (arith, link_bound s (h s (inl refl)) b, all_bound links bits (λ t m. h t (inr m)))

-- from one link on
pub travel_next : (links : Drawing) (bits : List ℕ) (i : ℕ) → i < length links → i < length bits
    → travel_over (drop i links) (drop i bits) ≡ bits_set (get_or bits i 0) * travel (segment_at links i).a (segment_at links i).b + travel_over (drop (i + 1) links) (drop (i + 1) bits)
unfolding travel_over segment_at
travel_next links bits i h k = rw (add-one, drop-cons links i nowhere h, drop-cons bits i 0 k)
