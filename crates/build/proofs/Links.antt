-- Kept links: the sides counted by ones, and the line bits by the fill.
use mathlib.Core.Path.{◌≡◌, refl, ap, ◌∙◌}
use mathlib.Core.Bool.{Bool, true, false, cond}
use Prim.Native.Nat.{ℕ, zero, suc, ◌+◌, ◌/◌, ◌%◌, ◌<◌}
use native.Mathlib.Omega.{arith}
use lib.Bits.{bit_and, and_mask}
use lib.Count.{ones, ones_in}
use lib.IntN.{nat_abs}
use Rattle.segm.specs.declared.Segment.{Segment}
use Rattle.segm.specs.Segments.{Drawing}
use Rattle.fill_rule.specs.declared.Rule.{Rule}
use Rattle.ray.specs.Ray.{fill}
use Rattle.ray.proofs.Fills.{fill_lines}
use Rattle.build.specs.declared.filter.Filter.{Filter}
use Rattle.build.specs.Links.{sides_set, keeps, lines_if}

-- ---- the ones of the masked fill are the sides set
ones_below : (m : ℕ) → m < 4 → ones m ≡ m % 2 + m / 2 % 2
unfolding ones ones_in
ones_below zero h = refl
ones_below (suc zero) h = refl
ones_below (suc (suc zero)) h = refl
ones_below (suc (suc (suc zero))) h = refl
ones_below (suc (suc (suc (suc m)))) h = absurd (omega arith)

pub ones-set : (f : ℕ) → ones (bit_and f 3) ≡ sides_set f
unfolding sides_set
ones-set f = ap ones (and_mask f 2) ∙ ones_below (f % 4) (omega arith) ∙ omega arith

-- ---- the line bits of a segment, none if it is not kept
pub kept_lines : (rule : Rule) (filter : Filter) (d : Drawing) (s : Segment) → cond (keeps filter (fill rule d s)) (fill rule d s / 4) 0 ≡ nat_abs (lines_if (keeps filter (fill rule d s)) s).bits
kept_lines rule filter d s = go (keeps filter (fill rule d s))
  where
    go : (b : Bool) → cond b (fill rule d s / 4) 0 ≡ nat_abs (lines_if b s).bits
    go true = fill_lines rule d s
    go false = refl
