-- The fill of a segment by its top count alone, and how large that count is.
use mathlib.Core.Path.{◌≡◌, ap}
use Prim.Native.Nat.{◌≤◌}
use native.Mathlib.Omega.{arith}
use lib.IntN.{nat_abs, ◌+ℤ◌, ◌-ℤ◌}
use Rattle.integers.proofs.Linear.{ints, of-+, of--}
use Rattle.integers.proofs.Order.{abs-+}
use Rattle.segm.specs.declared.Segment.{Segment}
use Rattle.lists.specs.Members.{◌∈◌}
use Rattle.segm.specs.Segments.{Drawing}
use Rattle.fill_rule.specs.declared.Rule.{Rule}
use Rattle.fill_rule.specs.FillRule.{fill_of}
use Rattle.checks.specs.Accepted.{Good}
use Rattle.ray.specs.Ray.{bottom, top, fill}
use Rattle.ray.proofs.Counts.{bottom_bound}

module _ (d : Drawing) (s : Segment) where
  -- the bottom count again
  pub top_less : top d s -ℤ s.winding ≡ bottom d s
  unfolding top
  top_less = let b = bottom d s in let w = s.winding in omega (ints, of-- (b +ℤ w) w, of-+ b w)

  pub fill_by_top : (rule : Rule) → fill_of rule (top d s) (top d s -ℤ s.winding) s.bits ≡ fill rule d s
  unfolding fill
  fill_by_top rule = ap (λ c. fill_of rule (top d s) c s.bits) top_less

  pub top_bound : Good d → s ∈ d → nat_abs (top d s) ≤ 1025000
  unfolding top
  top_bound g m = omega (arith, abs-+ (bottom d s) s.winding, bottom_bound d g s, g.faultless.winding s m)
