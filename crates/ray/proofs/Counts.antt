-- How large the counts of a good drawing are.
use mathlib.Core.Path.{◌≡◌, refl, subst}
use Prim.Native.Nat.{◌≤◌}
use native.Mathlib.Omega.{arith}
use lib.IntN.{ℤ, nat_abs}
use Rattle.segm.specs.declared.Segment.{Segment}
use Rattle.lists.specs.Members.{◌∈◌}
use Rattle.lists.specs.Sums.{sum, only}
use Rattle.segm.specs.Segments.{Drawing, total}
use Rattle.lists.proofs.Sums.{sum_bound}
use Rattle.segm.proofs.Segments.{only_bound}
use Rattle.checks.specs.Accepted.{Good}
use Rattle.ray.specs.Ray.{met, bottom}

-- what j adds to the bottom count of i
abbrev pub adds : Segment → Segment → ℤ
adds i j = only (met i j) j.winding

pub bottom_adds : (d : Drawing) (i : Segment) → sum (adds i) d ≡ bottom d i
unfolding bottom total
bottom_adds d i = refl

module _ (d : Drawing) (g : Good d) where
  -- each adds at most 1,000
  pub adds_bound : (i j : Segment) → j ∈ d → nat_abs (adds i j) ≤ 1000
  adds_bound i j m = only_bound (met i j) j.winding (g.faultless.winding j m)

  pub bottom_bound : (i : Segment) → nat_abs (bottom d i) ≤ 1024000
  bottom_bound i =
      let b = sum_bound (adds i) 1000 d (adds_bound i) in
      subst (λ z. nat_abs z ≤ 1024000) (bottom_adds d i) (omega (arith, b, g.faultless.few))
