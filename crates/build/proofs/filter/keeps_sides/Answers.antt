-- The filter decides the arm, and each arm is the definition's test.
use mathlib.Core.Path.{◌≡◌, sym, ap}
use Prim.Native.Nat.{ℕ}
use Rattle.build.specs.declared.filter.Filter.{Filter}
use Rattle.build.specs.Links.{keeps_sides}
use Rattle.build.proofs.filter.keeps_sides.Goals as goal

-- the filter that led to an arm
at : {f g : Filter} (n : ℕ) → f ≡ g → keeps_sides g n ≡ keeps_sides f n
at n e = ap (λ (h : Filter). keeps_sides h n) (sym e)

pub returns-in-InsideIncluded : goal.returns-in-InsideIncluded
unfolding keeps_sides
returns-in-InsideIncluded c = at c.args.ones c.in-InsideIncluded.is

pub returns-in-InsideExcluded : goal.returns-in-InsideExcluded
unfolding keeps_sides
returns-in-InsideExcluded c = at c.args.ones c.in-InsideExcluded.is

pub returns-in-OutsideIncluded : goal.returns-in-OutsideIncluded
unfolding keeps_sides
returns-in-OutsideIncluded c = at c.args.ones c.in-OutsideIncluded.is

pub returns-in-OutsideExcluded : goal.returns-in-OutsideExcluded
unfolding keeps_sides
returns-in-OutsideExcluded c = at c.args.ones c.in-OutsideExcluded.is
