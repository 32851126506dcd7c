-- Those from the first place up to i stand in gaps and have their counts.
use mathlib.Core.List.{List}
use Prim.Native.Nat.{ℕ, ◌+◌, ◌-◌, ◌*◌, ◌≤◌}
use lib.IntN.{ℤ}
use Rattle.segm.specs.Segments.{Drawing, segments}
use Rattle.count_up.specs.CountUp.{BoundedBy}
use Rattle.verticals.specs.Verticals.{AllStand}
use Rattle.verticals.proofs.stand_all.Given as goal

pub record Standing (d : Drawing) (from to i : ℕ) (l : List ℕ) (old tops : List ℤ) : Type 0 where
  pub span : i - from ≤ to - from
  pub stand : AllStand d from i l old tops
  pub within : (b : ℕ) → BoundedBy b old → BoundedBy (b + 1000 * (i - from)) tops

abbrev pub invariant-loop-i : goal.invariant-loop-i
invariant-loop-i l = Standing (segments l.s) l.from l.to l.i l.list l.initial.tops l.tops
