-- As many nodes as were passed.
use mathlib.Core.List.{List}
use Prim.Native.Nat.{ℕ, ◌-◌, ◌*◌, ◌≤◌}
use lib.ListN.{take}
use lib.IntN.{ℤ}
use Rattle.segm.specs.Segments.{Drawing, segments}
use Rattle.count_up.specs.CountUp.{BoundedBy}
use Rattle.starts.specs.Starts.{Splits, Started}
use Rattle.starts.proofs.start_all.Given as goal

pub record Passed (d : Drawing) (from to : ℕ) (old : List ℕ) (oldTops : List ℤ) (list : List ℕ) (tops : List ℤ) (held i : ℕ) : Type 0 where
  pub since : from ≤ i
  pub until : i ≤ to
  pub fewer : held ≤ i
  pub splits : Splits d i
  pub started : Started d from i old (take held list) oldTops tops
  pub within : BoundedBy (2048000 * i) tops

abbrev pub invariant-loop-i : goal.invariant-loop-i
invariant-loop-i l = Passed (segments l.s) l.from l.to (take l.fn.status.used l.initial.list) l.initial.tops l.list l.tops l.held.used l.i

abbrev pub decreases-loop-i : goal.decreases-loop-i
decreases-loop-i l = l.to - l.i
