-- As many ends as were passed are gone from the list.
use mathlib.Core.List.{List}
use Prim.Native.Nat.{ℕ, ◌≤◌}
use lib.ListN.{take}
use Rattle.segm.specs.Segments.{Drawing, segments}
use Rattle.open_list.specs.OpenList.{HasLeft}
use Rattle.open_list.proofs.leave_all.Given as goal

pub record Passed (d : Drawing) (ends old : List ℕ) (used : ℕ) (list : List ℕ) (held : ℕ) : Type 0 where
  pub fewer : held ≤ used
  pub left : HasLeft d ends (take used old) (take held list)

abbrev pub invariant-loop-e : goal.invariant-loop-e
invariant-loop-e l = Passed (segments l.s) (take l.e-index l.ends) l.initial.list l.status.used l.list l.held.used
