-- As many segments as were passed have entered the list.
use mathlib.Core.List.{List}
use Prim.Native.Nat.{ℕ, ◌≤◌}
use lib.ListN.{take}
use Rattle.segm.specs.Segments.{Drawing, segments}
use Rattle.open_list.specs.OpenList.{Entered, Older, Marks}
use Rattle.open_list.proofs.enter_all.Given as goal

pub record Passed (d : Drawing) (from i : ℕ) (old list : List ℕ) (held near : ℕ) : Type 0 where
  pub fewer : held ≤ i
  pub entered : Entered d from i old (take held list)
  pub marks : Older from old → Marks from near (take held list)

abbrev pub invariant-loop-i : goal.invariant-loop-i
invariant-loop-i l = Passed (segments l.s) l.from l.i (take l.fn.status.used l.initial.list) l.list l.held.used l.held.near
