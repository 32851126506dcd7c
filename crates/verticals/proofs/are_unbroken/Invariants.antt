-- Those passed so far are unbroken.
use lib.ListN.{take}
use Rattle.segm.specs.Segments.{segments}
use Rattle.verticals.proofs.Verticals.Columns.{ColumnPassed}
use Rattle.verticals.proofs.are_unbroken.Given as goal

abbrev pub invariant-loop-e : goal.invariant-loop-e
invariant-loop-e l = ColumnPassed (segments l.s) (take l.e-index l.ends) l.last.foot l.last.top
