-- No segment passed meets t wrongly: what is left decides.
use Rattle.std.proofs.Common.{◌≡◌, drop}
use Rattle.lists.specs.Members.{any}
use Rattle.segm.specs.Segments.{segments}
use Rattle.meetings.specs.Meetings.{meets_wrongly}
use Rattle.drawing_check.proofs.meets_any.Given as goal

abbrev pub invariant-loop-k : goal.invariant-loop-k
invariant-loop-k l = any (meets_wrongly l.t) (drop l.j (segments l.s)) ≡ any (meets_wrongly l.t) (drop l.k (segments l.s))
