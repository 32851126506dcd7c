-- The segments from k up to j start at one x.
use lib.ListN.{length}
use Rattle.segm.specs.Segments.{segments}
use Rattle.ends.specs.Ends.{end_point}
use Rattle.meeting_sweep.proofs.Events.Runs.{Runs}
use Rattle.meeting_sweep.proofs.starts_past.Given as goal

abbrev pub invariant-loop-j : goal.invariant-loop-j
invariant-loop-j l = Runs (λ i. (end_point (segments l.s) i).x) l.k (length (segments l.s)) (end_point (segments l.s) l.e).x l.j
