-- The ends from k up to j lie at one x.
use lib.ListN.{length, get_or}
use Rattle.segm.specs.Segments.{segments}
use Rattle.ends.specs.Ends.{end_point}
use Rattle.meeting_sweep.proofs.Events.Runs.{Runs}
use Rattle.meeting_sweep.proofs.ends_past.Given as goal

abbrev pub invariant-loop-j : goal.invariant-loop-j
invariant-loop-j l = Runs (λ i. (end_point (segments l.s) (get_or l.flat i 0)).x) l.k (length l.flat) (end_point (segments l.s) l.e).x l.j
