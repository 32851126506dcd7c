-- The points passed are written.
use Rattle.segm.specs.Segments.{segments}
use Rattle.clip_paths.specs.Writing.{ends_points}
use Rattle.clip_paths.proofs.Writing.Points.{Passed}
use Rattle.clip_paths.proofs.path.write_path.Given as goal

abbrev pub invariant-loop-q : goal.invariant-loop-q
invariant-loop-q l = Passed (ends_points (segments l.links) l.out l.moves) l.initial.points l.points l.q
