-- Paths written and paths to come are all paths.
use Rattle.segm.specs.Segments.{segments}
use Rattle.moves.specs.Moves.{bits_remaining}
use Rattle.clip_paths.proofs.Writing.AllPaths.{Walked}
use Rattle.clip_paths.proofs.links.clip_links.Given as goal

abbrev pub invariant-loop-k : goal.invariant-loop-k
invariant-loop-k l = Walked (segments l.links) l.fn.bits l.fn.moves l.fn.points l.fn.lengths l.bits l.moves l.points l.lengths l.paths l.at l.k

abbrev pub invariant-loop-bits : goal.invariant-loop-bits
invariant-loop-bits l = Walked (segments l.links) l.fn.bits l.fn.moves l.fn.points l.fn.lengths l.bits l.moves l.points l.lengths l.paths l.at l.k

abbrev pub decreases-loop-bits : goal.decreases-loop-bits
decreases-loop-bits l = bits_remaining l.bits
