-- Walks written and walks to come are all walks.
use Rattle.segm.specs.Segments.{segments}
use Rattle.moves.specs.Moves.{bits_remaining}
use Rattle.slice_walk.proofs.Writing.Written.{Written}
use Rattle.slice_walk.proofs.write_walks.Given as goal

abbrev pub invariant-loop-k : goal.invariant-loop-k
invariant-loop-k l = Written (segments l.links) l.fn.bits l.fn.points l.fn.lengths l.fn.directions l.bits l.points l.lengths l.directions l.walks l.at l.k

abbrev pub invariant-loop-bits : goal.invariant-loop-bits
invariant-loop-bits l = Written (segments l.links) l.fn.bits l.fn.points l.fn.lengths l.fn.directions l.bits l.points l.lengths l.directions l.walks l.at l.k

abbrev pub decreases-loop-bits : goal.decreases-loop-bits
decreases-loop-bits l = bits_remaining l.bits
