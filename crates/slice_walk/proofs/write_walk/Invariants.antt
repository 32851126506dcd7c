-- The moves made and those to come are the walk.
use Rattle.segm.specs.Segments.{segments}
use Rattle.moves.specs.Moves.{bits_remaining}
use Rattle.slice_walk.proofs.Writing.OneWalk.{Following}
use Rattle.slice_walk.proofs.write_walk.Given as goal

abbrev pub invariant-loop-home : goal.invariant-loop-home
invariant-loop-home l = Following (segments l.links) l.direction l.k l.initial.bits l.initial.points l.bits l.points l.n l.e

abbrev pub decreases-loop-home : goal.decreases-loop-home
decreases-loop-home l = bits_remaining l.bits
