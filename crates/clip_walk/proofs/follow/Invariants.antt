-- What was left and what is to be left are the path's moves.
use lib.ListN.{length}
use Rattle.moves.specs.ByEnd.{graph_of}
use Rattle.clip_walk.specs.Flat.{moves_on}
use Rattle.clip_walk.proofs.Following.{Following}
use Rattle.clip_walk.proofs.follow.Given as goal

abbrev pub invariant-loop-next : goal.invariant-loop-next
invariant-loop-next l = Following (graph_of l.g) l.out l.first l.initial.bits l.initial.moves l.bits l.moves l.n l.next

abbrev pub decreases-loop-next : goal.decreases-loop-next
decreases-loop-next l = length (moves_on (graph_of l.g) l.out l.bits l.next)
