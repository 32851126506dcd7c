-- The best end so far and the rest of the part decide.
use Rattle.segm.specs.Segments.{segments}
use Rattle.graph.specs.Nodes.{part}
use Rattle.slice_walk.proofs.Ends.{Sought}
use Rattle.slice_walk.proofs.nearest.find_other.Given as goal

abbrev pub invariant-loop-end : goal.invariant-loop-end
invariant-loop-end l = Sought (segments l.links) l.direction l.f l.bits (part l.g.flat.now l.g.starts.now l.v) l.node_ends l.end-index l.best
