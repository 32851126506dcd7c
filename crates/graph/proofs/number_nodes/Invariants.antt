-- The ends at the places passed have their nodes.
use Rattle.segm.specs.Segments.{segments}
use Rattle.ends.specs.Ends.{end_point}
use Rattle.graph.proofs.Numbering.{State}
use Rattle.graph.proofs.number_nodes.Given as goal

abbrev pub invariant-loop-i : goal.invariant-loop-i
invariant-loop-i l = State (end_point (segments l.links)) l.flat l.i l.v l.starts l.nodes
