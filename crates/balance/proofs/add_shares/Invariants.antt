-- The sums so far are those of the ends passed.
use Rattle.segm.specs.Segments.{segments}
use Rattle.balance.specs.Sums.{Summed}
use Rattle.balance.proofs.add_shares.Given as goal

abbrev pub invariant-loop-e : goal.invariant-loop-e
invariant-loop-e l = Summed (segments l.s) l.nodes l.e l.sums
