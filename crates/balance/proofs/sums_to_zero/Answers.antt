-- The bits of the sum are those of 0.
use lib.Dec.{lit<}
use lib.ListN.{get_or}
use lib.IntN.{pos}
use mir.Syntax.{w32}
use Rattle.geom.proofs.Points.{bits_eq_z}
use Rattle.balance.specs.Sums.{sums_to_zero}
use Rattle.balance.proofs.sums_to_zero.Goals as goal

pub returns : goal.returns
unfolding sums_to_zero
returns c =
    let a = c.args in
    bits_eq_z w32 (get_or a.sums.now (get_or a.nodes.now a.e 0) (pos 0)) (pos 0) c.result-1.given (lit< tt)
