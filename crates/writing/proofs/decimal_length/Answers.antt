-- By the largest power of ten.
use native.Mathlib.Omega.{arith}
use Rattle.writing.specs.Lengths.{digits_in}
use Rattle.writing.proofs.Lengths.{digits_by_power}
use Rattle.writing.proofs.decimal_length.Goals as goal

pub returns : goal.returns
unfolding digits_in
returns c = let e = digits_by_power 19 c.ilog10.result c.args.n (omega arith) (omega (arith, c.ilog10.ensures)) (omega (arith, c.ilog10.ensures)) in omega arith
