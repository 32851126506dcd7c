-- A small drawing has no more segments than the small memory.
use Rattle.std.proofs.Common.{refl, arith, lit≤}
use Rattle.segm.proofs.Segments.{length-segments}
use Rattle.checks.proofs.check_alone.Goals as goal

pub check_in-requires : goal.check_in-requires
check_in-requires c = (((lit≤ tt, refl), refl), omega (arith, length-segments c.args.numbers.now, c.count.ensures, c.if-count-le-SMALL.true))
