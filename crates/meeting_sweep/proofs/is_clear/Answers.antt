-- A small drawing fits the smaller list.
use native.Mathlib.Omega.{arith}
use Rattle.segm.proofs.Segments.{length-segments}
use Rattle.meeting_sweep.proofs.is_clear.Goals as goal

pub sweep_in-requires : goal.sweep_in-requires
sweep_in-requires c = (c.requires.0, c.requires.1, omega (arith, c.count.ensures, length-segments c.args.s.now), omega arith, c.requires.2, c.requires.3)
