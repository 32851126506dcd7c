-- There are as many places as segments.
use native.Mathlib.Omega.{arith}
use Rattle.segm.proofs.Segments.{length-segments}
use Rattle.faults.proofs.fault_at.Goals as goal

pub segment_in-before-requires : goal.segment_in-before-requires
segment_in-before-requires c = omega (arith, c.requires, length-segments c.args.s.now, c.saturating_sub.ensures)

pub segment_in-requires : goal.segment_in-requires
segment_in-requires c = omega (arith, c.requires, length-segments c.args.s.now)
