-- Past the last segment there are zeros.
use mathlib.Core.Path.{sym}
use native.Mathlib.Omega.{arith}
use Rattle.segm.specs.Segments.{count, segments}
use Rattle.segm.proofs.Segments.{length-segments, past}
use Rattle.segm.proofs.segment_at.Goals as goal

pub returns-then-s-i : goal.returns-then-s-i
unfolding count
returns-then-s-i c = let s = c.before in sym (past (segments s.args.s.now) s.args.i (omega (arith, length-segments s.args.s.now)))

pub segment_in-requires : goal.segment_in-requires
unfolding count
segment_in-requires c = let s = c.before in omega (arith, length-segments s.args.s.now)
