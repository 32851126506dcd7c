-- All that stood from place k on has moved up, and i is written over what still stands at k.
use Rattle.std.proofs.Common.{arith}
use Rattle.scan.proofs.Scan.{inserted}
use Rattle.scan.proofs.insert.Goals as goal

pub returns : goal.returns
returns c =
    let v = c.loop-block.invariant in
    inserted _ c.loop-block.list c.args.used c.args.k c.args.i c.requires.0 (omega arith) (omega arith) (λ m h. v.same m (omega arith)) (λ m h t. v.moved m (omega arith) (omega arith))
