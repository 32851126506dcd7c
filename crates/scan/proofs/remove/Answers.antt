-- All that stood after place k has moved down.
use Rattle.std.proofs.Common.{arith}
use Rattle.scan.proofs.Scan.{removed}
use Rattle.scan.proofs.remove.Goals as goal

pub returns : goal.returns
returns c =
    let v = c.loop-block.invariant in
    removed _ c.loop-block.list c.args.used c.args.k c.requires.0 (omega arith) (omega arith) v.below (λ m h t. v.moved m h (omega arith))
