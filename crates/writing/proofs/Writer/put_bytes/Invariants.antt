-- The bytes passed are put.
use Prim.Native.Nat.{◌+◌}
use lib.ListN.{drop}
use Rattle.writing.proofs.Puts.{Left}
use Rattle.writing.proofs.Writer.put_bytes.Given as goal

abbrev pub invariant-loop-b : goal.invariant-loop-b
invariant-loop-b l = Left l.s l.initial.self (drop l.b-index l.s) l.self
