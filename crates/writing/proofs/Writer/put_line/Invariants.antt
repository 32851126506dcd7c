-- The numbers passed are put.
use mathlib.Core.List.{map}
use Prim.Native.Nat.{◌+◌}
use lib.ListN.{drop}
use Rattle.decimal.specs.Decimal.{signed}
use Rattle.writing.proofs.Puts.{Left, line_rest}
use Rattle.writing.proofs.Writer.put_line.Given as goal

abbrev pub invariant-loop-z : goal.invariant-loop-z
invariant-loop-z l = Left (line_rest (map signed (drop 1 l.row))) l.initial.self (line_rest (map signed (drop (l.z-index + 1) l.row))) l.self
