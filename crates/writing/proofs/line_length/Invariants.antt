-- The numbers passed are counted, each with the byte after it.
use mathlib.Core.Path.{◌≡◌}
use Prim.Native.Nat.{suc}
use lib.ListN.{take}
use Rattle.lists.specs.Sums.{tally}
use Rattle.writing.specs.Lengths.{signed_length}
use Rattle.writing.proofs.line_length.Given as goal

abbrev pub invariant-loop-z : goal.invariant-loop-z
invariant-loop-z l = l.n ≡ tally (λ z. suc (signed_length z)) (take l.z-index l.row)
