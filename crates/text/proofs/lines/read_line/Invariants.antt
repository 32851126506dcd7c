-- What is left of the line decides.
use mathlib.Core.Path.{◌≡◌}
use mathlib.Core.List.{List}
use Prim.Native.Nat.{ℕ, ◌+◌, ◌-◌, ◌≤◌}
use lib.ListN.{length}
use lib.IntN.{ℤ}
use Rattle.text.specs.Grammar.{pieces, row}
use Rattle.text.specs.Storing.{row_stored}
use Rattle.text.proofs.lines.read_line.Given as goal

pub record Lined (s : List ℕ) (k at : ℕ) (old numbers : List ℤ) (rest : List ℕ) (i : ℕ) : Type 0 where
  pub behind : i + length rest ≤ length s
  pub left : row_stored at old (row k (pieces 44 s)) ≡ row_stored (at + i) numbers (row (k - i) (pieces 44 rest))

abbrev pub invariant-loop-i : goal.invariant-loop-i
invariant-loop-i l = Lined l.s l.k l.at l.initial.numbers l.numbers l.rest l.i
