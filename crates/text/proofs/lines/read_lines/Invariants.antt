-- What is left of the text decides.
use mathlib.Core.Path.{◌≡◌}
use mathlib.Core.List.{List}
use Prim.Native.Nat.{ℕ, ◌+◌, ◌≤◌}
use lib.ListN.{length}
use lib.IntN.{ℤ}
use Rattle.text.specs.Grammar.{pieces, rows_from}
use Rattle.text.specs.Storing.{rows_stored}
use Rattle.text.proofs.lines.read_lines.Given as goal

pub record Walked (text : List ℕ) (width : ℕ) (old numbers : List ℤ) (rest : List ℕ) (line at : ℕ) : Type 0 where
  pub later : 2 ≤ line
  pub lines : line + length rest ≤ length text + 2
  pub places : at + length rest ≤ length text
  pub left : rows_stored 0 old (rows_from width 2 (pieces 10 text)) ≡ rows_stored at numbers (rows_from width line (pieces 10 rest))

abbrev pub invariant-loop-end : goal.invariant-loop-end
invariant-loop-end l = Walked l.text l.width l.initial.numbers l.numbers l.rest l.line l.at

abbrev pub decreases-loop-end : goal.decreases-loop-end
decreases-loop-end l = length l.rest
