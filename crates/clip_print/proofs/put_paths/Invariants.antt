-- The lines of the paths passed are put.
use mathlib.Core.Path.{◌≡◌}
use mathlib.Core.List.{List}
use Prim.Native.Nat.{ℕ, ◌*◌}
use lib.ListN.{take}
use lib.IntN.{ℤ}
use Rattle.lists.specs.Sums.{tally}
use Rattle.writing.specs.declared.Writer.{Writer}
use Rattle.clip_print.proofs.Printed.{lines_from}
use Rattle.writing.proofs.Puts.{Left}
use Rattle.clip_print.proofs.put_paths.Given as goal

pub record Passed (points : List ℤ) (lengths : List ℕ) (old new : Writer) (from k : ℕ) : Type 0 where
  pub put : Left (lines_from 0 0 points lengths) old (lines_from k from points lengths) new
  pub place : from ≡ 2 * tally (λ n. n) (take k lengths)

abbrev pub invariant-loop-k : goal.invariant-loop-k
invariant-loop-k l = Passed l.points l.lengths l.initial.lines l.lines l.from l.k
