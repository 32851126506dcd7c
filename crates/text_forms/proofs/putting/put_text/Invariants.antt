-- The lines passed are put.
use mathlib.Core.List.{List, map}
use Prim.Native.Nat.{ℕ}
use lib.ListN.{drop}
use lib.IntN.{ℤ}
use Rattle.segm.specs.Segments.{segments}
use Rattle.decimal.specs.Decimal.{signed}
use Rattle.writing.specs.Lines.{line_of, text_of}
use Rattle.writing.proofs.Puts.{Left}
use Rattle.text_forms.proofs.Rows.{rows}
use Rattle.text_forms.proofs.putting.put_text.Given as goal

-- the line of a row
abbrev pub line : List ℤ → List ℕ
line row = line_of (map signed row)

-- from where the loop begins, once the first line is put
abbrev pub invariant-loop-i : goal.invariant-loop-i
invariant-loop-i l = Left (text_of (rows l.k (segments l.numbers))) l.initial.text (text_of (rows l.k (drop l.i (segments l.numbers)))) l.text
