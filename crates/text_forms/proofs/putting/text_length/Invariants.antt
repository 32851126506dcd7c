-- The lines passed are counted.
use mathlib.Core.Path.{◌≡◌}
use Prim.Native.Nat.{◌+◌}
use lib.ListN.{drop}
use Rattle.segm.specs.Segments.{segments}
use Rattle.writing.specs.Lengths.{text_length}
use Rattle.text_forms.proofs.Rows.{rows}
use Rattle.text_forms.proofs.putting.text_length.Given as goal

-- with what is left all is counted
abbrev pub invariant-loop-i : goal.invariant-loop-i
invariant-loop-i l = l.total + text_length (rows l.k (drop l.i (segments l.numbers))) ≡ l.initial.total + text_length (rows l.k (segments l.numbers))
