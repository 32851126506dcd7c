-- In the new form a drawing without lots has two bytes more for each segment.
use mathlib.Core.Path.{◌≡◌, refl}
use mathlib.Core.Bool.{true}
use mathlib.Core.List.{[], ◌∷◌, map}
use mathlib.Core.Logic.{inl, inr}
use Prim.Native.Nat.{◌+◌, ◌*◌}
use native.Mathlib.Omega.{arith}
use lib.ListN.{length}
use Rattle.geom.proofs.Points.{eq_z-true}
use Rattle.lists.specs.Sums.{tally}
use Rattle.segm.specs.declared.Segment.{Segment}
use Rattle.segm.specs.Segments.{Drawing, numbers_of}
use Rattle.writing.specs.Lengths.{digits_up_to, digits_in, signed_length, line_length, row_length, text_length}
use Rattle.writing.proofs.Lengths.{length_text}
use Rattle.text.specs.declared.Choices.{Choices}
use Rattle.text.specs.Writing.{choice_numbers}
use Rattle.text_forms.specs.declared.Form.TheVariants.{Old, New}
use Rattle.text_forms.specs.Forms.{row_of, writing, takes_lot}
use Rattle.text_forms.proofs.Forms.{Kept}

-- a comma and 0
row_more : (s : Segment) → signed_length s.lot ≡ 1 → row_length (row_of New s) ≡ row_length (row_of Old s) + 2
unfolding row_of numbers_of row_length line_length tally
row_more s e = omega (arith, e)

one_byte : (s : Segment) → takes_lot Old s.lot ≡ true → signed_length s.lot ≡ 1
unfolding signed_length digits_in digits_up_to
one_byte s e = rw (eq_z-true e) refl

rows_more : (d : Drawing) → Kept Old d → text_length (map (row_of New) d) ≡ text_length (map (row_of Old) d) + 2 * length d
unfolding text_length tally
rows_more [] k = omega arith
rows_more (s ∷ d) k = omega (arith, row_more s (one_byte s (k s (inl refl))), rows_more d (λ t m. k t (inr m)))

pub two_more : (c : Choices) (d : Drawing) → Kept Old d → length (writing New c d) ≡ length (writing Old c d) + 2 * length d
unfolding writing text_length tally
two_more c d k = omega (arith, length_text (choice_numbers c ∷ map (row_of New) d), length_text (choice_numbers c ∷ map (row_of Old) d), rows_more d k)
