-- Texts by computing.
use mathlib.Core.Path.{◌≡◌, refl}
use mathlib.Core.List.{List, [], ◌∷◌, flatten}
use Prim.Native.String.{String}
use lib.IntN.{ℤ, pos, negsuc}
use Rattle.segm.specs.Segments.{width}
use Rattle.decimal.specs.Decimal.{worth, positive, field_of}
use Rattle.text.specs.Grammar.{pieces, row, fields_in, rows_from, Parsed, BadLine, Drawn, choices_of, parsed}
use Rattle.decimal.proofs.Spelled.{bytes}

abbrev text : String → Parsed
text s = parsed width (bytes s)

abbrev drawn : (rule invert boundary : ℤ) → List ℤ → Parsed
drawn rule invert boundary = Drawn (record { rule = rule; invert = invert; boundary = boundary })

pub record Cases : Type 0 where
  pub no_segments : text "1,0,1\n" ≡ drawn (pos 1) (pos 0) (pos 1) []
  pub one-segment : text "4,-1,0\n0,0,2,0,0,3,12\n" ≡ drawn (pos 4) (negsuc 0) (pos 0) (pos 0 ∷ pos 0 ∷ pos 2 ∷ pos 0 ∷ pos 0 ∷ pos 3 ∷ pos 12 ∷ [])
  pub empty : text "" ≡ BadLine 1
  pub lone_end : text "\n" ≡ BadLine 1
  pub first_unended : text "1,0,1" ≡ BadLine 1
  pub first_short : text "1,0\n0,0,2,0,0,3,0\n" ≡ BadLine 1
  pub last_unended : text "1,0,1\n0,0,2,0,0,3,0" ≡ BadLine 2
  pub six_fields : text "1,0,1\n0,0,2,0,0,3\n" ≡ BadLine 2
  pub eight_fields : text "1,0,1\n0,0,2,0,0,3,0,0\n" ≡ BadLine 2
  pub trailing_comma : text "1,0,1\n0,0,2,0,0,3,0,\n" ≡ BadLine 2
  pub return : text "1,0,1\r\n" ≡ BadLine 1
  pub blank_line : text "1,0,1\n\n0,0,2,0,0,3,0\n" ≡ BadLine 2
  pub third_line : text "1,0,1\n0,0,2,0,0,3,0\n0,0,2,0,0,3,x\nx" ≡ BadLine 3

pub cases : Cases
unfolding worth positive field_of pieces row fields_in rows_from choices_of parsed flatten
cases = record { no_segments = refl; one-segment = refl; empty = refl; lone_end = refl; first_unended = refl; first_short = refl; last_unended = refl; six_fields = refl; eight_fields = refl; trailing_comma = refl; return = refl; blank_line = refl; third_line = refl }
