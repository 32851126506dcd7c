-- Fields, lines and rows as bytes, and the line of a refusal: 10 is LF, 44 the comma.
use mathlib.Core.List.{List, [], ◌∷◌, ◌++◌, map, flatten}
use Rattle.std.specs.Prelude.{ℕ, ℤ}
use Rattle.decimal.specs.Decimal.{decimal, signed}

-- pieces with a byte b between
unfoldable pub joined : ℕ → List (List ℕ) → List ℕ
joined b [] = []
joined b (piece ∷ []) = piece
joined b (piece ∷ next ∷ rest) = piece ++ b ∷ joined b (next ∷ rest)

-- commas between the fields, LF at the end
unfoldable pub line_of : List (List ℕ) → List ℕ
line_of fields = joined 44 fields ++ (10 ∷ [])

-- a line for each row
unfoldable pub text_of : List (List ℤ) → List ℕ
text_of rows = flatten (map (λ row. line_of (map signed row)) rows)

-- the word `refused`
abbrev pub refused_word : List ℕ
refused_word = 114 ∷ 101 ∷ 102 ∷ 117 ∷ 115 ∷ 101 ∷ 100 ∷ []

-- a refusal: its number and place
unfoldable pub refused_line : (number place : ℕ) → List ℕ
refused_line number place = line_of (refused_word ∷ decimal number ∷ decimal place ∷ [])
