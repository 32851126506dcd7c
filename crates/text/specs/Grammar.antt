-- The comma text: what a text holds, or its first bad line. 10 is LF, 44 the comma.
use mathlib.Core.List.{List, [], ◌∷◌, flatten}
use Rattle.std.specs.Prelude.{Option, None, Some, cond, ℕ, zero, suc, eqb, ltb, length, get_or, ℤ, pos}
use Rattle.text.specs.declared.Choices.{Choices}
use Rattle.decimal.specs.Decimal.{field_of}

-- ---- cutting
-- x at the front of the first piece
abbrev pub onto : ℕ → List (List ℕ) → List (List ℕ)
onto x [] = (x ∷ []) ∷ []
onto x (piece ∷ rest) = (x ∷ piece) ∷ rest

-- s cut at each byte b: there is one piece more than there are such bytes
unfoldable pub pieces : ℕ → List ℕ → List (List ℕ)
pieces b [] = [] ∷ []
pieces b (x ∷ s) = cond (eqb x b) ([] ∷ pieces b s) (onto x (pieces b s))

-- ---- a line
-- a number before those of the other fields
abbrev pub and_rest : Option ℤ → Option (List ℤ) → Option (List ℤ)
and_rest None rest = None
and_rest (Some z) None = None
and_rest (Some z) (Some row) = Some (z ∷ row)

-- the numbers of exactly k fields, if each is a number
unfoldable pub row : ℕ → List (List ℕ) → Option (List ℤ)
row zero [] = Some []
row zero (f ∷ fields) = None
row (suc k) [] = None
row (suc k) (f ∷ fields) = and_rest (field_of f) (row k fields)

-- the first line is rule, invert, boundary, every other one a segment
unfoldable pub fields_in : (width line : ℕ) → ℕ
fields_in width line = cond (eqb line 1) 3 width

-- ---- the lines
-- the first bad line, or each line's numbers
pub data RowsFound : Type 0 where
  Bad : ℕ → RowsFound
  Rows : List (List ℤ) → RowsFound

-- what follows the last LF: a last line without LF is bad
abbrev pub after_last : ℕ → List ℕ → RowsFound
after_last line [] = Rows []
after_last line (b ∷ s) = Bad line

-- a line's numbers before those of the later lines; the first bad line decides
abbrev pub and_lines : ℕ → Option (List ℤ) → RowsFound → RowsFound
and_lines line None rest = Bad line
and_lines line (Some r) (Bad later) = Bad later
and_lines line (Some r) (Rows rows) = Rows (r ∷ rows)

-- the lines of a text cut at LF, from this line on. (There is always a piece, what follows the last LF)
unfoldable pub rows_from : (width line : ℕ) → List (List ℕ) → RowsFound
rows_from width line [] = Bad line
rows_from width line (s ∷ []) = after_last line s
rows_from width line (s ∷ t ∷ rest) = and_lines line (row (fields_in width line) (pieces 44 s)) (rows_from width (suc line) (t ∷ rest))

-- ---- the text
-- the first bad line, 0 for a text too long, or the choices and the numbers
pub data Parsed : Type 0 where
  BadLine : ℕ → Parsed
  Drawn : Choices → List ℤ → Parsed

-- rule, invert, boundary
unfoldable pub choices_of : List ℤ → Choices
choices_of l = record { rule = get_or l 0 (pos 0); invert = get_or l 1 (pos 0); boundary = get_or l 2 (pos 0) }

-- an empty text has no line: it is bad at line 1
abbrev pub parsed_rows : RowsFound → Parsed
parsed_rows (Bad line) = BadLine line
parsed_rows (Rows []) = BadLine 1
parsed_rows (Rows (first ∷ rows)) = Drawn (choices_of first) (flatten rows)

-- how many bytes the longest text has
abbrev pub most_bytes : ℕ
most_bytes = 65536

-- read to its end, unless it is too long
unfoldable pub parsed : (width : ℕ) → List ℕ → Parsed
parsed width text = cond (ltb most_bytes (length text)) (BadLine 0) (parsed_rows (rows_from width 1 (pieces 10 text)))
