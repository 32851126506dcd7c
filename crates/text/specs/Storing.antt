-- What `read` answers, and how the numbers of a text go into the lent list. The contracts of `text` cite these.
use mathlib.Core.List.{List, [], flatten}
use Rattle.std.specs.Prelude.{Bool, true, false, ℕ, ◌+◌, length, ℤ, pos, Option, None, Some, Result, Ok, Err}
use Rattle.std.proofs.lemmas.List.Edits.{sets}
use Rattle.lists.specs.Written.{written}
use Rattle.refusal.specs.declared.Kind.TheVariants.{BadText, TooShort}
use Rattle.refusal.specs.declared.Refusal.{Refusal}
use Rattle.refusal.specs.Numbers.{number_of}
use Rattle.refusal.specs.Order.{Verdict, accepted, refusal, refused, refuse_if, ◌then◌}
use Rattle.refusal.specs.Asked.{lent, too_short}
use Rattle.text.specs.declared.Choices.{Choices}
use Rattle.text.specs.declared.Reading.{Reading}
use Rattle.text.specs.Grammar.{RowsFound, Bad, Rows, Parsed, BadLine, Drawn, choices_of, parsed}

-- ---- the answer
-- 01's number, place and values for what `read` answers: 0, 0, how many numbers there are, and the choices; of a refusal its own, and all values 0
pub record Told : Type 0 where
  pub number : ℕ
  pub place : ℕ
  pub count : ℕ
  pub rule : ℤ
  pub invert : ℤ
  pub boundary : ℤ

abbrev pub told : Result Reading Refusal → Told
told (Ok r) = record { number = 0; place = 0; count = r.count; rule = r.choices.rule; invert = r.choices.invert; boundary = r.choices.boundary }
told (Err e) = record { number = number_of e.kind; place = e.place; count = 0; rule = pos 0; invert = pos 0; boundary = pos 0 }

-- these choices, and so many numbers
abbrev pub reading : Choices → ℕ → Reading
reading c count = record { choices = c; count = count }

-- what it answers, set out in numbers, and the lent list when it returns
pub record Outcome : Type 0 where
  pub answer : Result Reading Refusal
  pub numbers : Told
  pub list : List ℤ

abbrev pub outcome : Result Reading Refusal → List ℤ → Outcome
outcome answer list = record { answer = answer; numbers = told answer; list = list }

-- ---- the verdict on what a text holds
-- the choices; a malformed text has none
abbrev pub choices_in : Parsed → Choices
choices_in (BadLine line) = choices_of []
choices_in (Drawn c numbers) = c

-- the numbers of the segments; a malformed text has none
abbrev pub numbers_in : Parsed → List ℤ
numbers_in (BadLine line) = []
numbers_in (Drawn c numbers) = numbers

-- 1: a malformed text, at its first bad line
abbrev pub malformed : Parsed → Verdict
malformed (BadLine line) = refused BadText line
malformed (Drawn c numbers) = accepted

-- 1, then 11: the list has not as many entries as there are numbers
unfoldable pub read_verdict : Parsed → ℕ → Verdict
read_verdict p entries = malformed p then refuse_if TooShort (too_short (length (numbers_in p)) (lent entries 1))

-- ---- the outcome
-- an accepted text's numbers are written to the front of the list, and it is told how many there are; a refused one writes nothing
abbrev pub answered : Verdict → Parsed → List ℤ → Outcome
answered (Ok _) p old = outcome (Ok (reading (choices_in p) (length (numbers_in p)))) (written (numbers_in p) old)
answered (Err e) p old = outcome (Err e) old

-- what a text holds, read into a lent list
abbrev pub read_into : List ℤ → Parsed → Outcome
read_into old p = answered (read_verdict p (length old)) p old

-- the outcome of `read`, for any text, width and lent list
unfoldable pub read_outcome : (width : ℕ) → List ℕ → List ℤ → Outcome
read_outcome width text old = read_into old (parsed width text)

-- ---- on the way
-- the list once a line's numbers were stored from place `at` on, if the line is good; a place past its end stores nothing
abbrev pub row_stored : ℕ → List ℤ → Option (List ℤ) → Option (List ℤ)
row_stored at l None = None
row_stored at l (Some row) = Some (sets l at row)

-- the list if b
abbrev pub list_if : Bool → List ℤ → Option (List ℤ)
list_if false l = None
list_if true l = Some l

-- the refusal of the first bad line, or how many numbers there are and the list that holds them
pub data Stored : Type 0 where
  Nothing : Refusal → Stored
  Numbers : ℕ → List ℤ → Stored

-- the same once the numbers of all rows were stored from place `at` on
abbrev pub rows_stored : ℕ → List ℤ → RowsFound → Stored
rows_stored at l (Bad line) = Nothing (refusal BadText line)
rows_stored at l (Rows rows) = Numbers (at + length (flatten rows)) (sets l at (flatten rows))

-- what the code says of the lines, and its list
abbrev pub lines_stored : Result ℕ Refusal → List ℤ → Stored
lines_stored (Err e) l = Nothing e
lines_stored (Ok count) l = Numbers count l
