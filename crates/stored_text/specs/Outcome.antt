-- What the writer and the mover of texts answer. The contracts of `stored_text` cite these.
use Rattle.std.specs.Prelude.{cond, List, ℕ, length, ℤ, Option, Some, None, Result, Ok, Err}
use Rattle.lists.specs.Written.{written}
use Rattle.refusal.specs.declared.Kind.{Kind}
use Rattle.refusal.specs.declared.Kind.TheVariants.{TooShort, LotLost}
use Rattle.refusal.specs.declared.Refusal.{Refusal}
use Rattle.refusal.specs.Numbers.{number_of}
use Rattle.refusal.specs.Order.{Verdict, refuse_if, first, ◌then◌}
use Rattle.refusal.specs.Asked.{lent, too_short}
use Rattle.segm.specs.Segments.{Drawing, segments, segment_at}
use Rattle.checks.specs.Runs.{clip_input, verdict}
use Rattle.text.specs.declared.Choices.{Choices}
use Rattle.text.specs.Grammar.{Parsed}
use Rattle.text.specs.Storing.{malformed, choices_in, numbers_in}
use Rattle.text_forms.specs.declared.Form.{Form}
use Rattle.text_forms.specs.declared.Form.TheVariants.{New}
use Rattle.text_forms.specs.Forms.{writing, takes_lot}
use Rattle.text_forms.specs.Reading.{parsed_in}

-- ---- the answer
-- 01's number, place and value: 0, 0 and how many bytes were written; of a refusal its own, and 0
pub record Told : Type 0 where
  pub number : ℕ
  pub place : ℕ
  pub count : ℕ

abbrev pub told : Result ℕ Refusal → Told
told (Ok count) = record { number = 0; place = 0; count = count }
told (Err e) = record { number = number_of e.kind; place = e.place; count = 0 }

-- what is answered, set out in numbers, and the lent list then
pub record Outcome : Type 0 where
  pub answer : Result ℕ Refusal
  pub numbers : Told
  pub list : List ℕ

abbrev pub outcome : Result ℕ Refusal → List ℕ → Outcome
outcome answer list = record { answer = answer; numbers = told answer; list = list }

-- ---- the checks
-- 2, 10, 3 to 9 with 13: those of a clip run that is lent nothing
abbrev pub input_verdict : Choices → List ℤ → Verdict
input_verdict c numbers = verdict (clip_input numbers c.rule c.invert c.boundary)

-- 14: a lot for which the form has no room
unfoldable pub lot_at : Form → Drawing → ℕ → Option Kind
lot_at to d i = cond (takes_lot to (segment_at d i).lot) None (Some LotLost)

-- 14 by the lowest place
unfoldable pub lots_of : Form → Drawing → Verdict
lots_of to d = first (lot_at to d) (length d)

-- ---- the outcome
-- a text that nothing refuses is written to the front of the list; a refusal writes nothing
abbrev pub answered : Verdict → List ℕ → List ℕ → Outcome
answered (Ok _) text old = outcome (Ok (length text)) (written text old)
answered (Err e) text old = outcome (Err e) old

-- what was refused before decides; last, 11: the list is shorter than the text
unfoldable pub written_unless : Verdict → List ℕ → List ℕ → Outcome
written_unless before text old = answered (before then refuse_if TooShort (too_short (length text) (lent (length old) 1))) text old

-- the writer, in the new form
unfoldable pub write_outcome : List ℤ → Choices → List ℕ → Outcome
write_outcome numbers c old = written_unless (input_verdict c numbers) (writing New c (segments numbers)) old

-- the mover: 1, then the checks of the drawing, then 14
abbrev pub moved_into : Form → List ℕ → Parsed → Outcome
moved_into to old p =
    let d = segments (numbers_in p) in
    written_unless (malformed p then input_verdict (choices_in p) (numbers_in p) then lots_of to d) (writing to (choices_in p) d) old

-- what a text holds in one form, written in the other
unfoldable pub move_outcome : (from to : Form) → List ℕ → List ℕ → Outcome
move_outcome from to text old = moved_into to old (parsed_in from text)
