-- What is so of every text that is written or moved.
use Rattle.std.specs.Prelude.{Ok, ◌≡◌, Bool, true, List, ℕ, ◌≤◌, length, take, ℤ}
use Rattle.lists.specs.Written.{written}
use Rattle.refusal.specs.Order.{accepted, is_accepted, ◌then◌}
use Rattle.segm.specs.Segments.{width, segments}
use Rattle.text.specs.declared.Choices.{Choices}
use Rattle.text.specs.Storing as reading
use Rattle.text.specs.Grammar.{Parsed, Drawn, most_bytes}
use Rattle.text.specs.Storing.{malformed, choices_in, numbers_in}
use Rattle.text_forms.specs.declared.Form.{Form}
use Rattle.text_forms.specs.declared.Form.TheVariants.{New}
use Rattle.text_forms.specs.Forms.{writing}
use Rattle.text_forms.specs.Reading.{parsed_in}
use Rattle.stored_text.specs.Outcome.{Outcome, outcome, input_verdict, lots_of, write_outcome, move_outcome}

-- the bytes that a call wrote
abbrev pub bytes_of : Outcome → List ℕ
bytes_of o = take o.numbers.count o.list

-- what a text holds is accepted
abbrev pub accepts_parsed : Parsed → Bool
accepts_parsed p = is_accepted (malformed p then input_verdict (choices_in p) (numbers_in p))

-- a text is accepted: it is well formed, and what it holds is accepted
unfoldable pub accepts_text : Form → List ℕ → Bool
accepts_text form text = accepts_parsed (parsed_in form text)

-- ---- the writer
-- reading a written drawing yields its choices and its numbers
abbrev pub ReadsBack : Type 0
ReadsBack = (numbers : List ℤ) (c : Choices) (old : List ℕ) (n : ℕ) → (let o = write_outcome numbers c old in o.answer ≡ Ok n → parsed_in New (bytes_of o) ≡ Drawn c numbers)

-- read into a list with room for them, they are what is told and stands at its front
abbrev pub ReadAgain : Type 0
ReadAgain = (numbers : List ℤ) (c : Choices) (old : List ℕ) (n : ℕ) (list : List ℤ) → (let o = write_outcome numbers c old in
    o.answer ≡ Ok n → length numbers ≤ length list → reading.read_outcome width (bytes_of o) list ≡ reading.outcome (Ok (reading.reading c (length numbers))) (written numbers list))

-- an accepted text is the only text of its drawing and choices
abbrev pub OnlyText : Form → Type 0
OnlyText form = (s t : List ℕ) → accepts_text form s ≡ true → parsed_in form s ≡ parsed_in form t → s ≡ t

-- ---- the mover
module _ (from to : Form) where
  -- moved and moved back, the same bytes are there, if the list has room for them
  abbrev pub ThereAndBack : Type 0
  ThereAndBack = (text old back : List ℕ) (n : ℕ) → (let o = move_outcome from to text old in o.answer ≡ Ok n → length text ≤ length back → move_outcome to from (bytes_of o) back ≡ outcome (Ok (length text)) (written text back))

  -- what was moved holds the same choices and the same drawing as what came in, and both are accepted
  abbrev pub MovedSame : Type 0
  MovedSame = (text old : List ℕ) (n : ℕ) → (let o = move_outcome from to text old in o.answer ≡ Ok n → (parsed_in to (bytes_of o) ≡ parsed_in from text) × (accepts_text from text ≡ true) × (accepts_text to (bytes_of o) ≡ true))

  -- what a text holds, written in a form that has room for its lots, is accepted exactly when the text is
  abbrev pub AcceptedAlike : Type 0
  AcceptedAlike = (text : List ℕ) (c : Choices) (numbers : List ℤ) → parsed_in from text ≡ Drawn c numbers → lots_of to (segments numbers) ≡ accepted → accepts_text to (writing to c (segments numbers)) ≡ accepts_text from text

  -- an accepted text without a lot that would be lost is moved, and 65,536 bytes are always enough
  abbrev pub AcceptedMoves : Type 0
  AcceptedMoves = (text old : List ℕ) → (let p = parsed_in from text in let moved = writing to (choices_in p) (segments (numbers_in p)) in
      accepts_text from text ≡ true → lots_of to (segments (numbers_in p)) ≡ accepted
      → (length moved ≤ most_bytes) × (length moved ≤ length old → move_outcome from to text old ≡ outcome (Ok (length moved)) (written moved old)))
