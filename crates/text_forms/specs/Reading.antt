-- What a text holds in each form, and how its numbers go into a list that holds the largest drawing. The contracts of `text_forms` cite these.
use Rattle.std.specs.Prelude.{List, [], ◌∷◌, ℕ, zero, suc, ◌/◌, length, drop, ℤ, pos}
use Rattle.refusal.specs.declared.Kind.{Kind}
use Rattle.refusal.specs.declared.Kind.TheVariants.{WrongLength, TooShort}
use Rattle.refusal.specs.declared.Refusal.{Refusal}
use Rattle.refusal.specs.Order.{Verdict, refusal, refuse_if, ◌then◌}
use Rattle.refusal.specs.Asked.{wrong_length}
use Rattle.segm.specs.Segments.{Drawing, width, front, with_lot, laid}
use Rattle.text.specs.Grammar.{Parsed, BadLine, Drawn, parsed}
use Rattle.text.specs.Storing.{Outcome, malformed, numbers_in, answered}
use Rattle.text_forms.specs.declared.Form.{Form}
use Rattle.text_forms.specs.declared.Form.TheVariants.{Old, New}
use Rattle.text_forms.specs.Forms.{old_width, fields_of}

-- ---- what a text holds
-- n segments from lines of the old form: every lot is 0
unfoldable pub old_segments_of : ℕ → List ℤ → Drawing
old_segments_of zero l = []
old_segments_of (suc n) l = with_lot (pos 0) (front l) ∷ old_segments_of n (drop old_width l)

-- the drawing that a list of six numbers a segment holds
unfoldable pub old_segments : List ℤ → Drawing
old_segments l = old_segments_of (length l / old_width) l

-- seven numbers a segment, from those in lines of a form
abbrev pub all_numbers : Form → List ℤ → List ℤ
all_numbers Old l = laid (old_segments l)
all_numbers New l = l

-- the same of what was read of a text
abbrev pub with_all : Form → Parsed → Parsed
with_all form (BadLine line) = BadLine line
with_all form (Drawn c l) = Drawn c (all_numbers form l)

-- the first bad line, or the choices and seven numbers a segment
unfoldable pub parsed_in : Form → List ℕ → Parsed
parsed_in form text = with_all form (parsed (fields_of form) text)

-- ---- read into a list that holds the largest drawing
-- 1, then 2: more segments than a drawing has
unfoldable pub drawn_verdict : Parsed → Verdict
drawn_verdict p = malformed p then refuse_if WrongLength (wrong_length width 1024 (length (numbers_in p)))

-- what a refused reading tells: the list holds the largest drawing, and where it is too short there are too many segments
abbrev pub refused_for : Kind → Refusal → Refusal
refused_for TooShort r = refusal WrongLength 0
refused_for _ r = r

abbrev pub refused_reading : Refusal → Refusal
refused_reading r = refused_for r.kind r

-- its numbers are written to the front of the list
abbrev pub drawn_into : List ℤ → Parsed → Outcome
drawn_into old p = answered (drawn_verdict p) p old
