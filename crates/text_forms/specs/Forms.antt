-- The two forms of a text, and the text of a drawing in each. In the new form a segment's line has all its numbers; the old form is from before lots: its lines
-- have no field for the lot, which is 0.
use Rattle.std.specs.Prelude.{Bool, true, List, ◌∷◌, map, ℕ, take, ℤ, pos}
use Rattle.geom.specs.Points.{eq_z}
use Rattle.segm.specs.declared.Segment.{Segment}
use Rattle.segm.specs.Segments.{Drawing, width, numbers_of}
use Rattle.text.specs.declared.Choices.{Choices}
use Rattle.text.specs.Writing.{choice_numbers}
use Rattle.writing.specs.Lines.{text_of}
use Rattle.text_forms.specs.declared.Form.{Form}
use Rattle.text_forms.specs.declared.Form.TheVariants.{Old, New}

-- all but the lot
abbrev pub old_width : ℕ
old_width = 6

-- how many fields a segment's line has
abbrev pub fields_of : Form → ℕ
fields_of Old = old_width
fields_of New = width

-- the numbers in it: the lot is the last
unfoldable pub row_of : Form → Segment → List ℤ
row_of form s = take (fields_of form) (numbers_of s)

-- the text of a drawing and its choices
unfoldable pub writing : Form → Choices → Drawing → List ℕ
writing form c d = text_of (choice_numbers c ∷ map (row_of form) d)

-- a form has room for a lot: the old one for 0 alone
abbrev pub takes_lot : Form → ℤ → Bool
takes_lot Old lot = eq_z lot (pos 0)
takes_lot New lot = true
