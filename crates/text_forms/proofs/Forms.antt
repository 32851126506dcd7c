-- A text holds a drawing exactly where it is the text of it, in each form.
use mathlib.Core.Path.{◌≡◌, refl, sym, ap, ap₂, subst, ◌∙◌}
use mathlib.Core.Bool.{true}
use mathlib.Core.List.{List, [], ◌∷◌, ◌++◌, map, flatten, append-nil}
use mathlib.Core.Logic.{◌⊎◌, inl, inr}
use Prim.Native.Nat.{ℕ, ◌/◌, ◌<◌, ◌≤◌}
use native.Mathlib.Omega.{arith}
use lib.ListN.{length, take, length-map}
use lib.Seq.{take_all, take_at}
use lib.IntN.{ℤ, pos}
use Rattle.geom.specs.Points.{eq_z}
use Rattle.geom.proofs.Points.{eq_z-true}
use Rattle.lists.specs.Members.{◌∈◌}
use Rattle.lists.proofs.Members.{in_map, map_in, in-++, in_take}
use Rattle.segm.specs.declared.Segment.{Segment}
use Rattle.segm.specs.Segments.{Drawing, width, front, with_lot, segments, numbers_of, laid}
use Rattle.segm.proofs.Segments.Laid.{segments-laid, numbers_front}
use Rattle.decimal.specs.Decimal.{NineDigits}
use Rattle.writing.specs.Lines.{text_of}
use Rattle.text.specs.declared.Choices.{Choices}
use Rattle.text.specs.Grammar.{Parsed, BadLine, Drawn, most_bytes, parsed}
use Rattle.text.specs.Writing.{choice_numbers, AllNineDigits}
use Rattle.text.proofs.Writing as rows
use Rattle.text.proofs.Storing.StoredRows.{differ}
use Rattle.text_forms.specs.declared.Form.{Form}
use Rattle.text_forms.specs.declared.Form.TheVariants.{Old, New}
use Rattle.text_forms.specs.Forms.{fields_of, row_of, writing, takes_lot}
use Rattle.text_forms.specs.Reading.{old_segments_of, old_segments, all_numbers, with_all, parsed_in}
use Rattle.text_forms.proofs.Reading.{length_rows}
use Rattle.text_forms.proofs.Rows.{old_front}

-- every lot has room in the form
abbrev pub Kept : Form → Drawing → Type 0
Kept form d = (s : Segment) → s ∈ d → takes_lot form s.lot ≡ true

-- a text of a drawing that can be read
pub record Holds (form : Form) (text : List ℕ) (c : Choices) (d : Drawing) : Type 0 where
  pub is : text ≡ writing form c d
  pub kept : Kept form d
  pub small : AllNineDigits (choice_numbers c ∷ map numbers_of d)
  pub few : length text ≤ most_bytes

-- ---- from a drawing to its rows and back
some_fields : (form : Form) → 0 < fields_of form
some_fields Old = omega arith
some_fields New = omega arith

length-row : (form : Form) (s : Segment) → length (row_of form s) ≡ fields_of form
unfolding row_of numbers_of
length-row Old s = refl
length-row New s = refl

-- what is in a row is one of the segment's numbers
in_row : (form : Form) (s : Segment) (z : ℤ) → z ∈ row_of form s → z ∈ numbers_of s
unfolding row_of
in_row form s z m = in_take (fields_of form) (numbers_of s) z m

old_lot : (s : Segment) → takes_lot Old s.lot ≡ true → with_lot (pos 0) s ≡ s
old_lot s e = let q : s.lot ≡ pos 0 = eq_z-true e in λ i. with_lot (sym q i) s

old_rows : (d : Drawing) → Kept Old d → old_segments_of (length d) (flatten (map (row_of Old) d)) ≡ d
unfolding old_segments_of flatten row_of numbers_of front
old_rows [] h = refl
old_rows (s ∷ d) h = ap₂ ◌∷◌ (old_lot s (h s (inl refl))) (old_rows d (λ t m. h t (inr m)))

new_rows : (d : Drawing) → flatten (map (row_of New) d) ≡ laid d
unfolding flatten laid row_of numbers_of
new_rows [] = refl
new_rows (s ∷ d) = ap (λ (l : List ℤ). numbers_of s ++ l) (new_rows d)

all_rows : (form : Form) (d : Drawing) → Kept form d → all_numbers form (flatten (map (row_of form) d)) ≡ laid d
unfolding old_segments
all_rows New d h = new_rows d
all_rows Old d h =
    let six : (r : List ℤ) → r ∈ map (row_of Old) d → length r ≡ 6 = λ r m. let f = in_map (row_of Old) r d m in ap length f.2 ∙ length-row Old f.0 in
    let n : length (flatten (map (row_of Old) d)) / 6 ≡ length d = omega (arith, length_rows 6 (map (row_of Old) d) six, length-map d (row_of Old)) in
    ap laid (ap (λ k. old_segments_of k (flatten (map (row_of Old) d))) n ∙ old_rows d h)

-- the segment of a row
abbrev from_row : Form → List ℤ → Segment
from_row Old r = with_lot (pos 0) (front r)
from_row New r = front r

-- the numbers that the row does not have
abbrev missing : Form → List ℤ
missing Old = pos 0 ∷ []
missing New = []

numbers_from : (form : Form) (r : List ℤ) → length r ≡ fields_of form → numbers_of (from_row form r) ≡ r ++ missing form
numbers_from Old r e = old_front r (omega (arith, e)) ∙ ap (λ (l : List ℤ). l ++ (pos 0 ∷ [])) (take_all 6 r (omega (arith, e)))
numbers_from New r e = numbers_front r (omega (arith, e)) ∙ take_all width r (omega (arith, e)) ∙ sym (append-nil r)

row_from : (form : Form) (r : List ℤ) → length r ≡ fields_of form → row_of form (from_row form r) ≡ r
unfolding row_of
row_from form r e = ap (take (fields_of form)) (numbers_from form r e) ∙ take_at r (missing form) (fields_of form) e

kept_from : (form : Form) (r : List ℤ) → takes_lot form (from_row form r).lot ≡ true
unfolding eq_z
kept_from Old r = refl
kept_from New r = refl

small_missing : (form : Form) (z : ℤ) → z ∈ missing form → NineDigits z
small_missing Old z (inl e) = rw e (omega arith)
small_missing Old z (inr m) = absurd m
small_missing New z m = absurd m

rows_from_lem : (form : Form) (rs : List (List ℤ)) → ((r : List ℤ) → r ∈ rs → length r ≡ fields_of form) → map (row_of form) (map (from_row form) rs) ≡ rs
rows_from_lem form [] h = refl
rows_from_lem form (r ∷ rs) h = ap₂ ◌∷◌ (row_from form r (h r (inl refl))) (rows_from_lem form rs (λ q m. h q (inr m)))

-- ---- both ways
pub reads : {form : Form} {text : List ℕ} {c : Choices} {d : Drawing} → Holds form text c d → parsed_in form text ≡ Drawn c (laid d)
unfolding parsed_in writing
reads {form} {text} {c} {d} h =
    ap (with_all form) (rows.reads_back (some_fields form) held) ∙ ap (Drawn c) (all_rows form d h.kept)
  where
    small : (r : List ℤ) → (r ≡ choice_numbers c) ⊎ (r ∈ map (row_of form) d) → (z : ℤ) → z ∈ r → NineDigits z
    small r (inl e) z m = h.small r (inl e) z m
    small r (inr i) z m = let f = in_map (row_of form) r d i in h.small (numbers_of f.0) (inr (map_in numbers_of f.0 d f.1)) z (in_row form f.0 z (subst (λ (l : List ℤ). z ∈ l) f.2 m))

    held : rows.Holds (fields_of form) text c (map (row_of form) d)
    held = record { is = h.is; wide = λ r m. let f = in_map (row_of form) r d m in ap length f.2 ∙ length-row form f.0; small = small; few = h.few }

-- what a text holds
pub record Held (form : Form) (text : List ℕ) (c : Choices) (numbers : List ℤ) : Type 0 where
  pub laid_out : numbers ≡ laid (segments numbers)
  pub holds : Holds form text c (segments numbers)

held_drawing : {form : Form} {text : List ℕ} {c : Choices} {numbers : List ℤ} (d : Drawing) → numbers ≡ laid d → Holds form text c d → Held form text c numbers
held_drawing {form} {text} {c} {numbers} d e h =
    let is : d ≡ segments numbers = sym (ap segments e ∙ segments-laid d) in
    record { laid_out = e ∙ ap laid is; holds = subst (λ (f : Drawing). Holds form text c f) is h }

found_held : (form : Form) (text : List ℕ) (c : Choices) (l : List ℤ) → rows.Found (fields_of form) text c l → Held form text c (all_numbers form l)
unfolding writing
found_held form text c l f =
    held_drawing d (ap (all_numbers form) (sym f.flat ∙ ap flatten (sym back)) ∙ all_rows form d kept) (record { is = f.held.is ∙ ap (λ (rs : List (List ℤ)). text_of (choice_numbers c ∷ rs)) (sym back); kept = kept; small = small; few = f.held.few })
  where
    d : Drawing
    d = map (from_row form) f.rows

    back : map (row_of form) d ≡ f.rows
    back = rows_from_lem form f.rows f.held.wide

    kept : Kept form d
    kept s m = let g = in_map (from_row form) s f.rows m in ap (λ (t : Segment). takes_lot form t.lot) g.2 ∙ kept_from form g.0

    of_row : (r : List ℤ) → r ∈ f.rows → (z : ℤ) → (z ∈ r) ⊎ (z ∈ missing form) → NineDigits z
    of_row r i z (inl m) = f.held.small r (inr i) z m
    of_row r i z (inr m) = small_missing form z m

    small : (r : List ℤ) → (r ≡ choice_numbers c) ⊎ (r ∈ map numbers_of d) → (z : ℤ) → z ∈ r → NineDigits z
    small r (inl e) z m = f.held.small r (inl e) z m
    small r (inr i) z m =
        let s = in_map numbers_of r d i in
        let g = in_map (from_row form) s.0 f.rows s.1 in
        of_row g.0 g.1 z (in-++ z g.0 (missing form) (subst (λ (l : List ℤ). z ∈ l) (s.2 ∙ ap numbers_of g.2 ∙ numbers_from form g.0 (f.held.wide g.0 g.1)) m))

pub held : (form : Form) (text : List ℕ) (c : Choices) (numbers : List ℤ) → parsed_in form text ≡ Drawn c numbers → Held form text c numbers
unfolding parsed_in
held form text c numbers e = go (parsed (fields_of form) text) refl e
  where
    go : (p : Parsed) → parsed (fields_of form) text ≡ p → with_all form p ≡ Drawn c numbers → Held form text c numbers
    go (BadLine line) q a = absurd (differ (cc))
    go (Drawn x l) q a =
        let choices : x ≡ c = cc in
        let all : all_numbers form l ≡ numbers = cc in
        subst (Held form text c) all (found_held form text c l (rows.found (fields_of form) text c l (q ∙ ap (λ (y : Choices). Drawn y l) choices)))

-- an accepted text is the only one of its drawing and choices
pub one_text : (form : Form) (s t : List ℕ) (c : Choices) (numbers : List ℤ) → parsed_in form s ≡ Drawn c numbers → parsed_in form t ≡ Drawn c numbers → s ≡ t
one_text form s t c numbers p q = (held form s c numbers p).holds.is ∙ sym (held form t c numbers q).holds.is

-- in another form that has room for its lots it holds the same drawing, unless it gets too long
pub holds_in : {from : Form} {text : List ℕ} {c : Choices} {d : Drawing} (to : Form) → Holds from text c d → Kept to d → length (writing to c d) ≤ most_bytes → Holds to (writing to c d) c d
holds_in to h k few = record { is = refl; kept = k; small = h.small; few = few }
