-- The rows of a drawing's text, as they stand in its list of numbers; how many bytes they have.
use mathlib.Core.Path.{◌≡◌, sym, ap, ◌∙◌}
use mathlib.Core.List.{List, [], ◌∷◌, ◌++◌, map}
use mathlib.Core.Logic.{◌⊎◌, inl, inr}
use Prim.Native.Nat.{ℕ, suc, ◌+◌, ◌*◌, ◌-◌, ◌<◌, ◌≤◌}
use native.Mathlib.Numerals.{add-one}
use native.Mathlib.Omega.{arith}
use lib.ListN.{length, take, drop, length-drop, length-take, length-map, drop_of_length-le}
use lib.Seq.{drop-cons, take-take}
use lib.IntN.{ℤ, pos}
use Rattle.lists.specs.Members.{◌∈◌}
use Rattle.lists.proofs.Members.{in_map}
use Rattle.lists.proofs.Sums.{tally_bound}
use Rattle.segm.specs.declared.Segment.{Segment}
use Rattle.segm.specs.Segments.{Drawing, width, front, with_lot, count, segments, nowhere, segment_at, numbers_of}
use Rattle.segm.proofs.Segments.{length-segments, segments-at}
use Rattle.segm.proofs.Segments.Laid.{entries, first_entries, numbers_front}
use Rattle.writing.specs.Lengths.{signed_length, line_length, row_length, text_length}
use Rattle.writing.proofs.Lengths.{at_most_21, row_tally}
use Rattle.text.specs.declared.Choices.{Choices}
use Rattle.text.specs.Writing.{choice_numbers}
use Rattle.text_forms.specs.declared.Form.{Form}
use Rattle.text_forms.specs.declared.Form.TheVariants.{Old, New}
use Rattle.text_forms.specs.Forms.{fields_of}

-- ---- the numbers at the front of a list are those of its first segment, in the old form too
pub old_front : (l : List ℤ) → 6 ≤ length l → numbers_of (with_lot (pos 0) (front l)) ≡ take 6 l ++ (pos 0 ∷ [])
unfolding numbers_of front entries
old_front l h = ap (λ (m : List ℤ). m ++ (pos 0 ∷ [])) (first_entries l 6 h)

few_fields : (form : Form) → fields_of form ≤ width
few_fields Old = omega arith
few_fields New = omega arith

-- ---- the first k numbers of each segment
abbrev pub rows : ℕ → Drawing → List (List ℤ)
rows k d = map (λ s. take k (numbers_of s)) d

-- the line at place i is put from this part of the list
pub record RowAt (l : List ℤ) (k i : ℕ) : Type 0 where
  pub few : k ≤ width
  pub inside : i < length (segments l)
  pub room : i * width + width ≤ length l
  pub is : take (i * width + k - i * width) (drop (i * width) l) ≡ take k (numbers_of (segment_at (segments l) i))

pub row_at : (form : Form) (l : List ℤ) {k n i : ℕ} → k ≡ fields_of form → n ≡ count l → i < n → RowAt l k i
unfolding count
row_at form l {k} {n} {i} e m h =
    let few : k ≤ width = omega (arith, e, few_fields form) in
    let place : i < count l = omega (arith, h, m) in
    let long : width ≤ length (drop (i * width) l) = omega (arith, place, length-drop (i * width) l) in
    let so-many : i * width + k - i * width ≡ k = omega arith in
    record {
      few = few;
      inside = omega (arith, place, length-segments l);
      room = omega (arith, place);
      is = rw so-many (sym (ap (λ (s : Segment). take k (numbers_of s)) (segments-at l i place) ∙ ap (take k) (numbers_front (drop (i * width) l) long) ∙ take-take k width (drop (i * width) l) few));
    }

-- a line has at most 155 bytes, so that 64 bits count them all
short_row : (r : List ℤ) → length r ≤ width → row_length r ≤ 155
unfolding row_length line_length
short_row [] h = omega arith
short_row (z ∷ r) h = omega (arith, row_tally (z ∷ r) (omega arith), tally_bound (λ y. suc (signed_length y)) 22 (z ∷ r) (λ y m. omega (arith, at_most_21 y)))

pub few_bytes : (form : Form) (c : Choices) (d : Drawing) → length d ≤ 1024 → text_length (choice_numbers c ∷ rows (fields_of form) d) ≤ 1025 * 155
unfolding text_length choice_numbers
few_bytes form c d n = omega (arith, n, length-map d (λ s. take (fields_of form) (numbers_of s)), tally_bound row_length 155 (choice_numbers c ∷ rows (fields_of form) d) short)
  where
    short : (r : List ℤ) → (r ≡ choice_numbers c) ⊎ (r ∈ rows (fields_of form) d) → row_length r ≤ 155
    short r (inl e) = short_row r (omega (arith, ap length e))
    short r (inr m) = let f = in_map (λ s. take (fields_of form) (numbers_of s)) r d m in short_row r (omega (arith, ap length f.2, length-take (fields_of form) (numbers_of f.0), few_fields form))

-- ---- the rows from place i on
module _ (k : ℕ) (d : Drawing) where
  pub rows_more : (i : ℕ) → i < length d → rows k (drop i d) ≡ take k (numbers_of (segment_at d i)) ∷ rows k (drop (i + 1) d)
  unfolding segment_at
  rows_more i h = rw (add-one i, drop-cons d i nowhere h)

  pub rows_none : (i : ℕ) → length d ≤ i → rows k (drop i d) ≡ []
  rows_none i h = rw (drop_of_length-le d {i = i} h)
