-- The text of an accepted drawing is read back, in each form that has room for its lots.
use mathlib.Core.Path.{◌≡◌, refl, subst}
use mathlib.Core.Bool.{true}
use mathlib.Core.List.{List, ◌∷◌, map}
use mathlib.Core.Logic.{inl, inr}
use Prim.Native.Nat.{ℕ, ◌+◌, ◌*◌, ◌≤◌}
use native.Mathlib.Omega.{arith}
use lib.ListN.{length, length-map}
use lib.IntN.{ℤ, pos, nat_abs}
use Rattle.integers.proofs.Order.{abs_up_to}
use Rattle.geom.specs.Points.{within, in_range}
use Rattle.geom.proofs.Points.{within_l, within_r, near_x, near_y}
use Rattle.lists.specs.Members.{◌∈◌}
use Rattle.lists.specs.Sums.{tally}
use Rattle.lists.proofs.Members.{in_map}
use Rattle.lists.proofs.Sums.{tally_bound}
use Rattle.segm.specs.declared.Segment.{Segment}
use Rattle.segm.specs.Segments.{Drawing, numbers_of, laid}
use Rattle.segm.proofs.Segments.Laid.{segments-laid}
use Rattle.faults.specs.Faultless.{Faultless}
use Rattle.faults.proofs.Faultless.{ends_near}
use Rattle.refusal.specs.Asked.{up_to}
use Rattle.checks.specs.Runs.{clip_choices}
use Rattle.checks.specs.Accepted.{accepts, Good}
use Rattle.checks.proofs.Runs.{verdict_known}
use Rattle.checks.proofs.Accepted.{accepted_input, accepted_good}
use Rattle.text.specs.declared.Choices.{Choices}
use Rattle.text.specs.Grammar.{Drawn, most_bytes}
use Rattle.text.specs.Writing.{choice_numbers, AllNineDigits}
use Rattle.writing.specs.Lengths.{signed_length, line_length, row_length, text_length}
use Rattle.writing.proofs.Lengths.{signed_most, unsigned_most, length_text}
use Rattle.text_forms.specs.declared.Form.{Form}
use Rattle.text_forms.specs.declared.Form.TheVariants.{Old, New}
use Rattle.text_forms.specs.Forms.{row_of, writing}
use Rattle.text_forms.specs.Reading.{parsed_in}
use Rattle.text_forms.proofs.Forms.{Kept, Holds, reads}

-- a line of an accepted drawing: four coordinates of a minus and eight digits, a winding of a minus and four digits, line bits of one digit, a lot of four, and
-- a byte after each
abbrev pub line_most : ℕ
line_most = 4 * 10 + 6 + 2 + 5

-- ---- its numbers are small
known : (n : ℕ) (z : ℤ) → within (pos 0) (pos n) z ≡ true → nat_abs z ≤ n
known n z e = abs_up_to n z (within_l (pos 0) (pos n) z e) (within_r (pos 0) (pos n) z e)

module _ {d : Drawing} (f : Faultless d) (s : Segment) (m : s ∈ d) where
  abbrev ends : (in_range s.a ≡ true) × (in_range s.b ≡ true)
  ends = ends_near f s m

  bits_small : nat_abs s.bits ≤ 3
  bits_small = abs_up_to 3 s.bits (f.bits s m).0 (f.bits s m).1

  lot_small : nat_abs s.lot ≤ 9999
  lot_small = abs_up_to 9999 s.lot (f.lots s m).0 (f.lots s m).1

  small_segment : (z : ℤ) → z ∈ numbers_of s → nat_abs z ≤ 16777216
  unfolding numbers_of
  small_segment z (inl q) = rw q (near_x s.a ends.0)
  small_segment z (inr (inl q)) = rw q (near_y s.a ends.0)
  small_segment z (inr (inr (inl q))) = rw q (near_x s.b ends.1)
  small_segment z (inr (inr (inr (inl q)))) = rw q (near_y s.b ends.1)
  small_segment z (inr (inr (inr (inr (inl q))))) = rw q (omega (arith, f.winding s m))
  small_segment z (inr (inr (inr (inr (inr (inl q)))))) = rw q (omega (arith, bits_small))
  small_segment z (inr (inr (inr (inr (inr (inr (inl q))))))) = rw q (omega (arith, lot_small))
  small_segment z (inr (inr (inr (inr (inr (inr (inr i))))))) = absurd i

  -- its line
  short_segment : row_length (numbers_of s) ≤ line_most
  unfolding numbers_of row_length line_length tally
  short_segment =
      omega (
        arith,
        signed_most 7 s.a.x (omega (arith, near_x s.a ends.0)),
        signed_most 7 s.a.y (omega (arith, near_y s.a ends.0)),
        signed_most 7 s.b.x (omega (arith, near_x s.b ends.1)),
        signed_most 7 s.b.y (omega (arith, near_y s.b ends.1)),
        signed_most 3 s.winding (omega (arith, f.winding s m)),
        unsigned_most 0 s.bits (f.bits s m).0 (omega (arith, bits_small)),
        unsigned_most 3 s.lot (f.lots s m).0 (omega (arith, lot_small)),
      )

-- a line of either form is no longer than that of all numbers
row_most : (form : Form) (s : Segment) → row_length (row_of form s) ≤ row_length (numbers_of s)
unfolding row_of numbers_of row_length line_length tally
row_most Old s = omega arith
row_most New s = omega arith

module _ (c : Choices) (d : Drawing) (e : accepts (laid d) c.rule c.invert c.boundary ≡ true) where
  pub good : Good d
  good = subst Good (segments-laid d) (accepted_good (laid d) c.rule c.invert c.boundary e)

  known_choice : (n : ℕ) (z : ℤ) → up_to (pos n) z ∈ clip_choices c.rule c.invert c.boundary → nat_abs z ≤ n
  known_choice n z m = known n z (verdict_known _ (accepted_input (laid d) c.rule c.invert c.boundary e) (up_to (pos n) z) m)

  small_choices : (z : ℤ) → z ∈ choice_numbers c → nat_abs z ≤ 3
  unfolding choice_numbers
  small_choices z (inl q) = rw q (known_choice 3 c.rule (inl refl))
  small_choices z (inr (inl q)) = rw q (omega (arith, known_choice 1 c.invert (inr (inl refl))))
  small_choices z (inr (inr (inl q))) = rw q (omega (arith, known_choice 1 c.boundary (inr (inr (inl refl)))))
  small_choices z (inr (inr (inr m))) = absurd m

  short_choices : row_length (choice_numbers c) ≤ line_most
  unfolding choice_numbers row_length line_length tally
  short_choices =
      let most : (z : ℤ) → z ∈ choice_numbers c → signed_length z ≤ 2 = λ z m. signed_most 0 z (omega (arith, small_choices z m)) in
      omega (arith, most c.rule (inl refl), most c.invert (inr (inl refl)), most c.boundary (inr (inr (inl refl))))

  nine_digits : AllNineDigits (choice_numbers c ∷ map numbers_of d)
  nine_digits r (inl q) z m = omega (arith, small_choices z (subst (λ (l : List ℤ). z ∈ l) q m))
  nine_digits r (inr i) z m = let f = in_map numbers_of r d i in omega (arith, small_segment good.faultless f.0 f.1 z (subst (λ (l : List ℤ). z ∈ l) f.2 m))

  module _ (form : Form) where
    -- at most 53 bytes in a line
    pub short_lines : (r : List ℤ) → r ∈ (choice_numbers c ∷ map (row_of form) d) → row_length r ≤ line_most
    short_lines r (inl q) = rw q short_choices
    short_lines r (inr i) = let f = in_map (row_of form) r d i in rw f.2 (omega (arith, row_most form f.0, short_segment good.faultless f.0 f.1))

    -- so every accepted drawing fits in a text: 1,024 such lines and the choices before them
    pub accepted_fits : length (writing form c d) ≤ most_bytes
    unfolding writing text_length
    accepted_fits =
        let rows = choice_numbers c ∷ map (row_of form) d in
        omega (arith, length_text rows, tally_bound row_length line_most rows short_lines, length-map d (row_of form), good.faultless.few)

    -- an accepted drawing has a text in each form that has room for its lots,
    pub accepted_holds : Kept form d → Holds form (writing form c d) c d
    accepted_holds k = record { is = refl; kept = k; small = nine_digits; few = accepted_fits }

    -- and that holds its choices and its numbers
    pub accepted_text : Kept form d → parsed_in form (writing form c d) ≡ Drawn c (laid d)
    accepted_text k = reads (accepted_holds k)
