-- What the code tells of a text once it has read it, in each form.
use mathlib.Core.Path.{◌≡◌, refl, sym, ap, ap₂, ◌∙◌}
use mathlib.Core.Bool.{Bool, true, false, true≢false}
use mathlib.Core.List.{List, [], ◌∷◌, flatten}
use mathlib.Core.Logic.{inl, inr}
use Prim.Native.Nat.{ℕ, ◌*◌, ◌/◌, ◌%◌, ◌≤◌, ◌<◌}
use native.Mathlib.Omega.{arith}
use borrow.Author.Tests.{lt-ltb, ltb-true, eq-eqb}
use lib.Dec.{ltb}
use lib.ListN.{length, take, length-append}
use lib.IntN.{ℤ}
use Rattle.integers.proofs.Booleans.{same_test}
use Rattle.lists.specs.Written.{written}
use Rattle.lists.proofs.Written.{take_written}
use Rattle.std.specs.Prelude.{Result, Ok, Err, MatchResult, IsErrAnd}
use Rattle.refusal.specs.declared.Kind.TheVariants.{WrongLength, TooShort}
use Rattle.refusal.specs.declared.Refusal.{Refusal}
use Rattle.refusal.specs.Order.{accepted, refuse_if}
use Rattle.refusal.proofs.Order.{accepted_then, accepted_if}
use Rattle.refusal.specs.Asked.{wrong_length, lent, too_short}
use Rattle.refusal.proofs.Asked.{few_entries, whole_entries}
use Rattle.segm.specs.Segments.{width, laid}
use Rattle.segm.proofs.Segments.Laid.{length-laid}
use Rattle.text.specs.declared.Choices.{Choices}
use Rattle.text.specs.declared.Reading.{Reading}
use Rattle.text.specs.Grammar.{Parsed, BadLine, Drawn, parsed}
use Rattle.text.specs.Storing.{Outcome, outcome, reading, malformed, numbers_in, read_verdict, answered, read_into}
use Rattle.text.proofs.Storing.{answered-held}
use Rattle.text.proofs.Writing.{Wide, found}
use Rattle.text_forms.specs.declared.Form.TheVariants.{Old, New}
use Rattle.text_forms.specs.Reading.{old_segments, with_all, refused_reading, drawn_verdict, drawn_into}
use Rattle.text_forms.proofs.Old.{length_old}

-- ---- the numbers are those of whole segments
pub length_rows : (w : ℕ) (rows : List (List ℤ)) → Wide w rows → length (flatten rows) ≡ length rows * w
unfolding flatten
length_rows w [] h = omega arith
length_rows w (r ∷ rows) h = omega (arith, length-append r (flatten rows), h r (inl refl), length_rows w rows (λ q m. h q (inr m)))

-- k numbers in each of so many lines
pub record Lines (k : ℕ) (l : List ℤ) : Type 0 where
  pub lines : ℕ
  pub numbers : length l ≡ lines * k

pub lines_in : (k : ℕ) (text : List ℕ) (c : Choices) (l : List ℤ) → parsed k text ≡ Drawn c l → Lines k l
lines_in k text c l e = let f = found k text c l e in record { lines = length f.rows; numbers = sym (ap length f.flat) ∙ length_rows k f.rows f.held.wide }

-- a list that holds the largest drawing is too short for more segments
too_many : (n m entries : ℕ) → (entries < n → 1024 < m) → (1024 < m → entries < n) → too_short n (lent entries 1) ≡ wrong_length width 1024 (m * width)
unfolding too_short wrong_length
too_many n m entries f g =
    let none_left : m * width % width ≡ 0 = omega arith in
    let all : m * width / width ≡ m = omega arith in
    rw (eq-eqb (m * width % width) 0 none_left, all) (same_test (ltb entries (1 * n)) (ltb 1024 m) (λ e. lt-ltb 1024 m (f (omega (arith, ltb-true entries (1 * n) e)))) (λ e. lt-ltb entries (1 * n) (omega (arith, g (ltb-true 1024 m e)))))

-- ---- what is told of a reading
abbrev pub told : Result Reading Refusal → Result Reading Refusal
told (Ok r) = Ok r
told (Err e) = Err (refused_reading e)

pub told_by : (r m : Result Reading Refusal) → MatchResult r (λ x. m ≡ Ok x) (λ e. IsErrAnd m (λ d. d ≡ refused_reading e)) → m ≡ told r
told_by (Ok r) m h = h
told_by (Err e) (Ok m) h = absurd h
told_by (Err e) (Err m) h = ap (λ (x : Refusal). Err x) h

pub told-ok : (r : Result Reading Refusal) (x : Reading) → told r ≡ Ok x → r ≡ Ok x
told-ok (Ok r) x e = e
told-ok (Err e) x q = let bad : ⊥ = cc in absurd bad

-- ---- the new form
pub new_read_lem : (p : Parsed) (old : List ℤ) → ((c : Choices) (l : List ℤ) → p ≡ Drawn c l → Lines width l) → length old ≡ 1024 * width → (let o = read_into old p in outcome (told o.answer) o.list ≡ drawn_into old (with_all New p))
unfolding read_verdict drawn_verdict
new_read_lem (BadLine line) old h room = refl
new_read_lem (Drawn c l) old h room = by (too_short (length l) (lent (length old) 1)) (wrong_length width 1024 (length l)) same
  where
    w : Lines width l
    w = h c l refl

    same : too_short (length l) (lent (length old) 1) ≡ wrong_length width 1024 (length l)
    same = too_many (length l) w.lines (length old) (λ s. omega (arith, s, room, w.numbers)) (λ s. omega (arith, s, room, w.numbers)) ∙ ap (wrong_length width 1024) (sym w.numbers)

    by : (b d : Bool) → b ≡ d → (let o = answered (refuse_if TooShort b) (Drawn c l) old in outcome (told o.answer) o.list ≡ answered (refuse_if WrongLength d) (Drawn c l) old)
    by true true e = refl
    by false false e = refl
    by true false e = absurd (true≢false e)
    by false true e = absurd (true≢false (sym e))

-- ---- the old form: what was read stands in a list of its own
module _ (numbers : List ℤ) where
  abbrev pub old_read : Result Reading Refusal → List ℤ → Outcome
  old_read (Ok r) l = outcome (Ok (reading r.choices (r.count / 6 * width))) (written (laid (old_segments (take r.count l))) numbers)
  old_read (Err e) l = outcome (Err e) numbers

  pub old_read_lem : (p : Parsed) (old : List ℤ) → ((c : Choices) (l : List ℤ) → p ≡ Drawn c l → Lines 6 l) → length old ≡ 1024 * 6
      → (let o = read_into old p in old_read (told o.answer) o.list ≡ drawn_into numbers (with_all Old p))
  unfolding read_verdict drawn_verdict
  old_read_lem (BadLine line) old h room = refl
  old_read_lem (Drawn c l) old h room = by (too_short (length l) (lent (length old) 1)) (wrong_length width 1024 (length (laid (old_segments l)))) same
    where
      w : Lines 6 l
      w = h c l refl

      sevens : length (laid (old_segments l)) ≡ w.lines * width
      sevens = omega (arith, length-laid (old_segments l), length_old l, w.numbers)

      same : too_short (length l) (lent (length old) 1) ≡ wrong_length width 1024 (length (laid (old_segments l)))
      same = too_many (length l) w.lines (length old) (λ s. omega (arith, s, room, w.numbers)) (λ s. omega (arith, s, room, w.numbers)) ∙ ap (wrong_length width 1024) (sym sevens)

      by : (b d : Bool) → b ≡ d → (let o = answered (refuse_if TooShort b) (Drawn c l) old in old_read (told o.answer) o.list ≡ answered (refuse_if WrongLength d) (Drawn c (laid (old_segments l))) numbers)
      by true true e = refl
      by false false e = ap₂ (λ (n : ℕ) (m : List ℤ). outcome (Ok (reading c n)) (written (laid (old_segments m)) numbers)) (omega (arith, length-laid (old_segments l), length_old l)) (take_written l old (length l) refl)
      by true false e = absurd (true≢false e)
      by false true e = absurd (true≢false (sym e))

-- ---- the list
-- all numbers of an accepted drawing stand in it
pub drawn-held : (old : List ℤ) (p : Parsed) {c : Choices} {n : ℕ} {l : List ℤ} → length old ≡ 1024 * width → outcome (Ok (reading c n)) l ≡ drawn_into old p → n ≤ length l
unfolding drawn_verdict
drawn-held old p room e = answered-held (drawn_verdict p) p old few e
  where
    few : drawn_verdict p ≡ accepted → length (numbers_in p) ≤ length old
    few a =
        let right = accepted_if WrongLength (wrong_length width 1024 (length (numbers_in p))) (accepted_then (malformed p) _ a).1 in
        omega (arith, few_entries width 1024 (length (numbers_in p)) right, whole_entries width 1024 (length (numbers_in p)) right, room)
