-- The comma text: the rows that are written are read back, and what was read is what is written of its rows.
use mathlib.Core.Path.{◌≡◌, refl, sym, ◌∙◌, ap, ap₂, subst}
use mathlib.Core.Bool.{Bool, true, false, cond}
use mathlib.Core.List.{List, [], ◌∷◌, ◌++◌, map, flatten}
use mathlib.Core.Logic.{◌⊎◌, inl, inr}
use Rattle.std.specs.Prelude.{Option, None, Some}
use Prim.Native.Nat.{ℕ, zero, suc, ◌<◌, ◌≤◌}
use native.Mathlib.Omega.{arith}
use borrow.Author.Tests.{le-ltb, ltb-false}
use lib.Dec.{eqb, ltb}
use lib.ListN.{length, length-map}
use lib.IntN.{ℤ}
use Rattle.lists.specs.Members.{◌∈◌}
use Rattle.text.specs.declared.Choices.{Choices}
use Rattle.decimal.specs.Decimal.{NineDigits, field_of, signed}
use Rattle.text.specs.Grammar.{pieces, and_rest, row, fields_in, RowsFound, Bad, Rows, and_lines, rows_from, BadLine, Drawn, choices_of, parsed_rows, most_bytes, parsed}
use Rattle.writing.specs.Lines.{joined, text_of}
use Rattle.text.specs.Writing.{choice_numbers, AllNineDigits}
use Rattle.decimal.proofs.Decimal.{Written, field_signed, signed_field}
use Rattle.writing.proofs.Lines.{field_bytes, line_bytes, text_cons}
use Rattle.text.proofs.Grammar.Pieces.{pieces_few, joined-pieces, pieces-cut, pieces-joined}
use Rattle.text.proofs.Storing.StoredRows.{differ, row-length, lines_next, fields_later}

-- ---- a line
row_written : (r : List ℤ) → ((z : ℤ) → z ∈ r → NineDigits z) → row (length r) (map signed r) ≡ Some r
unfolding row
row_written [] h = refl
row_written (z ∷ r) h = ap₂ and_rest (field_signed z (h z (inl refl))) (row_written r (λ y m. h y (inr m)))

-- what a line was read from
record Line (fs : List (List ℕ)) (r : List ℤ) : Type 0 where
  is : fs ≡ map signed r
  small : (z : ℤ) → z ∈ r → NineDigits z

line-cons : {f : List ℕ} {fs : List (List ℕ)} {z : ℤ} {q r : List ℤ} → Written f z → Line fs q → r ≡ z ∷ q → Line (f ∷ fs) r
line-cons {f} {fs} {z} {q} w l e = subst (λ (s : List ℤ). Line (f ∷ fs) s) (sym e) (record { is = ap₂ ◌∷◌ w.is l.is; small = small })
  where
    small : (y : ℤ) → (y ≡ z) ⊎ (y ∈ q) → NineDigits y
    small y (inl i) = rw i w.small
    small y (inr m) = l.small y m

row_read : (k : ℕ) (fs : List (List ℕ)) (r : List ℤ) → row k fs ≡ Some r → Line fs r
unfolding row
row_read zero [] r e = let none_left : r ≡ [] = cc in rw none_left (record { is = refl; small = λ z m. absurd m })
row_read zero (f ∷ fs) r e = absurd (differ (cc))
row_read (suc k) [] r e = absurd (differ (cc))
row_read (suc k) (f ∷ fs) r e = go (field_of f) (row k fs) refl e (row_read k fs)
  where
    go : (a : Option ℤ) (o : Option (List ℤ)) → field_of f ≡ a → and_rest a o ≡ Some r → ((q : List ℤ) → o ≡ Some q → Line fs q) → Line (f ∷ fs) r
    go None o p t rest = absurd (differ (cc))
    go (Some z) None p t rest = absurd (differ (cc))
    go (Some z) (Some q) p t rest = line-cons (signed_field f z p) (rest q refl) (cc)

-- a line of k numbers has at least k - 1 bytes
pub row_narrow : (k : ℕ) (s : List ℕ) (r : List ℤ) → row k (pieces 44 s) ≡ Some r → k ≤ suc (length s)
row_narrow k s r e =
    let fs = pieces 44 s in
    omega (arith, row-length k fs r e, ap length (row_read k fs r e).is, length-map r signed, pieces_few 44 s)

-- the fields of a written line
fields_line : (r : List ℤ) → 0 < length r → pieces 44 (joined 44 (map signed r)) ≡ map signed r
fields_line [] h = absurd (omega arith)
fields_line (z ∷ r) h = pieces-joined 44 (map signed (z ∷ r)) tt (λ p m i. let bad = field_bytes (z ∷ r) p m 44 i in omega arith)

-- ---- the lines
-- each row has as many numbers as its line asks
abbrev pub Fitting : (w line : ℕ) → List (List ℤ) → Type 0
Fitting w line [] = Unit {0}
Fitting w line (r ∷ rows) = (length r ≡ fields_in w line) × Fitting w (suc line) rows

some_fields : (w line : ℕ) → 0 < w → 0 < fields_in w line
unfolding fields_in
some_fields w line h = go (eqb line 1)
  where
    go : (b : Bool) → 0 < cond b 3 w
    go true = omega arith
    go false = h

pub rows_of_text : (w line : ℕ) (rows : List (List ℤ)) → 0 < w → Fitting w line rows → AllNineDigits rows → rows_from w line (pieces 10 (text_of rows)) ≡ Rows rows
unfolding rows_from pieces text_of flatten
rows_of_text w line [] h f n = refl
rows_of_text w line (r ∷ rows) h f n =
    ap (rows_from w line) (ap (pieces 10) (text_cons r rows) ∙ pieces-cut 10 (joined 44 (map signed r)) (text_of rows) (λ m. let bad = line_bytes r 10 m in omega arith))
    ∙ lines_next w line (joined 44 (map signed r)) (text_of rows)
    ∙ ap₂ (and_lines line) here (rows_of_text w (suc line) rows h f.1 (λ q m. n q (inr m)))
  where
    here : row (fields_in w line) (pieces 44 (joined 44 (map signed r))) ≡ Some r
    here =
        ap (row (fields_in w line)) (fields_line r (omega (arith, some_fields w line h)))
        ∙ ap (λ k. row k (map signed r)) (sym f.0) ∙ row_written r (n r (inl refl))

-- what lines were read from
pub record Lines (w line : ℕ) (text : List ℕ) (rows : List (List ℤ)) : Type 0 where
  pub is : text ≡ text_of rows
  pub fitting : Fitting w line rows
  pub small : AllNineDigits rows

lines_of : {w line : ℕ} {text : List ℕ} {q rows : List (List ℤ)} → Lines w line text q → Rows q ≡ Rows rows → Lines w line text rows
lines_of {w} {line} {text} {q} {rows} l e = let same : q ≡ rows = cc in subst (λ (s : List (List ℤ)). Lines w line text s) same l

no_lines : (w line : ℕ) → Lines w line [] []
unfolding text_of flatten
no_lines w line = record { is = refl; fitting = tt; small = λ r m. absurd m }

-- one more before them
lines_cons : (w line : ℕ) (s : List ℕ) {text : List ℕ} {r : List ℤ} {q : List (List ℤ)} → row (fields_in w line) (pieces 44 s) ≡ Some r → Lines w (suc line) text q → Lines w line (s ++ 10 ∷ text) (r ∷ q)
lines_cons w line s {text} {r} {q} p below = record { is = ap₂ (λ (x y : List ℕ). x ++ 10 ∷ y) here below.is ∙ sym (text_cons r q); fitting = (row-length (fields_in w line) (pieces 44 s) r p, below.fitting); small = small }
  where
    read : Line (pieces 44 s) r
    read = row_read (fields_in w line) (pieces 44 s) r p

    here : s ≡ joined 44 (map signed r)
    here = sym (joined-pieces 44 s) ∙ ap (joined 44) read.is

    small : (x : List ℤ) → (x ≡ r) ⊎ (x ∈ q) → (z : ℤ) → z ∈ x → NineDigits z
    small x (inl e) z m = read.small z (subst (λ (l : List ℤ). z ∈ l) e m)
    small x (inr i) z m = below.small x i z m

lines_read : (w line : ℕ) (ps : List (List ℕ)) (rows : List (List ℤ)) → rows_from w line ps ≡ Rows rows → Lines w line (joined 10 ps) rows
unfolding rows_from joined text_of flatten
lines_read w line [] rows e = absurd (differ (cc))
lines_read w line ([] ∷ []) rows e = lines_of (no_lines w line) e
lines_read w line ((b ∷ s) ∷ []) rows e = absurd (differ (cc))
lines_read w line (s ∷ t ∷ ps) rows e = go (row (fields_in w line) (pieces 44 s)) (rows_from w (suc line) (t ∷ ps)) refl e (lines_read w (suc line) (t ∷ ps))
  where
    go : (o : Option (List ℤ)) (f : RowsFound) → row (fields_in w line) (pieces 44 s) ≡ o → and_lines line o f ≡ Rows rows
        → ((q : List (List ℤ)) → f ≡ Rows q → Lines w (suc line) (joined 10 (t ∷ ps)) q) → Lines w line (s ++ 10 ∷ joined 10 (t ∷ ps)) rows
    go None f p a rest = absurd (differ (cc))
    go (Some r) (Bad n) p a rest = absurd (differ (cc))
    go (Some r) (Rows q) p a rest = lines_of (lines_cons w line s p (rest q refl)) a

pub text_of_rows : (w line : ℕ) (text : List ℕ) (rows : List (List ℤ)) → rows_from w line (pieces 10 text) ≡ Rows rows → Lines w line text rows
text_of_rows w line text rows e = subst (λ (s : List ℕ). Lines w line s rows) (joined-pieces 10 text) (lines_read w line (pieces 10 text) rows e)

-- ---- texts, written and read: w numbers in each row but the first
abbrev pub Wide : ℕ → List (List ℤ) → Type 0
Wide w rows = (r : List ℤ) → r ∈ rows → length r ≡ w

wide_fitting : (w n : ℕ) (rows : List (List ℤ)) → Wide w rows → Fitting w (suc (suc n)) rows
wide_fitting w n [] h = tt
wide_fitting w n (r ∷ rows) h = (h r (inl refl) ∙ sym (fields_later w (suc (suc n)) (omega arith)), wide_fitting w (suc n) rows (λ q m. h q (inr m)))

fitting_wide : (w n : ℕ) (rows : List (List ℤ)) → Fitting w (suc (suc n)) rows → Wide w rows
fitting_wide w n [] f r m = absurd m
fitting_wide w n (q ∷ rows) f r (inl e) = ap length e ∙ f.0 ∙ fields_later w (suc (suc n)) (omega arith)
fitting_wide w n (q ∷ rows) f r (inr m) = fitting_wide w (suc n) rows f.1 r m

-- the rows that a text holds after its choices
pub record Holds (w : ℕ) (text : List ℕ) (c : Choices) (rows : List (List ℤ)) : Type 0 where
  pub is : text ≡ text_of (choice_numbers c ∷ rows)
  pub wide : Wide w rows
  pub small : AllNineDigits (choice_numbers c ∷ rows)
  pub few : length text ≤ most_bytes

pub reads_back : {w : ℕ} {text : List ℕ} {c : Choices} {rows : List (List ℤ)} → 0 < w → Holds w text c rows → parsed w text ≡ Drawn c (flatten rows)
unfolding parsed choices_of choice_numbers fields_in
reads_back {w} {text} {c} {rows} h l =
    rw (le-ltb most_bytes (length text) l.few)
    (ap (λ (s : List ℕ). parsed_rows (rows_from w 1 (pieces 10 s))) l.is ∙ ap parsed_rows (rows_of_text w 1 (choice_numbers c ∷ rows) h (refl, wide_fitting w 0 rows l.wide) l.small))

-- three numbers are choices
three : (r : List ℤ) → length r ≡ 3 → choice_numbers (choices_of r) ≡ r
unfolding choice_numbers choices_of
three [] e = absurd (omega arith)
three (x ∷ []) e = absurd (omega arith)
three (x ∷ y ∷ []) e = absurd (omega arith)
three (x ∷ y ∷ z ∷ []) e = refl
three (x ∷ y ∷ z ∷ a ∷ r) e = absurd (omega arith)

-- a text that is read holds rows
pub record Found (w : ℕ) (text : List ℕ) (c : Choices) (numbers : List ℤ) : Type 0 where
  pub rows : List (List ℤ)
  pub held : Holds w text c rows
  pub flat : flatten rows ≡ numbers

pub found : (w : ℕ) (text : List ℕ) (c : Choices) (numbers : List ℤ) → parsed w text ≡ Drawn c numbers → Found w text c numbers
unfolding parsed fields_in
found w text c numbers e = go (ltb most_bytes (length text)) refl e
  where
    from : length text ≤ most_bytes → (f : RowsFound) → rows_from w 1 (pieces 10 text) ≡ f → parsed_rows f ≡ Drawn c numbers → Found w text c numbers
    from short (Bad n) p a = absurd (differ (cc))
    from short (Rows []) p a = absurd (differ (cc))
    from short (Rows (first ∷ rows)) p a =
        let l = text_of_rows w 1 text (first ∷ rows) p in
        let same : choices_of first ≡ c = cc in
        let is : first ≡ choice_numbers c = sym (three first l.fitting.0) ∙ ap choice_numbers same in
        record {
          rows = rows;
          held = record { is = l.is ∙ ap (λ (r : List ℤ). text_of (r ∷ rows)) is; wide = fitting_wide w 0 rows l.fitting.1; small = subst (λ (r : List ℤ). AllNineDigits (r ∷ rows)) is l.small; few = short };
          flat = cc;
        }

    go : (b : Bool) → ltb most_bytes (length text) ≡ b → cond b (BadLine 0) (parsed_rows (rows_from w 1 (pieces 10 text))) ≡ Drawn c numbers → Found w text c numbers
    go true t a = absurd (differ (cc))
    go false t a = from (ltb-false most_bytes (length text) t) (rows_from w 1 (pieces 10 text)) refl a
