-- What storing a line's numbers, and then those of the lines after it, leaves in the list.
use mathlib.Core.Path.{◌≡◌, refl, sym, ap, ap₂, ◌∙◌}
use mathlib.Core.List.{List, [], ◌∷◌, flatten}
use Rattle.std.specs.Prelude.{Option, None, Some}
use Prim.Native.Nat.{ℕ, zero, suc, ◌+◌, ◌-◌, ◌<◌, ◌≤◌}
use native.Mathlib.Omega.{arith}
use borrow.Author.Tests.{eq-eqb, ne_eqb, eqb-true}
use lib.Dec.{eqb, eqb-suc-zero}
use lib.ListN.{length, set, length-append}
use lib.Seq.{sets}
use lib.IntN.{ℤ}
use Rattle.integers.proofs.Booleans.{same_test}
use Rattle.lists.proofs.Written.{sets_append, sets_all}
use Rattle.decimal.specs.Decimal.{field_of}
use Rattle.text.specs.Grammar.{pieces, and_rest, row, fields_in, RowsFound, Bad, Rows, after_last, and_lines, rows_from}
use Rattle.text.specs.Storing.{row_stored, list_if, Numbers, rows_stored}
use Rattle.text.proofs.Grammar.Pieces.{NonEmpty, pieces-some}

-- two constructors that would be equal
pub differ : ◌≡◌ {A = ℕ} 0 1 → ⊥
differ e = omega arith

-- ---- a line
-- one field more
pub field_stored : (k i at : ℕ) (l : List ℤ) (f : List ℕ) (fields : List (List ℕ)) (z : ℤ) → i < k → field_of f ≡ Some z
    → row_stored (at + i) l (row (k - i) (f ∷ fields)) ≡ row_stored (at + (i + 1)) (set l (at + i) z) (row (k - (i + 1)) fields)
unfolding row
field_stored k i at l f fields z h e =
    let n : k - i ≡ suc (k - (i + 1)) = omega arith in
    let m : at + (i + 1) ≡ suc (at + i) = omega arith in
    rw (n, e, m) (more (row (k - (i + 1)) fields))
  where
    more : (o : Option (List ℤ)) → row_stored (at + i) l (and_rest (Some z) o) ≡ row_stored (suc (at + i)) (set l (at + i) z) o
    more None = refl
    more (Some r) = refl

pub field_bad : (k i : ℕ) (f : List ℕ) (fields : List (List ℕ)) → i < k → field_of f ≡ None → row (k - i) (f ∷ fields) ≡ None
unfolding row
field_bad k i f fields h e = let n : k - i ≡ suc (k - (i + 1)) = omega arith in rw (n, e)

-- no field is left: there were k
pub all_stored : (k i at : ℕ) (l : List ℤ) → i ≤ k → list_if (eqb i k) l ≡ row_stored at l (row (k - i) [])
unfolding row
all_stored k i at l h = ap (λ t. list_if t l) (same_test (eqb i k) (eqb (k - i) 0) (λ e. eq-eqb (k - i) 0 (omega (arith, eqb-true i k e))) (λ e. eq-eqb i k (omega (arith, eqb-true (k - i) 0 e)))) ∙ none_left (k - i)
  where
    none_left : (n : ℕ) → list_if (eqb n 0) l ≡ row_stored at l (row n [])
    none_left zero = refl
    none_left (suc n) = rw eqb-suc-zero

-- a field past the k-th
pub row_full : (s : List ℕ) → row 0 (pieces 44 s) ≡ None
unfolding row
row_full s = go (pieces 44 s) (pieces-some 44 s)
  where
    go : (fields : List (List ℕ)) → NonEmpty fields → row 0 fields ≡ None
    go [] h = absurd h
    go (f ∷ fields) h = refl

-- the numbers of k fields
pub row-length : (k : ℕ) (fields : List (List ℕ)) (zs : List ℤ) → row k fields ≡ Some zs → length zs ≡ k
unfolding row
row-length zero [] zs e = let q : zs ≡ [] = cc in rw q
row-length zero (f ∷ fields) zs e = absurd (differ (cc))
row-length (suc k) [] zs e = absurd (differ (cc))
row-length (suc k) (f ∷ fields) zs e = go (field_of f) (row k fields) (row-length k fields) e
  where
    go : (x : Option ℤ) (o : Option (List ℤ)) → ((ys : List ℤ) → o ≡ Some ys → length ys ≡ k) → and_rest x o ≡ Some zs → length zs ≡ suc k
    go None o rest e = absurd (differ (cc))
    go (Some y) None rest e = absurd (differ (cc))
    go (Some y) (Some ys) rest e = let q : zs ≡ y ∷ ys = cc in rw q (ap suc (rest ys refl))

-- ---- the lines
pub lines_next : (width line : ℕ) (s t : List ℕ) → rows_from width line (s ∷ pieces 10 t) ≡ and_lines line (row (fields_in width line) (pieces 44 s)) (rows_from width (suc line) (pieces 10 t))
unfolding rows_from
lines_next width line s t = go (pieces 10 t) (pieces-some 10 t)
  where
    go : (l : List (List ℕ)) → NonEmpty l → rows_from width line (s ∷ l) ≡ and_lines line (row (fields_in width line) (pieces 44 s)) (rows_from width (suc line) l)
    go [] h = absurd h
    go (p ∷ l) h = refl

-- every line but the first
pub fields_later : (width line : ℕ) → 2 ≤ line → fields_in width line ≡ width
unfolding fields_in
fields_later width line h = rw (ne_eqb line 1 (λ (e : line ≡ 1). omega arith))

-- a last line without its end
pub last_bad : (line : ℕ) (s : List ℕ) → 0 < length s → after_last line s ≡ Bad line
last_bad line [] h = absurd (omega arith)
last_bad line (b ∷ s) h = refl

pub line_bad : (line at : ℕ) (l : List ℤ) (o : Option (List ℤ)) (rest : RowsFound) → None ≡ row_stored at l o → and_lines line o rest ≡ Bad line
line_bad line at l None rest e = refl
line_bad line at l (Some r) rest e = absurd (differ (cc))

-- a line that was stored has numbers
pub row_stored_lem : {X : Type 0} (at : ℕ) (l m : List ℤ) (o : Option (List ℤ)) → Some m ≡ row_stored at l o → ((zs : List ℤ) → o ≡ Some zs → X) → X
row_stored_lem at l m None e f = absurd (differ (cc))
row_stored_lem at l m (Some r) e f = f r refl

-- one line more
pub line_stored : (line at k : ℕ) (l m : List ℤ) (o : Option (List ℤ)) (rest : RowsFound) → ((zs : List ℤ) → o ≡ Some zs → length zs ≡ k) → Some m ≡ row_stored at l o
    → rows_stored at l (and_lines line o rest) ≡ rows_stored (at + k) m rest
unfolding flatten
line_stored line at k l m None rest h e = absurd (differ (cc))
line_stored line at k l m (Some r) (Bad later) h e = refl
line_stored line at k l m (Some r) (Rows rows) h e =
    let n = h r refl in
    let q : m ≡ sets l at r = cc in
    ap₂ Numbers (omega (arith, length-append r (flatten rows))) (sets_append l at r (flatten rows) ∙ rw (n, q))

-- the first line's numbers fill their list
pub row-filled : (o : Option (List ℤ)) (l m : List ℤ) → ((zs : List ℤ) → o ≡ Some zs → length zs ≡ length l) → Some m ≡ row_stored 0 l o → o ≡ Some m
row-filled None l m h e = sym e
row-filled (Some r) l m h e = let q : m ≡ sets l 0 r = cc in ap Some (sym (q ∙ sets_all r l (h r refl)))
