-- The lengths counted are those of the bytes; digits counted one by one; how long numbers and lines are at most.
use mathlib.Core.Path.{◌≡◌, refl, ap, ◌∙◌}
use mathlib.Core.Bool.{Bool, true, false, cond}
use mathlib.Core.List.{List, [], ◌∷◌, map, flatten}
use Prim.Native.Nat.{ℕ, zero, suc, ◌+◌, ◌/◌, ◌%◌, ◌^◌, ◌<◌, ◌≤◌, ◌*◌, max}
use native.Mathlib.Nat.{pow-suc}
use native.Mathlib.Omega.{arith}
use borrow.Author.Tests.{lt-ltb, le-ltb}
use lib.Dec.{ltb}
use lib.ListN.{length, length-append}
use lib.IntN.{ℤ, pos, negsuc, nat_abs}
use lib.Signed.{◌≤ℤ◌, lt_z}
use mir.Val.{bool_byte}
use Rattle.lists.specs.Sums.{tally}
use Rattle.lists.proofs.Sums.{tally_map}
use Rattle.decimal.specs.Decimal.{digits, decimal, signed}
use Rattle.decimal.proofs.Decimal.{decimal_short, signed_short, unsigned_short}
use Rattle.writing.specs.Lines.{joined, line_of, text_of, refused_word, refused_line}
use Rattle.writing.specs.Lengths.{digits_up_to, digits_in, signed_length, line_length, row_length, text_length, refused_length}

-- ---- numbers
length_digits : (k n : ℕ) (s : List ℕ) → length (digits k n s) ≡ digits_up_to k n + length s
unfolding digits digits_up_to
length_digits zero n s = omega arith
length_digits (suc k) n s = go (ltb n 10) (digits k (n / 10) ((48 + n % 10) ∷ s)) (length_digits k (n / 10) ((48 + n % 10) ∷ s))
  where
    go : (b : Bool) (r : List ℕ) → length r ≡ digits_up_to k (n / 10) + suc (length s) → length (cond b ((48 + n) ∷ s) r) ≡ cond b 1 (suc (digits_up_to k (n / 10))) + length s
    go true r h = omega arith
    go false r h = omega arith

pub length-decimal : (n : ℕ) → length (decimal n) ≡ digits_in n
unfolding decimal digits_in
length-decimal n = omega (arith, length_digits 20 n [])

pub length-signed : (z : ℤ) → length (signed z) ≡ signed_length z
unfolding signed signed_length
length-signed (pos n) = length-decimal n
length-signed (negsuc n) = ap suc (length-decimal (suc n))

-- one digit, or one more than without the last
pub count-one : (k n : ℕ) → n < 10 → digits_up_to (suc k) n ≡ 1
unfolding digits_up_to
count-one k n h = rw (lt-ltb n 10 h)

pub count_more : (k n : ℕ) → 10 ≤ n → digits_up_to (suc k) n ≡ suc (digits_up_to k (n / 10))
unfolding digits_up_to
count_more k n h = rw (le-ltb n 10 h)

-- one more than the exponent of the largest power of ten that is not above n (of n = 0 the power is 1)
pub digits_by_power : (j k n : ℕ) → k ≤ j → 10 ^ k ≤ max n 1 → max n 1 < 10 * 10 ^ k → digits_up_to (suc j) n ≡ suc k
digits_by_power j zero n h lo hi = count-one j n (omega arith)
digits_by_power zero (suc k) n h lo hi = absurd (omega arith)
digits_by_power (suc j) (suc k) n h lo hi =
    let p : 0 < 10 ^ k = pow-pos k in
    let e : 10 ^ suc k ≡ 10 ^ k * 10 = pow-suc 10 k in
    count_more (suc j) n (omega arith) ∙ ap suc (digits_by_power j k (n / 10) (omega arith) (omega arith) (omega arith))
  where
    pow-pos : (k : ℕ) → 0 < 10 ^ k
    pow-pos zero = omega arith
    pow-pos (suc k) = let e : 10 ^ suc k ≡ 10 ^ k * 10 = pow-suc 10 k in omega (arith, pow-pos k)

-- one for the minus
pub sign_and_digits : (z : ℤ) → digits_in (nat_abs z) + bool_byte (lt_z z (pos 0)) ≡ signed_length z
unfolding signed_length
sign_and_digits (pos n) = rw (le-ltb n 0 (omega arith)) (omega arith)
sign_and_digits (negsuc n) = omega arith

-- ---- lines
length-joined : (b : ℕ) (f : List ℕ) (fields : List (List ℕ)) → suc (length (joined b (f ∷ fields))) ≡ tally suc (map length (f ∷ fields))
unfolding joined tally
length-joined b f [] = omega arith
length-joined b f (g ∷ fields) = omega (arith, length-append f (b ∷ joined b (g ∷ fields)), length-joined b g fields)

pub length-line : (fields : List (List ℕ)) → length (line_of fields) ≡ line_length (map length fields)
unfolding line_of line_length
length-line [] = unfold joined in refl
length-line (f ∷ fields) = omega (arith, length-append (joined 44 (f ∷ fields)) (10 ∷ []), length-joined 44 f fields)

lengths_signed : (row : List ℤ) → map length (map signed row) ≡ map signed_length row
lengths_signed [] = refl
lengths_signed (z ∷ row) = rw (length-signed z, lengths_signed row)

pub length-row : (row : List ℤ) → length (line_of (map signed row)) ≡ row_length row
unfolding row_length
length-row row = length-line (map signed row) ∙ ap line_length (lengths_signed row)

pub no_numbers : (row : List ℤ) → length row ≡ 0 → 1 ≡ row_length row
unfolding row_length line_length
no_numbers [] h = refl
no_numbers (z ∷ row) h = absurd (omega arith)

-- each number with the byte after it
pub row_tally : (row : List ℤ) → 0 < length row → row_length row ≡ tally (λ z. suc (signed_length z)) row
unfolding row_length line_length
row_tally [] h = absurd (omega arith)
row_tally (z ∷ row) h = tally_map suc signed_length (z ∷ row)

pub length_text : (rows : List (List ℤ)) → length (text_of rows) ≡ text_length rows
unfolding text_of text_length tally flatten
length_text [] = refl
length_text (row ∷ rows) = omega (arith, length-append (line_of (map signed row)) (text_of rows), length-row row, length_text rows)

pub length_refused : (number place : ℕ) → length (refused_line number place) ≡ refused_length number place
unfolding refused_line refused_length
length_refused number place = length-line (refused_word ∷ decimal number ∷ decimal place ∷ []) ∙ rw (length-decimal number, length-decimal place)

-- ---- at most so long
pub at_most_20 : (n : ℕ) → digits_in n ≤ 20
at_most_20 n = omega (arith, decimal_short n, length-decimal n)

pub at_most_21 : (z : ℤ) → signed_length z ≤ 21
unfolding signed_length
at_most_21 (pos n) = omega (arith, at_most_20 n)
at_most_21 (negsuc n) = omega (arith, at_most_20 (suc n))

-- a number of j + 1 digits, with a minus or none
pub signed_most : (j : ℕ) (z : ℤ) → nat_abs z < 10 ^ suc j → signed_length z ≤ suc (suc j)
signed_most j z h = omega (arith, length-signed z, signed_short j z h)

-- one without a minus
pub unsigned_most : (j : ℕ) (z : ℤ) → pos 0 ≤ℤ z → nat_abs z < 10 ^ suc j → signed_length z ≤ suc j
unsigned_most j z l h = omega (arith, length-signed z, unsigned_short j z l h)

-- twice 20 digits, the word, two commas and LF
pub refused_short : (number place : ℕ) → refused_length number place ≤ 50
unfolding refused_length line_length tally
refused_short number place = omega (arith, at_most_20 number, at_most_20 place)
