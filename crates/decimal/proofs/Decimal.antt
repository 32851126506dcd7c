-- Numbers as bytes: what is written reads as the same number, and only what is written does.
use mathlib.Core.Path.{◌≡◌, refl, sym, ◌∙◌, ap, subst}
use mathlib.Core.Bool.{Bool, true, false, ◌||◌, cond}
use mathlib.Core.List.{List, [], ◌∷◌}
use mathlib.Core.Logic.{inl, inr}
use Prim.Native.Nat.{ℕ, zero, suc, ◌+◌, ◌*◌, ◌-◌, ◌/◌, ◌%◌, ◌^◌, ◌<◌, ◌≤◌}
use native.Mathlib.Nat.{pow-suc, pow-le-pow_right, mul-le-mul_right}
use native.Mathlib.Omega.{arith}
use borrow.Author.Tests.{ltb-true, ltb-false, leb-true, eqb-true, eqb-false, lt-ltb, le-ltb, le-leb, ne_eqb}
use lib.Dec.{eqb, leb, ltb, lit<, eqb-suc-zero}
use lib.ListN.{length}
use lib.IntN.{ℤ, pos, negsuc, neg_ℤ, nat_abs}
use Rattle.std.specs.Prelude.{Option, Some, None}
use Rattle.std.specs.Char.{is_ascii_digit}
use Rattle.std.specs.Option.{option_map}
use lib.Signed.{◌≤ℤ◌}
use Rattle.integers.proofs.Booleans.{both, both_l, both_r, neither, nor_l, nor_r}
use Rattle.std.proofs.lemmas.Option.{none-some}
use Rattle.lists.specs.Members.{◌∈◌}
use Rattle.decimal.specs.Decimal.{worth, positive, field_of, digits, decimal, signed, NineDigits}

-- ---- how the digits come about: the last one first
data Wrote : ℕ → ℕ → List ℕ → List ℕ → Type 0 where
  full : {n : ℕ} {s : List ℕ} → Wrote zero n s s
  last : {k n : ℕ} {s : List ℕ} → n < 10 → Wrote (suc k) n s ((48 + n) ∷ s)
  more : {k n : ℕ} {s r : List ℕ} → 10 ≤ n → Wrote k (n / 10) ((48 + n % 10) ∷ s) r → Wrote (suc k) n s r

wrote : (k n : ℕ) (s : List ℕ) → Wrote k n s (digits k n s)
unfolding digits
wrote zero n s = full
wrote (suc k) n s = go (ltb n 10) refl (wrote k (n / 10) ((48 + n % 10) ∷ s))
  where
    go : (b : Bool) → ltb n 10 ≡ b → {r : List ℕ} → Wrote k (n / 10) ((48 + n % 10) ∷ s) r → Wrote (suc k) n s (cond b ((48 + n) ∷ s) r)
    go true e w = last (ltb-true n 10 e)
    go false e w = more (ltb-false n 10 e) w

-- room for k digits is enough
length_wrote : {k n : ℕ} {s r : List ℕ} → Wrote k n s r → length r ≤ k + length s
length_wrote full = omega arith
length_wrote (last h) = omega arith
length_wrote (more h w) = omega (arith, length_wrote w)

-- a number of j + 1 digits has no more
length_below : {k n : ℕ} {s r : List ℕ} → Wrote k n s r → (j : ℕ) → n < 10 ^ suc j → length r ≤ suc j + length s
length_below full j h = omega arith
length_below (last l) j h = omega arith
length_below (more m w) zero h = absurd (omega arith)
length_below (more m w) (suc j) h = omega (arith, length_below w j (omega arith))

-- digits, or a minus
bytes_wrote : {k n : ℕ} {s r : List ℕ} → Wrote k n s r → ((x : ℕ) → x ∈ s → 45 ≤ x) → (x : ℕ) → x ∈ r → 45 ≤ x
bytes_wrote full h x m = h x m
bytes_wrote (last l) h x (inl e) = omega arith
bytes_wrote (last l) h x (inr m) = h x m
bytes_wrote (more {n = n} {s = s} l w) h x m = bytes_wrote w front x m
  where
    front : (y : ℕ) → y ∈ ((48 + n % 10) ∷ s) → 45 ≤ y
    front y (inl e) = omega arith
    front y (inr i) = h y i

-- ---- written, then read
worth_more : (v d u : ℕ) (s : List ℕ) → d < 10 → v * 10 + d ≡ u → worth v ((48 + d) ∷ s) ≡ worth u s
unfolding worth
worth_more v d u s h q =
    let digit : is_ascii_digit (48 + d) ≡ true = both (le-leb 48 (48 + d) (omega arith)) (le-leb (48 + d) 57 (omega arith)) in
    let e : 48 + d - 48 ≡ d = omega arith in
    rw (digit, e, q)

worth_wrote : {k n : ℕ} {s r : List ℕ} → Wrote k n s r → n < 10 ^ k → worth 0 r ≡ worth n s
worth_wrote (full {n} {s}) h = ap (λ v. worth v s) (omega arith)
worth_wrote (last {n = n} {s = s} l) h = worth_more 0 n n s l (omega arith)
worth_wrote (more {n = n} {s = s} m w) h = worth_wrote w (omega arith) ∙ worth_more (n / 10) (n % 10) n s (omega arith) (omega arith)

-- the first digit of a number above 0 is no 0
record Led (s : List ℕ) : Type 0 where
  first : ℕ
  rest : List ℕ
  is : s ≡ first ∷ rest
  above : 48 < first

led : {k n : ℕ} {s r : List ℕ} → Wrote k n s r → 0 < n → n < 10 ^ k → Led r
led full p h = absurd (omega arith)
led (last {n = n} {s = s} l) p h = record { first = 48 + n; rest = s; is = refl; above = omega arith }
led (more m w) p h = led w (omega arith) (omega arith)

nine_in_twenty : (n : ℕ) → n < 10 ^ 9 → n < 10 ^ 20
nine_in_twenty n h = omega arith

positive-decimal : (n : ℕ) → 0 < n → n < 10 ^ 9 → positive (decimal n) ≡ Some n
unfolding positive decimal worth
positive-decimal n p h =
    let w : Wrote 20 n [] (digits 20 n []) = wrote 20 n [] in
    let f = led w p (nine_in_twenty n h) in
    let short : length (f.first ∷ f.rest) ≤ 9 = subst (λ (s : List ℕ). length s ≤ 9) f.is (length_below w 8 h) in
    let plain : (eqb f.first 48 || ltb 9 (length (f.first ∷ f.rest))) ≡ false = neither (ne_eqb f.first 48 (omega (arith, f.above))) (le-ltb 9 (length (f.first ∷ f.rest)) short) in
    ap positive f.is ∙ rw plain (ap (worth 0) (sym f.is) ∙ worth_wrote w (nine_in_twenty n h))

pub field_signed : (z : ℤ) → NineDigits z → field_of (signed z) ≡ Some z
unfolding field_of signed decimal
field_signed (pos zero) h = unfold digits in refl
field_signed (pos (suc n)) h =
    let f = led (wrote 20 (suc n) []) (omega arith) (nine_in_twenty (suc n) h) in
    let plus : eqb f.first 45 ≡ false = ne_eqb f.first 45 (omega (arith, f.above)) in
    let some : eqb f.first 48 ≡ false = ne_eqb f.first 48 (omega (arith, f.above)) in
    ap field_of f.is ∙ rw (plus, some) (ap (λ (s : List ℕ). option_map pos (positive s)) (sym f.is) ∙ ap (option_map pos) (positive-decimal (suc n) (omega arith) h))
field_signed (negsuc n) h = ap (option_map (λ n. neg_ℤ (pos n))) (positive-decimal (suc n) (omega arith) h)

-- ---- read, then written
pub digit : (b : ℕ) → is_ascii_digit b ≡ true → (48 ≤ b) × (b ≤ 57)
digit b e = (leb-true 48 b (both_l (leb 48 b) (leb b 57) e), leb-true b 57 (both_r (leb 48 b) (leb b 57) e))

-- how digits are read, after digits worth v
data Reads : ℕ → List ℕ → ℕ → Type 0 where
  end : {v : ℕ} → Reads v [] v
  next : {v b m : ℕ} {s : List ℕ} → 48 ≤ b → b ≤ 57 → Reads (v * 10 + (b - 48)) s m → Reads v (b ∷ s) m

reads : (v : ℕ) (s : List ℕ) (m : ℕ) → worth v s ≡ Some m → Reads v s m
unfolding worth
reads v [] m e = let q : v ≡ m = cc in rw (← q) end
reads v (b ∷ s) m e = go (is_ascii_digit b) refl e (reads (v * 10 + (b - 48)) s m)
  where
    u : Option ℕ
    u = worth (v * 10 + (b - 48)) s

    go : (t : Bool) → is_ascii_digit b ≡ t → cond t u None ≡ Some m → (u ≡ Some m → Reads (v * 10 + (b - 48)) s m) → Reads v (b ∷ s) m
    go true e p r = let d = digit b e in next d.0 d.1 (r p)
    go false e p r = absurd (none-some m p)

-- digits only make a value larger
reads_above : {v m : ℕ} {s : List ℕ} → Reads v s m → v ≤ m
reads_above end = omega arith
reads_above (next lo hi r) = omega (arith, reads_above r)

below_reads : {v m : ℕ} {s : List ℕ} → Reads v s m → m < suc v * 10 ^ length s
below_reads end = omega arith
below_reads (next {v} {b} {m} {s} lo hi r) =
    let step : suc (v * 10 + (b - 48)) ≤ suc v * 10 = omega arith in
    rw (pow-suc 10 (length s)) (omega (arith, below_reads r, mul-le-mul_right (10 ^ length s) step))

pub digits-one : (k n : ℕ) (s : List ℕ) → n < 10 → digits (suc k) n s ≡ (48 + n) ∷ s
unfolding digits
digits-one k n s h = rw (lt-ltb n 10 h)

pub digits_more : (k n : ℕ) (s : List ℕ) → 10 ≤ n → digits (suc k) n s ≡ digits k (n / 10) ((48 + n % 10) ∷ s)
unfolding digits
digits_more k n s h = rw (le-ltb n 10 h)

digits_reads : {v m : ℕ} {s : List ℕ} → Reads v s m → 0 < v → (k : ℕ) → digits (k + length s) m [] ≡ digits k v s
digits_reads (end {v}) p k = ap (λ j. digits j v []) (omega arith)
digits_reads (next {v} {b} {m} {s} lo hi r) p k =
    let u : ℕ = v * 10 + (b - 48) in
    let room : k + suc (length s) ≡ suc k + length s = omega arith in
    let before : u / 10 ≡ v = omega arith in
    let here : 48 + u % 10 ≡ b = omega arith in
    ap (λ j. digits j m []) room ∙ digits_reads r (omega arith) (suc k) ∙ digits_more k u s (omega arith) ∙ rw (before, here)

-- at most nine digits, the first no 0
pub record Nine (s : List ℕ) (n : ℕ) : Type 0 where
  pub is : s ≡ decimal n
  pub above : 0 < n
  pub small : n < 10 ^ 9

nine_reads : {b m : ℕ} {s : List ℕ} → Reads 0 (b ∷ s) m → (b ≡ 48 → ⊥) → length (b ∷ s) ≤ 9 → Nine (b ∷ s) m
unfolding decimal
nine_reads (next {b = b} {m = m} {s = s} lo hi r) ne short =
    let k : ℕ = 19 - length s in
    let room : suc k + length s ≡ 20 = omega arith in
    let first : 48 + (0 * 10 + (b - 48)) ≡ b = omega arith in
    let all : digits 20 m [] ≡ b ∷ s = ap (λ j. digits j m []) (sym room) ∙ digits_reads r (omega arith) (suc k) ∙ digits-one k (0 * 10 + (b - 48)) s (omega arith) ∙ ap (λ x. x ∷ s) first in
    record { is = sym all; above = omega (arith, reads_above r); small = omega (arith, below_reads (next {v = 0} lo hi r), pow-le-pow_right (lit< {m = 0} {n = 10} tt) short) }

pub nine_positive : (s : List ℕ) (n : ℕ) → positive s ≡ Some n → Nine s n
unfolding positive
nine_positive [] n e = absurd (none-some n e)
nine_positive (b ∷ s) n e = go (eqb b 48 || ltb 9 (length (b ∷ s))) refl e
  where
    go : (t : Bool) → (eqb b 48 || ltb 9 (length (b ∷ s))) ≡ t → cond t None (worth 0 (b ∷ s)) ≡ Some n → Nine (b ∷ s) n
    go true e p = absurd (none-some n p)
    go false e p =
        let short : length (b ∷ s) ≤ 9 = ltb-false 9 (length (b ∷ s)) (nor_r (eqb b 48) (ltb 9 (length (b ∷ s))) e) in
        nine_reads (reads 0 (b ∷ s) n p) (eqb-false b 48 (nor_l (eqb b 48) (ltb 9 (length (b ∷ s))) e)) short

-- only what is written reads as a number
pub record Written (s : List ℕ) (z : ℤ) : Type 0 where
  pub is : s ≡ signed z
  pub small : NineDigits z

written_as : {s : List ℕ} {y z : ℤ} → s ≡ signed y → NineDigits y → Some y ≡ Some z → Written s z
written_as {s} {y} {z} i n e = let q : y ≡ z = cc in subst (λ (x : ℤ). Written s x) q (record { is = i; small = n })

plain_field : (s : List ℕ) (z : ℤ) (o : Option ℕ) → positive s ≡ o → option_map pos o ≡ Some z → Written s z
unfolding signed
plain_field s z None p e = absurd (none-some z e)
plain_field s z (Some n) p e = let w = nine_positive s n p in written_as w.is w.small e

minus_field : (s : List ℕ) (z : ℤ) (o : Option ℕ) → positive s ≡ o → option_map (λ n. neg_ℤ (pos n)) o ≡ Some z → Written (45 ∷ s) z
unfolding signed
minus_field s z None p e = absurd (none-some z e)
minus_field s z (Some zero) p e = absurd (omega (arith, (nine_positive s 0 p).above))
minus_field s z (Some (suc n)) p e = let w = nine_positive s (suc n) p in written_as (ap (λ (r : List ℕ). 45 ∷ r) w.is) w.small e

zero_field : (s : List ℕ) (z : ℤ) → cond (eqb (length s) 0) (Some (pos 0)) None ≡ Some z → Written (48 ∷ s) z
unfolding signed decimal digits
zero_field [] z e = written_as refl (lit< tt) e
zero_field (x ∷ s) z e = absurd (none-some z (rw (eqb-suc-zero (length s)) at e))

pub signed_field : (s : List ℕ) (z : ℤ) → field_of s ≡ Some z → Written s z
unfolding field_of
signed_field [] z e = absurd (none-some z e)
signed_field (b ∷ s) z e = go (eqb b 45) (eqb b 48) refl refl e
  where
    go : (m o : Bool) → eqb b 45 ≡ m → eqb b 48 ≡ o
        → cond m (option_map (λ n. neg_ℤ (pos n)) (positive s)) (cond o (cond (eqb (length s) 0) (Some (pos 0)) None) (option_map pos (positive (b ∷ s)))) ≡ Some z → Written (b ∷ s) z
    go true o p q k = rw (eqb-true b 45 p) (minus_field s z (positive s) refl k)
    go false true p q k = rw (eqb-true b 48 q) (zero_field s z k)
    go false false p q k = plain_field (b ∷ s) z (positive (b ∷ s)) refl k

-- ---- how long numbers are, and of which bytes
pub decimal_short : (n : ℕ) → length (decimal n) ≤ 20
unfolding decimal
decimal_short n = length_wrote (wrote 20 n [])

-- a number of j + 1 digits
pub signed_short : (j : ℕ) (z : ℤ) → nat_abs z < 10 ^ suc j → length (signed z) ≤ suc (suc j)
unfolding signed decimal
signed_short j (pos n) h = omega (arith, length_below (wrote 20 n []) j h)
signed_short j (negsuc n) h = omega (arith, length_below (wrote 20 (suc n) []) j h)

-- without a minus
pub unsigned_short : (j : ℕ) (z : ℤ) → pos 0 ≤ℤ z → nat_abs z < 10 ^ suc j → length (signed z) ≤ suc j
unfolding signed decimal
unsigned_short j (pos n) l h = omega (arith, length_below (wrote 20 n []) j h)
unsigned_short j (negsuc n) l h = absurd (omega arith)

pub signed_bytes : (z : ℤ) (x : ℕ) → x ∈ signed z → 45 ≤ x
unfolding signed decimal
signed_bytes (pos n) x m = bytes_wrote (wrote 20 n []) (λ y i. absurd i) x m
signed_bytes (negsuc n) x (inl e) = omega arith
signed_bytes (negsuc n) x (inr m) = bytes_wrote (wrote 20 (suc n) []) (λ y i. absurd i) x m
