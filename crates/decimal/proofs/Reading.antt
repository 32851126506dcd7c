-- How the code reads: what the length and the first byte tell, and then each digit.
use mathlib.Core.Path.{◌≡◌, refl, sym, ap, ◌∙◌}
use mathlib.Core.List.{List, [], ◌∷◌}
use mathlib.Core.Bool.{Bool, true, false, cond}
use Prim.Native.Nat.{ℕ, ◌+◌, ◌*◌, ◌-◌, ◌<◌, ◌≤◌}
use native.Mathlib.Numerals.{add-one}
use native.Mathlib.Omega.{arith}
use borrow.Author.Tests.{eqb-true, lt-ltb, eq-eqb, ne_eqb, le-ltb}
use lib.Dec.{eqb, ltb}
use lib.ListN.{length, get_or, take, drop, drop_of_length-le}
use lib.Seq.{take-length, drop-cons}
use Rattle.std.specs.Prelude.{pos, neg_ℤ, Some, None}
use Rattle.std.specs.Option.{option_map}
use Rattle.std.specs.Char.{is_ascii_digit}
use Rattle.integers.proofs.Booleans.{or_l, or_r, neither}
use Rattle.decimal.specs.Decimal.{worth, positive, field_of}

-- ---- no digit, a 0 first, or too many
pub none_empty : (s : List ℕ) → length s ≡ 0 → positive s ≡ None
unfolding positive
none_empty [] h = refl
none_empty (b ∷ s) h = absurd (omega arith)

pub none_zero : (s : List ℕ) → get_or s 0 0 ≡ 48 → positive s ≡ None
unfolding positive
none_zero [] h = refl
none_zero (b ∷ s) h = rw (or_l (ltb 9 (length (b ∷ s))) (eq-eqb b 48 h))

pub none_long : (s : List ℕ) → 9 < length s → positive s ≡ None
unfolding positive
none_long [] h = refl
none_long (b ∷ s) h = rw (or_r (eqb b 48) (lt-ltb 9 (length (b ∷ s)) h))

pub ruleset refused = (none_empty, none_zero, none_long)

-- ---- digit by digit
pub worth_all : (s : List ℕ) → (length s ≡ 0 → ⊥) → (get_or s 0 0 ≡ 48 → ⊥) → length s ≤ 9 → positive s ≡ worth 0 s
unfolding positive
worth_all [] n z h = absurd (n refl)
worth_all (b ∷ s) n z h = rw (neither (ne_eqb b 48 z) (le-ltb 9 (length (b ∷ s)) h))

module _ (s : List ℕ) (i v : ℕ) where
  pub worth_more : i < length s → is_ascii_digit (get_or s i 0) ≡ true → worth v (drop i s) ≡ worth (v * 10 + (get_or s i 0 - 48)) (drop (i + 1) s)
  unfolding worth
  worth_more h d = rw (add-one, drop-cons s i 0, d)

  pub worth_other : i < length s → is_ascii_digit (get_or s i 0) ≡ false → worth v (drop i s) ≡ None
  unfolding worth
  worth_other h d = rw (drop-cons s i 0, d)

  pub worth_none : length s ≤ i → worth v (drop i s) ≡ Some v
  unfolding worth
  worth_none h = rw (drop_of_length-le s h)

-- ---- a field
pub field_zero : (s : List ℕ) → get_or s 0 0 ≡ 48 → length s ≡ 1 → field_of s ≡ Some (pos 0)
unfolding field_of
field_zero [] z h = absurd (omega arith)
field_zero (b ∷ []) z h = rw z
field_zero (b ∷ x ∷ s) z h = absurd (omega arith)

pub field_minus : (s : List ℕ) → get_or s 0 0 ≡ 45 → field_of s ≡ option_map (λ n. neg_ℤ (pos n)) (positive (take (length s - 1) (drop 1 s)))
unfolding field_of
field_minus [] m = absurd (omega arith)
field_minus (b ∷ s) m = let e : take (length (b ∷ s) - 1) s ≡ s = ap (λ n. take n s) (omega arith) ∙ take-length s in rw (m, e)

pub field_plain : (s : List ℕ) → (length s ≡ 1 → get_or s 0 0 ≡ 48 → ⊥) → (0 < length s → get_or s 0 0 ≡ 45 → ⊥) → field_of s ≡ option_map pos (positive s)
unfolding field_of positive
field_plain [] z m = refl
field_plain (b ∷ s) z m = go (eqb b 48) refl
  where
    go : (t : Bool) → eqb b 48 ≡ t → cond (eqb b 45) (option_map (λ n. neg_ℤ (pos n)) (positive s)) (cond t (cond (eqb (length s) 0) (Some (pos 0)) None) (option_map pos (positive (b ∷ s)))) ≡ option_map pos (positive (b ∷ s))
    go false e = rw (ne_eqb b 45 (m (omega arith)))
    go true e =
        let q = eqb-true b 48 e in
        let some : eqb (length s) 0 ≡ false = ne_eqb (length s) 0 (λ (h : length s ≡ 0). z (omega arith) q) in
        rw (ne_eqb b 45 (m (omega arith)), some) (ap (option_map pos) (sym (none_zero (b ∷ s) q)))
