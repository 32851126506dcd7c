-- What is set of the two bits of a link, with one of them cleared.
use mathlib.Core.Path.{◌≡◌, refl, ap, ap₂}
use mathlib.Core.Bool.{Bool, true, false, not, cond}
use Prim.Native.Nat.{ℕ, zero, suc, ◌+◌, ◌-◌, ◌/◌, ◌%◌, ◌<◌}
use native.Mathlib.Omega.{arith}
use borrow.Author.Tests.{eqb-true, eqb-false, eq-eqb, ne_eqb}
use lib.Dec.{eqb}
use Rattle.lists.specs.Sums.{one}
use Rattle.moves.specs.Bits.{has, clear, bits_set}

-- none is set
pub none-set : (b : ℕ) (forth : Bool) → b % 4 ≡ 0 → has forth b ≡ false
unfolding has
none-set b true h = ne_eqb (b % 2) 1 (omega arith)
none-set b false h = ne_eqb (b / 2 % 2) 1 (omega arith)

-- where bit 1 is not set, bit 2 is
pub second_set : (b : ℕ) → (b % 4 ≡ 0 → ⊥) → has true b ≡ false → has false b ≡ true
unfolding has
second_set b h e = eq-eqb (b / 2 % 2) 1 (omega (arith, eqb-false (b % 2) 1 e))

-- ---- as numbers
one_is : (m : ℕ) → m < 2 → one (eqb m 1) ≡ m
one_is zero h = refl
one_is (suc zero) h = refl
one_is (suc (suc m)) h = absurd (omega arith)

pub bit_one : (b : ℕ) → one (has true b) ≡ b % 2
unfolding has
bit_one b = one_is (b % 2) (omega arith)

pub set_are : (b : ℕ) → bits_set b ≡ b % 2 + b / 2 % 2
unfolding has
set_are b = ap₂ ◌+◌ (bit_one b) (one_is (b / 2 % 2) (omega arith))

-- ---- one cleared
-- it is not set, and the other as before
pub has_cleared : (forth : Bool) (b : ℕ) → has forth b ≡ true → has forth (clear forth b) ≡ false
unfolding has clear
has_cleared true b e = ne_eqb ((b - 1) % 2) 1 (omega (arith, eqb-true (b % 2) 1 e))
has_cleared false b e = ne_eqb ((b - 2) / 2 % 2) 1 (omega (arith, eqb-true (b / 2 % 2) 1 e))

pub has_other : (forth : Bool) (b : ℕ) → has forth b ≡ true → has (not forth) (clear forth b) ≡ has (not forth) b
unfolding has clear
has_other true b e = let h : (b - 1) / 2 ≡ b / 2 = omega (arith, eqb-true (b % 2) 1 e) in ap (λ z. eqb (z % 2) 1) h
has_other false b e = let h : (b - 2) % 2 ≡ b % 2 = omega (arith, eqb-true (b / 2 % 2) 1 e) in ap (λ z. eqb z 1) h

-- so what the two come to is less by the one that is cleared
pub spend_bit : (f : Bool → ℕ) (forth : Bool) (b : ℕ) → has forth b ≡ true
    → cond (has true b) (f true) 0 + cond (has false b) (f false) 0 ≡ f forth + (cond (has true (clear forth b)) (f true) 0 + cond (has false (clear forth b)) (f false) 0)
spend_bit f true b e = rw (e, has_cleared true b e, has_other true b e) (omega arith)
spend_bit f false b e = rw (e, has_cleared false b e, has_other false b e) (omega arith)
