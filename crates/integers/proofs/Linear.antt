-- omega on the integers where it stands: each integer z has two naturals, `up z` and `down z`, and is their difference. The rules of `ints` read an order, an equation or a flag of integers, among the hypotheses, the fields or the goal, as one of those naturals.
-- A sum, a difference, a negation or a literal that stands there is told by its lemma in the list: `omega (ints, of-+ a b, of_pos 3)`.
use mathlib.Core.Path.{◌≡◌, sym, ◌∙◌, ap, subst}
use mathlib.Core.Bool.{true, false}
use Prim.Native.Nat.{ℕ, ◌+◌, min, ◌<◌, ◌≤◌}
use native.Mathlib.Omega.{arith}
use lib.IntN.{ℤ, pos, negsuc, neg_ℤ, ◌+ℤ◌, ◌-ℤ◌, nat_abs}
use lib.Signed.{lt_z, le_z, ◌≤ℤ◌, ◌<ℤ◌}
use Rattle.integers.proofs.Difference.{up, down, is_difference, ◌⊖◌, +-⊖, neg-⊖, ≤-⊖, <-⊖, ≡-⊖}
use Rattle.integers.proofs.Order.{lt_z_true, lt_z_false, le_z_true, le_z_false}

-- a relation of integers, said of their differences, and back
module _ (R : ℤ → ℤ → Type 0) (a b : ℤ) where
  as_differences : R a b → R (up a ⊖ down a) (up b ⊖ down b)
  as_differences h = subst (R (up a ⊖ down a)) (is_difference b) (subst (λ z. R z b) (is_difference a) h)

  from_differences : R (up a ⊖ down a) (up b ⊖ down b) → R a b
  from_differences h = subst (λ z. R z b) (sym (is_difference a)) (subst (R (up a ⊖ down a)) (sym (is_difference b)) h)

-- ---- the rules for hypotheses
pub from-≤ : (a b : ℤ) → a ≤ℤ b → up a + down b ≤ up b + down a
from-≤ a b h = (≤-⊖ (up a) (down a) (up b) (down b)).0 (as_differences ◌≤ℤ◌ a b h)

pub from-< : (a b : ℤ) → a <ℤ b → up a + down b < up b + down a
from-< a b h = (<-⊖ (up a) (down a) (up b) (down b)).0 (as_differences ◌<ℤ◌ a b h)

pub from-≡ : (a b : ℤ) → a ≡ b → up a + down b ≡ up b + down a
from-≡ a b h = (≡-⊖ (up a) (down a) (up b) (down b)).0 (sym (is_difference a) ∙ h ∙ is_difference b)

pub from_lt_true : (a b : ℤ) → lt_z a b ≡ true → up a + down b < up b + down a
from_lt_true a b e = from-< a b (lt_z_true e)

pub from_lt_false : (a b : ℤ) → lt_z a b ≡ false → up b + down a ≤ up a + down b
from_lt_false a b e = from-≤ b a (lt_z_false e)

pub from_le_true : (a b : ℤ) → le_z a b ≡ true → up a + down b ≤ up b + down a
from_le_true a b e = from-≤ a b (le_z_true e)

pub from_le_false : (a b : ℤ) → le_z a b ≡ false → up b + down a < up a + down b
from_le_false a b e = from-< b a (le_z_false e)

-- ---- and for goals
pub to-≤ : (a b : ℤ) → up a + down b ≤ up b + down a → a ≤ℤ b
to-≤ a b h = from_differences ◌≤ℤ◌ a b ((≤-⊖ (up a) (down a) (up b) (down b)).1 h)

pub to-< : (a b : ℤ) → up a + down b < up b + down a → a <ℤ b
to-< a b h = from_differences ◌<ℤ◌ a b ((<-⊖ (up a) (down a) (up b) (down b)).1 h)

pub to-≡ : (a b : ℤ) → up a + down b ≡ up b + down a → a ≡ b
to-≡ a b h = is_difference a ∙ (≡-⊖ (up a) (down a) (up b) (down b)).1 h ∙ sym (is_difference b)

pub ruleset ints = (arith, from-≤, from-<, from-≡, from_lt_true, from_lt_false, from_le_true, from_le_false, to-≤, to-<, to-≡)

-- ---- compound integers, for the list
pub of-+ : (a b : ℤ) → up (a +ℤ b) + (down a + down b) ≡ (up a + up b) + down (a +ℤ b)
of-+ a b = (≡-⊖ (up (a +ℤ b)) (down (a +ℤ b)) (up a + up b) (down a + down b)).0 (sym (is_difference (a +ℤ b)) ∙ (λ i. is_difference a i +ℤ is_difference b i) ∙ +-⊖ (up a) (down a) (up b) (down b))

pub of_neg : (a : ℤ) → up (neg_ℤ a) + up a ≡ down a + down (neg_ℤ a)
of_neg a = (≡-⊖ (up (neg_ℤ a)) (down (neg_ℤ a)) (down a) (up a)).0 (sym (is_difference (neg_ℤ a)) ∙ ap neg_ℤ (is_difference a) ∙ neg-⊖ (up a) (down a))

pub of-- : (a b : ℤ) → up (a -ℤ b) + (down a + up b) ≡ (up a + down b) + down (a -ℤ b)
of-- a b = (≡-⊖ (up (a -ℤ b)) (down (a -ℤ b)) (up a + down b) (down a + up b)).0 (sym (is_difference (a -ℤ b)) ∙ (λ i. is_difference a i +ℤ neg_ℤ (is_difference b i)) ∙ ap (λ z. (up a ⊖ down a) +ℤ z) (neg-⊖ (up b) (down b)) ∙ +-⊖ (up a) (down a) (down b) (up b))

pub of_pos : (n : ℕ) → up (pos n) ≡ n + down (pos n)
unfolding up down
of_pos n = omega arith

pub of_abs : (a : ℤ) → nat_abs a ≡ up a + down a
unfolding up down
of_abs (pos n) = omega arith
of_abs (negsuc n) = omega arith

-- one of the two naturals is 0
pub of_side : (a : ℤ) → min (up a) (down a) ≡ 0
unfolding up down
of_side (pos n) = omega arith
of_side (negsuc n) = omega arith
