-- The order of the integers with its products, the tests that decide it, and magnitudes.
use mathlib.Core.Path.{◌≡◌, refl, sym, ◌∙◌, subst}
use mathlib.Core.Logic.{◌↔◌, ◌⊎◌, inl, inr, ⊎_elim}
use mathlib.Core.Bool.{Bool, true, false, not}
use Prim.Native.Nat.{ℕ, zero, suc, ◌+◌, ◌*◌, ◌^◌, ◌<◌, ◌≤◌, zero-le}
use native.Mathlib.Nat as N
use native.Mathlib.Omega.{arith}
use lib.Dec.{T, lt→ltb, le→leb}
use lib.IntN.{ℤ, pos, negsuc, neg_ℤ, ◌+ℤ◌, ◌-ℤ◌, ◌*ℤ◌, nat_abs, *ℤ-zero}
use lib.Signed.{lt_z, le_z, mag, ◌≤ℤ◌, ◌<ℤ◌, le_z_yes, lt_z_yes, lt_z_no, ≤ℤ_refl}
use mir.Syntax.{Width}
use mir.Val.{SFits, hbits}
use Rattle.integers.proofs.Booleans.{clash, is_t, is_false}
use Rattle.integers.proofs.Difference.{to-ℕ, all1, all2}
use Rattle.integers.proofs.Laws.{<ℤ-not-≤ℤ, <ℤ-≤ℤ, ≤ℤ-antisym}

-- ---- the tests
pub order : (a b : ℤ) → (a <ℤ b) ⊎ (b ≤ℤ a)
order a b = go (lt_z a b) refl
  where
    go : (t : Bool) → lt_z a b ≡ t → (a <ℤ b) ⊎ (b ≤ℤ a)
    go true e = inl (lt_z_yes (subst T (sym e) tt))
    go false e = inr (lt_z_no (subst (λ (t : Bool). T (not t)) (sym e) tt))

pub lt_z_true : {a b : ℤ} → lt_z a b ≡ true → a <ℤ b
lt_z_true e = lt_z_yes (subst T (sym e) tt)

pub lt_z_false : {a b : ℤ} → lt_z a b ≡ false → b ≤ℤ a
lt_z_false e = lt_z_no (subst (λ (t : Bool). T (not t)) (sym e) tt)

pub le_z_true : {a b : ℤ} → le_z a b ≡ true → a ≤ℤ b
le_z_true e = le_z_yes (subst T (sym e) tt)

pub lt_lt_z : {a b : ℤ} → a <ℤ b → lt_z a b ≡ true
lt_lt_z {a} {b} h = is_t (lt_z a b) h.lt

pub le_lt_z : {a b : ℤ} → b ≤ℤ a → lt_z a b ≡ false
le_lt_z {a} {b} h = is_false (lt_z a b) (λ e. <ℤ-not-≤ℤ a b (lt_z_true e) h)

pub le_le_z : {a b : ℤ} → a ≤ℤ b → le_z a b ≡ true
le_le_z {a} {b} h = is_t (le_z a b) h.le

pub lt_le_z : {a b : ℤ} → b <ℤ a → le_z a b ≡ false
lt_le_z {a} {b} h = is_false (le_z a b) (λ e. <ℤ-not-≤ℤ b a h (le_z_true e))

pub le_z_false : {a b : ℤ} → le_z a b ≡ false → b <ℤ a
le_z_false {a} {b} e = ⊎_elim (λ h. h) (λ h. absurd (clash (le_le_z h) e)) (order b a)

-- ---- signs: what is positive is a natural's successor
pub pos_cases : (S : ℤ → Type 0) → ((n : ℕ) → S (pos (suc n))) → (a : ℤ) → pos 0 <ℤ a → S a
pos_cases S f (pos zero) h = absurd h.lt
pos_cases S f (pos (suc n)) h = f n
pos_cases S f (negsuc n) h = absurd h.lt

pub nonneg_cases : (S : ℤ → Type 0) → ((n : ℕ) → S (pos n)) → (a : ℤ) → pos 0 ≤ℤ a → S a
nonneg_cases S f (pos n) h = f n
nonneg_cases S f (negsuc n) h = absurd h.le

-- a product with a factor that is not negative keeps an order
pub *-mono : (k : ℤ) → pos 0 ≤ℤ k → (a b : ℤ) → a ≤ℤ b → (k *ℤ a) ≤ℤ (k *ℤ b)
*-mono = nonneg_cases _ (λ k. all2 _ (λ p m q n. simp to-ℕ (λ h. omega (arith, N.mul-le-mul_left k h))))

pub *-mono-< : (k : ℤ) → pos 0 <ℤ k → (a b : ℤ) → a <ℤ b → (k *ℤ a) <ℤ (k *ℤ b)
*-mono-< = pos_cases _ (λ k. all2 _ (λ p m q n. simp to-ℕ (λ h. omega (arith, N.mul-le-mul_left (suc k) h))))

pub *-cancel-< : (k : ℤ) → pos 0 ≤ℤ k → (a b : ℤ) → (k *ℤ a) <ℤ (k *ℤ b) → a <ℤ b
*-cancel-< k hk a b h = ⊎_elim (λ g. g) (λ g. absurd (<ℤ-not-≤ℤ (k *ℤ a) (k *ℤ b) h (*-mono k hk b a g))) (order a b)

pub *-cancel-≤ : (k : ℤ) → pos 0 <ℤ k → (a b : ℤ) → (k *ℤ a) ≤ℤ (k *ℤ b) → a ≤ℤ b
*-cancel-≤ k hk a b h = ⊎_elim (λ g. absurd (<ℤ-not-≤ℤ (k *ℤ b) (k *ℤ a) (*-mono-< k hk b a g) h)) (λ g. g) (order b a)

-- ---- positivity, for `search positive`
mul_pos' : (a : ℤ) → pos 0 <ℤ a → (b : ℤ) → pos 0 <ℤ b → pos 0 <ℤ (a *ℤ b)
mul_pos' = pos_cases _ (λ i. pos_cases _ (λ j. record { lt = lt→ltb 0 (suc i * suc j) (omega arith) }))

pub mul_pos : {a b : ℤ} → pos 0 <ℤ a → pos 0 <ℤ b → pos 0 <ℤ (a *ℤ b)
mul_pos {a} {b} h k = mul_pos' a h b k

mul_nonneg' : (a : ℤ) → pos 0 ≤ℤ a → (b : ℤ) → pos 0 ≤ℤ b → pos 0 ≤ℤ (a *ℤ b)
mul_nonneg' = nonneg_cases _ (λ i. nonneg_cases _ (λ j. record { le = le→leb 0 (i * j) zero-le }))

pub mul_nonneg : {a b : ℤ} → pos 0 ≤ℤ a → pos 0 ≤ℤ b → pos 0 ≤ℤ (a *ℤ b)
mul_nonneg {a} {b} h k = mul_nonneg' a h b k

add_pos' : (a b : ℤ) → pos 0 <ℤ a → pos 0 <ℤ b → pos 0 <ℤ (a +ℤ b)
add_pos' = all2 _ (λ _ _ _ _. simp to-ℕ (omega arith))

pub add_pos : {a b : ℤ} → pos 0 <ℤ a → pos 0 <ℤ b → pos 0 <ℤ (a +ℤ b)
add_pos {a} {b} = add_pos' a b

add_pos_l' : (a b : ℤ) → pos 0 <ℤ a → pos 0 ≤ℤ b → pos 0 <ℤ (a +ℤ b)
add_pos_l' = all2 _ (λ _ _ _ _. simp to-ℕ (omega arith))

pub add_pos_l : {a b : ℤ} → pos 0 <ℤ a → pos 0 ≤ℤ b → pos 0 <ℤ (a +ℤ b)
add_pos_l {a} {b} = add_pos_l' a b

add_nonneg' : (a b : ℤ) → pos 0 ≤ℤ a → pos 0 ≤ℤ b → pos 0 ≤ℤ (a +ℤ b)
add_nonneg' = all2 _ (λ _ _ _ _. simp to-ℕ (omega arith))

pub add_nonneg : {a b : ℤ} → pos 0 ≤ℤ a → pos 0 ≤ℤ b → pos 0 ≤ℤ (a +ℤ b)
add_nonneg {a} {b} = add_nonneg' a b

sub_pos' : (a b : ℤ) → a <ℤ b → pos 0 <ℤ (b -ℤ a)
sub_pos' = all2 _ (λ _ _ _ _. simp to-ℕ (omega arith))

pub sub_pos : {a b : ℤ} → a <ℤ b → pos 0 <ℤ (b -ℤ a)
sub_pos {a} {b} = sub_pos' a b

sub_nonneg' : (a b : ℤ) → a ≤ℤ b → pos 0 ≤ℤ (b -ℤ a)
sub_nonneg' = all2 _ (λ _ _ _ _. simp to-ℕ (omega arith))

pub sub_nonneg : {a b : ℤ} → a ≤ℤ b → pos 0 ≤ℤ (b -ℤ a)
sub_nonneg {a} {b} = sub_nonneg' a b

pub lt_le : {a b : ℤ} → a <ℤ b → a ≤ℤ b
lt_le {a} {b} = <ℤ-≤ℤ a b

pub ruleset positive = (mul_pos, add_pos, sub_pos, mul_nonneg, add_nonneg, add_pos_l, sub_nonneg, lt_le)

-- v * e is r, and v and r are positive: so is e. The equation is `ring`'s, the two others are `search positive`'s
pub pos_by : {v e r : ℤ} → v *ℤ e ≡ r → pos 0 <ℤ v → pos 0 <ℤ r → pos 0 <ℤ e
pos_by {v} {e} {r} q hv hr = *-cancel-< v (lt_le hv) (pos 0) e (subst (λ z. z <ℤ (v *ℤ e)) (sym (*ℤ-zero v)) (subst (λ z. pos 0 <ℤ z) (sym q) hr))

pub zero_by : {v e r : ℤ} → v *ℤ e ≡ r → pos 0 <ℤ v → r ≡ pos 0 → e ≡ pos 0
zero_by {v} {e} {r} q hv hr =
    let z : v *ℤ e ≡ v *ℤ pos 0 = q ∙ hr ∙ sym (*ℤ-zero v) in
    ≤ℤ-antisym e (pos 0) (*-cancel-≤ v hv e (pos 0) (subst (λ x. (v *ℤ e) ≤ℤ x) z (≤ℤ_refl (v *ℤ e))))
    (*-cancel-≤ v hv (pos 0) e (subst (λ x. x ≤ℤ (v *ℤ e)) z (≤ℤ_refl (v *ℤ e))))

-- ---- magnitudes
abs-≤' : (n : ℕ) (z : ℤ) → (nat_abs z ≤ n) ↔ ((neg_ℤ (pos n) ≤ℤ z) × (z ≤ℤ pos n))
abs-≤' n = all1 _ (λ p m. simp to-ℕ (omega arith))

pub abs_in : {z : ℤ} {n : ℕ} → neg_ℤ (pos n) ≤ℤ z → z ≤ℤ pos n → nat_abs z ≤ n
abs_in {z} {n} h k = (abs-≤' n z).1 (h, k)

pub abs_up_to : (n : ℕ) (z : ℤ) → pos 0 ≤ℤ z → z ≤ℤ pos n → nat_abs z ≤ n
abs_up_to n = all1 _ (λ p m. simp to-ℕ (omega arith))

pub abs-+ : (a b : ℤ) → nat_abs (a +ℤ b) ≤ nat_abs a + nat_abs b
abs-+ = all2 _ (λ _ _ _ _. simp to-ℕ (omega arith))

pub abs-- : (a b : ℤ) → nat_abs (a -ℤ b) ≤ nat_abs a + nat_abs b
abs-- = all2 _ (λ _ _ _ _. simp to-ℕ (omega arith))

-- a negative one, taken from 0
pub turned : (z : ℤ) → z <ℤ pos 0 → (pos 0 ≤ℤ (pos 0 -ℤ z)) × (nat_abs (pos 0 -ℤ z) ≡ nat_abs z)
turned = all1 _ (λ _ _. simp to-ℕ (omega arith))

neg_abs : (n : ℕ) → nat_abs (neg_ℤ (pos n)) ≡ n
neg_abs zero = refl
neg_abs (suc n) = refl

pub abs-* : (a b : ℤ) → nat_abs (a *ℤ b) ≡ nat_abs a * nat_abs b
abs-* (pos a) (pos b) = refl
abs-* (pos a) (negsuc b) = neg_abs (a * suc b)
abs-* (negsuc a) (pos b) = neg_abs (suc a * b)
abs-* (negsuc a) (negsuc b) = refl

mag-≤ : (z : ℤ) → mag z ≤ nat_abs z
mag-≤ (pos n) = omega arith
mag-≤ (negsuc n) = omega arith

pub sfits_abs : {w : Width} {z : ℤ} → nat_abs z < 2 ^ hbits w → SFits w z
sfits_abs {w} {z} h = record { sfits = N.lt_of_le_of_lt (mag-≤ z) h }
