-- The signs of integers: of a multiple, of a negation, of a weighed sum, and of the two numbers of `falls`.
use mathlib.Core.Path.{◌≡◌, refl, sym, ◌∙◌, ap, subst}
use mathlib.Core.Logic.{◌⊎◌, inl, inr}
use mathlib.Core.Bool.{true, false, ◌&&◌, ◌||◌}
use lib.IntN.{ℤ, pos, neg_ℤ, ◌+ℤ◌, ◌-ℤ◌, ◌*ℤ◌, *ℤ-zero}
use lib.Signed.{lt_z, le_z, ◌≤ℤ◌, ◌<ℤ◌}
use Rattle.integers.proofs.Booleans.{clash, neither, not_l, or_l}
use Rattle.integers.proofs.Laws.{≤ℤ-antisym}
use Rattle.integers.proofs.Linear.{ints, of_pos, of_neg, of-+, of--}
use Rattle.integers.proofs.Order.{order, lt_z_true, lt_lt_z, le_lt_z, lt_le_z, mul_pos, pos_by, zero_by, lt_le, *-mono-<, *-cancel-<}
use Rattle.strip.specs.Strip.{falls}

-- z is below, at or above 0
pub data Sign (z : ℤ) : Type 0 where
  minus : z <ℤ pos 0 → Sign z
  nil : z ≡ pos 0 → Sign z
  plus : pos 0 <ℤ z → Sign z

pub sign : (z : ℤ) → Sign z
sign z = go (order z (pos 0)) (order (pos 0) z)
  where
    go : (z <ℤ pos 0) ⊎ (pos 0 ≤ℤ z) → (pos 0 <ℤ z) ⊎ (z ≤ℤ pos 0) → Sign z
    go (inl h) k = minus h
    go (inr h) (inl k) = plus k
    go (inr h) (inr k) = nil (≤ℤ-antisym z (pos 0) k h)

-- e is w times s, and w is positive: e and s have one sign
module _ {w e s : ℤ} (hw : pos 0 <ℤ w) (q : e ≡ w *ℤ s) where
  pub up_pos : pos 0 <ℤ s → pos 0 <ℤ e
  up_pos h = subst (λ z. pos 0 <ℤ z) (sym q) (mul_pos hw h)

  pub up_neg : s <ℤ pos 0 → e <ℤ pos 0
  up_neg h = subst (λ z. z <ℤ pos 0) (sym q) (subst (λ z. (w *ℤ s) <ℤ z) (*ℤ-zero w) (*-mono-< w hw s (pos 0) h))

  pub up_nil : s ≡ pos 0 → e ≡ pos 0
  up_nil h = q ∙ ap (λ z. w *ℤ z) h ∙ (*ℤ-zero w)

  pub down_pos : pos 0 <ℤ e → pos 0 <ℤ s
  down_pos h = pos_by {v = w} (sym q) hw h

  pub down_neg : e <ℤ pos 0 → s <ℤ pos 0
  down_neg h = *-cancel-< w (lt_le hw) s (pos 0) (subst (λ z. (w *ℤ s) <ℤ z) (sym (*ℤ-zero w)) (subst (λ z. z <ℤ pos 0) q h))

  pub down_nil : e ≡ pos 0 → s ≡ pos 0
  down_nil h = zero_by {v = w} (sym q) hw h

-- a is b turned
pub neg_pos : {a b : ℤ} → a ≡ neg_ℤ b → b <ℤ pos 0 → pos 0 <ℤ a
neg_pos {a} {b} e h = omega (ints, of_neg b, of_pos 0)

pub neg_neg : {a b : ℤ} → a ≡ neg_ℤ b → pos 0 <ℤ b → a <ℤ pos 0
neg_neg {a} {b} e h = omega (ints, of_neg b, of_pos 0)

pub neg_nil : {a b : ℤ} → a ≡ neg_ℤ b → b ≡ pos 0 → a ≡ pos 0
neg_nil {a} {b} e h = omega (ints, of_neg b, of_pos 0)

pub nil_le : {z : ℤ} → z ≡ pos 0 → z ≤ℤ pos 0
nil_le {z} e = omega ints

pub nil_ge : {z : ℤ} → z ≡ pos 0 → pos 0 ≤ℤ z
nil_ge {z} e = omega ints

pub diff_nil : (a b : ℤ) → (a -ℤ b) ≡ pos 0 → a ≡ b
diff_nil a b e = omega (ints, of-- a b, of_pos 0)

-- two numbers of one sign
pub same_sign : {w e : ℤ} (s : ℤ) → pos 0 <ℤ w → e ≡ w *ℤ s → lt_z e (pos 0) ≡ lt_z s (pos 0)
same_sign {w} {e} s hw q = go (sign s)
  where
    go : Sign s → lt_z e (pos 0) ≡ lt_z s (pos 0)
    go (minus h) = lt_lt_z (up_neg hw q h) ∙ sym (lt_lt_z h)
    go (nil h) = ap (λ z. lt_z z (pos 0)) (up_nil hw q h ∙ sym h)
    go (plus h) = le_lt_z (lt_le (up_pos hw q h)) ∙ sym (le_lt_z (lt_le h))

-- w times e is a sum of two products, and all three factors are positive
module _ {w e u a v b : ℤ} (hw : pos 0 <ℤ w) (hu : pos 0 <ℤ u) (hv : pos 0 <ℤ v) (q : w *ℤ e ≡ u *ℤ a +ℤ v *ℤ b) where
  pub join_both : a <ℤ pos 0 → b <ℤ pos 0 → e <ℤ pos 0
  join_both h k = let m = up_neg hu refl h in let n = up_neg hv refl k in down_neg hw (sym q) (omega (ints, of-+ (u *ℤ a) (v *ℤ b), of_pos 0))

  pub join_l : a <ℤ pos 0 → b ≡ pos 0 → e <ℤ pos 0
  join_l h k = let m = up_neg hu refl h in let n = up_nil hv refl k in down_neg hw (sym q) (omega (ints, of-+ (u *ℤ a) (v *ℤ b), of_pos 0))

  pub join_r : a ≡ pos 0 → b <ℤ pos 0 → e <ℤ pos 0
  join_r h k = let m = up_nil hu refl h in let n = up_neg hv refl k in down_neg hw (sym q) (omega (ints, of-+ (u *ℤ a) (v *ℤ b), of_pos 0))

  pub join_nil : a ≡ pos 0 → b ≡ pos 0 → e ≡ pos 0
  join_nil h k = let m = up_nil hu refl h in let n = up_nil hv refl k in down_nil hw (sym q) (omega (ints, of-+ (u *ℤ a) (v *ℤ b), of_pos 0))

-- ---- falls
pub falls_minus : {g : ℤ} (g' : ℤ) → g <ℤ pos 0 → falls g g' ≡ true
unfolding falls
falls_minus {g} g' h = or_l (le_z g (pos 0) && lt_z g' (pos 0)) (lt_lt_z h)

pub falls_plus : {g : ℤ} (g' : ℤ) → pos 0 <ℤ g → falls g g' ≡ false
unfolding falls
falls_plus {g} g' h = neither (le_lt_z (lt_le h)) (not_l (lt_z g' (pos 0)) (lt_le_z h))

pub falls-nil : {g : ℤ} (g' : ℤ) → g ≡ pos 0 → falls g g' ≡ lt_z g' (pos 0)
unfolding falls
falls-nil {g} g' e = ap (λ z. lt_z z (pos 0) || (le_z z (pos 0) && lt_z g' (pos 0))) e

-- what `falls` tells
pub data Falls (g g' : ℤ) : Type 0 where
  now : g <ℤ pos 0 → Falls g g'
  next : g ≡ pos 0 → g' <ℤ pos 0 → Falls g g'

pub falls-true : (g g' : ℤ) → falls g g' ≡ true → Falls g g'
falls-true g g' e = go (sign g)
  where
    go : Sign g → Falls g g'
    go (minus h) = now h
    go (nil h) = next h (lt_z_true (sym (falls-nil g' h) ∙ e))
    go (plus h) = absurd (clash e (falls_plus g' h))

pub falls_by : {g g' : ℤ} → Falls g g' → falls g g' ≡ true
falls_by {g} {g'} (now h) = falls_minus g' h
falls_by {g} {g'} (next h k) = falls-nil g' h ∙ lt_lt_z k
