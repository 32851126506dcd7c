-- Laws of the integers, each by the bridge to ℕ.
use mathlib.Core.Path.{◌≡◌}
use native.Mathlib.Omega.{arith}
use lib.IntN.{ℤ, ◌+ℤ◌, ◌*ℤ◌}
use lib.Signed.{◌≤ℤ◌, ◌<ℤ◌}
use Rattle.integers.proofs.Difference.{to-ℕ, all2, all3}

pub *ℤ-assoc : (a b c : ℤ) → (a *ℤ b) *ℤ c ≡ a *ℤ (b *ℤ c)
*ℤ-assoc = all3 _ (λ _ _ _ _ _ _. simp to-ℕ (omega arith))

pub +ℤ-*ℤ : (a b c : ℤ) → (a +ℤ b) *ℤ c ≡ a *ℤ c +ℤ b *ℤ c
+ℤ-*ℤ = all3 _ (λ _ _ _ _ _ _. simp to-ℕ (omega arith))

pub *ℤ-+ℤ : (a b c : ℤ) → a *ℤ (b +ℤ c) ≡ a *ℤ b +ℤ a *ℤ c
*ℤ-+ℤ = all3 _ (λ _ _ _ _ _ _. simp to-ℕ (omega arith))

pub ≤ℤ-antisym : (a b : ℤ) → a ≤ℤ b → b ≤ℤ a → a ≡ b
≤ℤ-antisym = all2 _ (λ _ _ _ _. simp to-ℕ (omega arith))

pub <ℤ-not-≤ℤ : (a b : ℤ) → a <ℤ b → b ≤ℤ a → ⊥
<ℤ-not-≤ℤ = all2 _ (λ _ _ _ _. simp to-ℕ (omega arith))

pub <ℤ-≤ℤ : (a b : ℤ) → a <ℤ b → a ≤ℤ b
<ℤ-≤ℤ = all2 _ (λ _ _ _ _. simp to-ℕ (omega arith))
