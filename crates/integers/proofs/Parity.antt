-- Odd and even of a signed number, as the machine's division by two tells them.
use mathlib.Core.Path.{◌≡◌, refl}
use mathlib.Core.Bool.{true, false, not}
use Prim.Native.Nat.{ℕ, zero, suc, ◌/◌, ◌%◌, ◌<◌, ◌≤◌}
use native.Mathlib.Omega.{arith}
use lib.Dec.{eqb}
use lib.IntN.{ℤ, pos, negsuc, neg_ℤ, nat_abs}
use lib.Signed.{mag, quot_z, rem_z}
use mir.Syntax.{Width, w32}
use mir.Val.{SFits, of_z}
use mir.ValLaws.{sfits_le}

mag_neg : (k a : ℕ) → k ≤ suc a → mag (neg_ℤ (pos k)) ≤ a
mag_neg zero a h = omega arith
mag_neg (suc k) a h = omega arith

mag_half : (z : ℤ) → mag (quot_z z (pos 2)) ≤ mag z
mag_half (pos a) = omega arith
mag_half (negsuc a) = mag_neg (suc a / 2) a (omega arith)

-- the quotient by two always fits
pub half_fits : {w : Width} {z : ℤ} → SFits w z → SFits w (quot_z z (pos 2))
half_fits {w} {z} f = sfits_le (mag_half z) f

-- of the two remainders, as any signs make bits of them, only that of 1 is not 0
not_zero : (bits : ℕ → ℕ) → not (eqb (bits 0) 0) ≡ false → not (eqb (bits 1) 0) ≡ true → (k : ℕ) → k < 2 → not (eqb (bits k) 0) ≡ eqb k 1
not_zero bits z o zero h = z
not_zero bits z o (suc zero) h = o
not_zero bits z o (suc (suc k)) h = absurd (omega arith)

-- an odd number's remainder by two is not 0
pub odd : (z : ℤ) → not (eqb (of_z w32 (rem_z z (pos 2))) 0) ≡ eqb (nat_abs z % 2) 1
odd (pos a) = not_zero (λ k. of_z w32 (pos k)) refl refl (a % 2) (omega arith)
odd (negsuc a) = not_zero (λ k. of_z w32 (neg_ℤ (pos k))) refl refl (suc a % 2) (omega arith)
