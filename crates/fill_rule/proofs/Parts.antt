-- The parts of a fill: how large they are, and how they are read back.
use mathlib.Core.Path.{◌≡◌, refl}
use mathlib.Core.Bool.{Bool, true, false, cond}
use Prim.Native.Nat.{ℕ, ◌+◌, ◌*◌, ◌/◌, ◌%◌, ◌<◌, ◌≤◌}
use native.Mathlib.Omega.{arith}
use lib.IntN.{ℤ, pos, nat_abs}
use lib.Signed.{◌≤ℤ◌}
use Rattle.integers.proofs.Order.{abs_up_to}

-- ---- how large each part is
pub bit_bound : (b : Bool) (k : ℕ) → cond b k 0 ≤ k
bit_bound true k = omega arith
bit_bound false k = omega arith

pub bits_abs : (bits : ℤ) → (pos 0 ≤ℤ bits) × (bits ≤ℤ pos 3) → nat_abs bits ≤ 3
bits_abs bits b = abs_up_to 3 bits b.0 b.1

-- ---- a fill's two side bits and its line bits
double : (b : Bool) → cond b 2 0 ≡ 2 * cond b 1 0
double true = refl
double false = refl

pub top_part : (t b : Bool) (l : ℕ) → (cond t 1 0 + cond b 2 0 + 4 * l) % 2 ≡ cond t 1 0
top_part t b l = omega (arith, bit_bound t 1, bit_bound b 1, double b)

pub bottom-part : (t b : Bool) (l : ℕ) → (cond t 1 0 + cond b 2 0 + 4 * l) / 2 % 2 ≡ cond b 1 0
bottom-part t b l = omega (arith, bit_bound t 1, bit_bound b 1, double b)

pub line-part : (t b : Bool) (l : ℕ) → (cond t 1 0 + cond b 2 0 + 4 * l) / 4 ≡ l
line-part t b l = omega (arith, bit_bound t 1, bit_bound b 1, double b)

pub size : (t b : Bool) (l : ℕ) → l ≤ 3 → cond t 1 0 + cond b 2 0 + 4 * l < 16
size t b l h = omega (arith, bit_bound t 1, bit_bound b 2)
