-- What the machine computes at a signed type, tied to the integers that the code means.
-- A signed local holds bits, so an operand is read back from them: `to_z w (of_z w x)` of a parameter, a call's result or an operation's, `to_z w n` of a loop's variable.
--     Val n x a      the operand x is the integer a, of magnitude at most n
--     Is w n x a     the same of what an operation writes at the width w, and it fits: `.fits` answers the operation's need, `rd` makes an operand of it, `ret` answers a return
-- Each rule's last argument says that the bound is below the width's half: `(lit< tt)` at numerals, `(omega arith)` else.
use mathlib.Core.Path.{◌≡◌, refl, sym, ◌∙◌, ap, ap₂, subst}
use mathlib.Core.Bool.{Bool}
use Prim.Native.Nat.{ℕ, ◌+◌, ◌*◌, ◌^◌, ◌<◌, ◌≤◌}
use native.Mathlib.Nat as N
use native.Mathlib.Omega.{arith}
use lib.IntN.{ℤ, pos, ◌+ℤ◌, ◌-ℤ◌, ◌*ℤ◌, nat_abs}
use lib.Dec.{T}
use lib.Signed.{mag, lt_z, le_z, non_neg, ◌≤ℤ◌, yes_non_neg, nat_abs-le}
use mir.Syntax.{Width}
use mir.Val.{SFits, Fits, bits, hbits, to_z, of_z}
use mir.Facts.{to_z-of_z}
use Rattle.integers.proofs.Order.{abs-+, abs--, abs-*, sfits_abs}

pub record Val (n : ℕ) (x a : ℤ) : Type 0 where
  pub is : x ≡ a
  pub bound : nat_abs a ≤ n

pub record Is (w : Width) (n : ℕ) (x a : ℤ) : Type 0 where
  pub val : Val n x a
  pub fits : SFits w x

pub rd : {w : Width} {n : ℕ} {x a : ℤ} → Is w n x a → Val n (to_z w (of_z w x)) a
rd i = record { is = to_z-of_z i.fits ∙ i.val.is; bound = i.val.bound }

pub ret : {w : Width} {n : ℕ} {x a : ℤ} → Is w n x a → to_z w (of_z w x) ≡ a
ret i = (rd i).is

-- a parameter, of which n is known; any parameter; a call's result, `res w c.f.result c.f.ok`
pub par : {w : Width} {n : ℕ} {a : ℤ} → SFits w a → nat_abs a ≤ n → Val n (to_z w (of_z w a)) a
par f h = record { is = to_z-of_z f; bound = h }

pub any : {w : Width} {a : ℤ} → SFits w a → Val (2 ^ hbits w) (to_z w (of_z w a)) a
any {w} {a} f = par f (nat_abs-le a f.sfits)

pub res : (w : Width) (a : ℤ) → mag a < 2 ^ hbits w → Val (2 ^ hbits w) (to_z w (of_z w a)) a
res w a h = any (record { sfits = h })

pub read : (w : Width) (a : ℤ) → mag a < 2 ^ hbits w → to_z w (of_z w a) ≡ a
read w a h = to_z-of_z (record { sfits = h })

-- a call's result of which the call ensures that it is b, read back
pub got : (w : Width) (a : ℤ) {b : ℤ} → mag a < 2 ^ hbits w → a ≡ b → to_z w (of_z w a) ≡ b
got w a h e = read w a h ∙ e

-- a literal
pub lit : (a : ℤ) → Val (nat_abs a) a a
lit a = record { is = refl; bound = N.le_refl (nat_abs a) }

-- ---- the operations
pub cast : {w : Width} {n : ℕ} {x a : ℤ} → Val n x a → n < 2 ^ hbits w → Is w n x a
cast {w} i t = record { val = i; fits = subst (SFits w) (sym i.is) (sfits_abs (N.lt_of_le_of_lt i.bound t)) }

pub add : {w : Width} {m n : ℕ} {x y a b : ℤ} → Val m x a → Val n y b → m + n < 2 ^ hbits w → Is w (m + n) (x +ℤ y) (a +ℤ b)
add {a = a} {b = b} i j t = cast (record { is = ap₂ ◌+ℤ◌ i.is j.is; bound = omega (arith, abs-+ a b, i.bound, j.bound) }) t

pub sub : {w : Width} {m n : ℕ} {x y a b : ℤ} → Val m x a → Val n y b → m + n < 2 ^ hbits w → Is w (m + n) (x -ℤ y) (a -ℤ b)
sub {a = a} {b = b} i j t = cast (record { is = ap₂ ◌-ℤ◌ i.is j.is; bound = omega (arith, abs-- a b, i.bound, j.bound) }) t

pub mul : {w : Width} {m n : ℕ} {x y a b : ℤ} → Val m x a → Val n y b → m * n < 2 ^ hbits w → Is w (m * n) (x *ℤ y) (a *ℤ b)
mul {m = m} {n = n} {a = a} {b = b} i j t = cast (record { is = ap₂ ◌*ℤ◌ i.is j.is; bound = subst (λ k. k ≤ m * n) (sym (abs-* a b)) (N.mul-le-mul i.bound j.bound) }) t

-- to an unsigned type, of what is not negative: the need, and the value
pub to_u : {v : Width} {n : ℕ} {x a : ℤ} → Val n x a → pos 0 ≤ℤ a → n < 2 ^ bits v → T (non_neg x) × Fits v (nat_abs x)
to_u {v} {n} i h t =
    (yes_non_neg (subst (λ z. pos 0 ≤ℤ z) (sym i.is) h), record { fits = subst (λ z. nat_abs z < 2 ^ bits v) (sym i.is) (N.lt_of_le_of_lt i.bound t) })

pub u_is : {n : ℕ} {x a : ℤ} → Val n x a → nat_abs x ≡ nat_abs a
u_is i = ap nat_abs i.is

-- ---- a test's flag, at the integers themselves: `flag_lt (any s.fits.x) (any s.fits.y) c.if1.taken`
module _ {m n : ℕ} {x y a b : ℤ} {t : Bool} (i : Val m x a) (j : Val n y b) where
  pub flag_lt : lt_z x y ≡ t → lt_z a b ≡ t
  flag_lt e = ap₂ lt_z (sym i.is) (sym j.is) ∙ e

  pub flag_le : le_z x y ≡ t → le_z a b ≡ t
  flag_le e = ap₂ le_z (sym i.is) (sym j.is) ∙ e

-- `==` is told of the bits: `bits_eq s.fits.x s.fits.y c.if1.taken`, and `λ e. c.if1.left (ap (of_z w) e)` where it failed
pub bits_eq : {w : Width} {a b : ℤ} → SFits w a → SFits w b → of_z w a ≡ of_z w b → a ≡ b
bits_eq {w} f g e = sym (to_z-of_z f) ∙ ap (to_z w) e ∙ to_z-of_z g
