-- A choice tested for a number: equal bits are equal numbers.
use mathlib.Core.Path.{◌≡◌, ap}
use mathlib.Core.Bool.{true, false}
use Prim.Native.Nat.{ℕ, ◌<◌, ◌^◌}
use lib.IntN.{ℤ, pos}
use mir.Syntax.{w32}
use mir.Val.{SFits, of_z}
use Rattle.integers.proofs.Machine.{bits_eq}
use Rattle.geom.specs.Points.{eq_z}
use Rattle.geom.proofs.Points.{eq_eq_z, ne_eq_z}

module _ {z : ℤ} (f : SFits w32 z) (k : ℕ) where
  pub is : k < 2 ^ 31 → of_z w32 z ≡ k → eq_z z (pos k) ≡ true
  is h e = eq_eq_z (bits_eq {w = w32} f (record { sfits = h }) e)

  pub is_not : (of_z w32 z ≡ k → ⊥) → eq_z z (pos k) ≡ false
  is_not h = ne_eq_z (λ e. h (ap (of_z w32) e))
