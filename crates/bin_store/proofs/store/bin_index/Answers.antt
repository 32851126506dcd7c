-- Each coordinate is within ±16,777,216, so the sum is within 0 .. 2 · 805,306,368.
use mathlib.Core.Path.{◌≡◌, ap}
use mathlib.Core.Bool.{true}
use native.Mathlib.Omega.{arith}
use Prim.Native.Nat.{ℕ, ◌*◌, ◌%◌, ◌≤◌, ◌<◌, ◌^◌}
use lib.Dec.{lit<}
use lib.IntN.{ℤ, pos, nat_abs, ◌+ℤ◌, ◌*ℤ◌}
use lib.Signed.{mag, ◌≤ℤ◌}
use mir.Syntax.{w32, w64}
use mir.Val.{to_z, of_z}
use Rattle.integers.proofs.Difference.{to-ℕ, all2}
use Rattle.integers.proofs.Machine.{Is, rd, par, lit, cast, add, mul, to_u, u_is}
use Rattle.geom.specs.declared.Point.{Point}
use Rattle.geom.specs.Points.{in_range}
use Rattle.geom.proofs.Points.{near_x, near_y}
use Rattle.bin_store.specs.Bins.{bin_index}
use Rattle.bin_store.proofs.store.bin_index.Goals as goal

-- a coordinate, wider
wide : (z : ℤ) → mag z < 2 ^ 31 → nat_abs z ≤ 16777216 → Is w64 16777216 (to_z w32 (of_z w32 z)) z
wide z f h = cast (par {w = w32} {a = z} (record { sfits = f }) h) (lit< tt)

abbrev product : ℕ → ℤ → ℤ
product k z = pos k *ℤ to_z w64 (of_z w64 (to_z w32 (of_z w32 z)))

abbrev hash : Point → ℤ
hash p = to_z w64 (of_z w64 (to_z w64 (of_z w64 (product 31 p.x)) +ℤ to_z w64 (of_z w64 (product 17 p.y)))) +ℤ pos 805306368

positive : (x y : ℤ) → nat_abs x ≤ 16777216 → nat_abs y ≤ 16777216 → pos 0 ≤ℤ (pos 31 *ℤ x +ℤ pos 17 *ℤ y +ℤ pos 805306368)
positive = all2 _ (λ _ _ _ _. simp to-ℕ (omega arith))

module _ (p : Point) (n : in_range p ≡ true) (f : mag p.x < 2 ^ 31) where
  mul-x : Is w64 (31 * 16777216) (product 31 p.x) (pos 31 *ℤ p.x)
  mul-x = mul (lit (pos 31)) (rd (wide p.x f (near_x p n))) (lit< tt)

module _ (p : Point) (n : in_range p ≡ true) (f : mag p.x < 2 ^ 31) (g : mag p.y < 2 ^ 31) where
  wide-y : Is w64 16777216 (to_z w32 (of_z w32 p.y)) p.y
  wide-y = wide p.y g (near_y p n)

  mul-y : Is w64 (17 * 16777216) (product 17 p.y) (pos 17 *ℤ p.y)
  mul-y = mul (lit (pos 17)) (rd wide-y) (lit< tt)

  sum : Is w64 805306368 (to_z w64 (of_z w64 (product 31 p.x)) +ℤ to_z w64 (of_z w64 (product 17 p.y))) (pos 31 *ℤ p.x +ℤ pos 17 *ℤ p.y)
  sum = add (rd (mul-x p n f)) (rd mul-y) (lit< tt)

  whole : Is w64 1610612736 (hash p) (pos 31 *ℤ p.x +ℤ pos 17 *ℤ p.y +ℤ pos 805306368)
  whole = add (rd sum) (lit (pos 805306368)) (lit< tt)

pub overflow_add-hash-2 : goal.overflow_add-hash-2
overflow_add-hash-2 c = (whole c.args.p c.requires.1 (omega arith) (omega arith)).fits

pub overflow_cast-result : goal.overflow_cast-result
overflow_cast-result c =
    let p = c.args.p in
    to_u (rd (whole p c.requires.1 (omega arith) (omega arith))) (positive p.x p.y (near_x p c.requires.1) (near_y p c.requires.1)) (lit< tt)

pub returns : goal.returns
unfolding bin_index
returns c = ap (λ n. n % c.args.bins) (u_is (rd (whole c.args.p c.requires.1 (omega arith) (omega arith))))
