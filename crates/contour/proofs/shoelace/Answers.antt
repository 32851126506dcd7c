-- The sum so far, with what is left of the way, is the whole; each step adds at most 2^49.
use mathlib.Core.Path.{◌≡◌, refl, sym, ◌∙◌, ap, ap₂}
use mathlib.Core.List.{List}
use mathlib.Core.Bool.{true}
use native.Mathlib.Omega.{arith}
use Prim.Native.Nat.{ℕ, ◌+◌, ◌*◌, ◌/◌, ◌^◌, ◌-◌, ◌<◌}
use lib.ListN.{length, get_or, drop}
use lib.IntN.{ℤ, nat_abs, ◌+ℤ◌, +ℤ_idr}
use lib.Signed.{mag}
use mir.Syntax.{w64}
use mir.Val.{to_z, of_z}
use Rattle.integers.proofs.Machine.{Val, Is, rd, add, got}
use Rattle.geom.specs.declared.Point.{Point}
use Rattle.geom.specs.Points.{in_range}
use Rattle.contour.specs.Points.{pair_up, origin, AllInRange}
use Rattle.contour.specs.Area.{cross_product}
use Rattle.contour.proofs.Points.Coordinates.{length_pairs}
use Rattle.contour.proofs.Area.{most, near_at, cross_bound, shoelace-none, along, shoelace-along, along-step, along_end}
use Rattle.contour.proofs.shoelace.Goals as goal

pub returns-then-n-eq0 : goal.returns-then-n-eq0
returns-then-n-eq0 c = shoelace-none (pair_up c.args.points.now) (length_pairs c.args.points.now ∙ c.if-n-eq0.true)

-- a point read is in range
near : (l : List ℤ) (i : ℕ) (p : Point) → AllInRange (pair_up l) → p ≡ get_or (pair_up l) i origin → in_range p ≡ true
near l i p n e = ap in_range e ∙ near_at (pair_up l) n i

pub cross_product-sum-requires : goal.cross_product-sum-requires
cross_product-sum-requires c =
    let l = c.args.points.now in
    (near l (length l / 2 - 1) c.point_at.result c.requires.1 c.point_at.ensures, near l 0 c.point_at-2.result c.requires.1 c.point_at-2.ensures)

-- a cross product of two points read
product : (l : List ℤ) (i j : ℕ) (p q : Point) (r : ℤ) → AllInRange (pair_up l) → mag r < 2 ^ 63 → r ≡ cross_product p q → p ≡ get_or (pair_up l) i origin → q ≡ get_or (pair_up l) j origin
    → Val most (to_z w64 (of_z w64 r)) (cross_product (get_or (pair_up l) i origin) (get_or (pair_up l) j origin))
product l i j p q r n h e ep eq =
    record { is = got w64 r h e ∙ ap₂ cross_product ep eq; bound = cross_bound (get_or (pair_up l) i origin) (get_or (pair_up l) j origin) (near_at (pair_up l) n i) (near_at (pair_up l) n j) }

pub loop-i-init : goal.loop-i-init
loop-i-init c =
    let l = c.args.points.now in
    let d : 0 < length (pair_up l) = omega (arith, length_pairs l, c.if-n-eq0.false) in
    let v = product l (length l / 2 - 1) 0 c.point_at.result c.point_at-2.result c.cross_product-sum.result c.requires.1 c.cross_product-sum.type_inv c.cross_product-sum.ensures c.point_at.ensures c.point_at-2.ensures in (
      omega arith,
      ap (λ (x : ℤ). x +ℤ along (get_or (pair_up l) 0 origin) (drop 1 (pair_up l))) (v.is ∙ ap (λ k. cross_product (get_or (pair_up l) (k - 1) origin) (get_or (pair_up l) 0 origin)) (sym (length_pairs l))) ∙ shoelace-along (pair_up l) d,
      omega (arith, ap nat_abs v.is, v.bound),
    )

pub cross_product-sum-requires-in-loop-i : goal.cross_product-sum-requires-in-loop-i
cross_product-sum-requires-in-loop-i c =
    let l = c.args.points.now in
    (near l (c.loop-i.i - 1) c.point_at-in-loop-i.result c.requires.1 c.point_at-in-loop-i.ensures, near l c.loop-i.i c.point_at-in-loop-i-2.result c.requires.1 c.point_at-in-loop-i-2.ensures)

-- the new sum
module _ (c : goal.After-cross_product-sum-in-loop-i) where
  abbrev l : List ℤ
  l = c.args.points.now

  abbrev i : ℕ
  i = c.loop-i.i

  next : Is w64 (i * most + most) (to_z w64 c.loop-i.sum-bits +ℤ to_z w64 (of_z w64 c.cross_product-sum-in-loop-i.result)) (to_z w64 c.loop-i.sum-bits +ℤ cross_product (get_or (pair_up l) (i - 1) origin) (get_or (pair_up l) i origin))
  next =
      add {x = to_z w64 c.loop-i.sum-bits} (record { is = refl; bound = c.loop-i.invariant.2 }) (product l (i - 1) i c.point_at-in-loop-i.result c.point_at-in-loop-i-2.result c.cross_product-sum-in-loop-i.result c.requires.1 c.cross_product-sum-in-loop-i.type_inv c.cross_product-sum-in-loop-i.ensures c.point_at-in-loop-i.ensures c.point_at-in-loop-i-2.ensures)
      (omega (arith, c.loop-i-test.true, c.requires.0))

pub overflow_add-sum : goal.overflow_add-sum
overflow_add-sum c = (next c).fits

pub loop-i-preserved : goal.loop-i-preserved
loop-i-preserved c =
    let e = (rd (next c)).is in
    let b = (rd (next c)).bound in (
      omega arith,
      ap (λ (x : ℤ). x +ℤ along (get_or (pair_up (l c)) ((i c + 1) - 1) origin) (drop (i c + 1) (pair_up (l c)))) e
          ∙ sym (along-step (pair_up (l c)) (i c) (to_z w64 c.loop-i.sum-bits) c.loop-i.invariant.0 (omega (arith, length_pairs (l c), c.loop-i-test.true))) ∙ c.loop-i.invariant.1,
      omega (arith, ap nat_abs e),
    )

pub returns : goal.returns
returns c =
    let l = c.args.points.now in
    sym (+ℤ_idr (to_z w64 c.loop-i.sum-bits))
    ∙ ap (λ (z : ℤ). to_z w64 c.loop-i.sum-bits +ℤ z) (sym (along_end (pair_up l) (get_or (pair_up l) (c.loop-i.i - 1) origin) c.loop-i.i (omega (arith, length_pairs l, c.loop-i-test.false))))
    ∙ c.loop-i.invariant.1
