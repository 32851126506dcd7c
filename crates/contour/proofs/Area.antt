-- Cross products and shoelace sums: near points have small ones, and the sum is gathered point by point.
use mathlib.Core.Path.{◌≡◌, refl, sym}
use mathlib.Core.List.{List, [], ◌∷◌, flatten}
use mathlib.Core.Logic.{inl, inr}
use mathlib.Core.Bool.{true}
use Prim.Native.Nat.{ℕ, zero, suc, ◌+◌, ◌-◌, ◌*◌, ◌<◌, ◌≤◌}
use native.Mathlib.Nat as N
use native.Mathlib.Numerals.{add-one}
use native.Mathlib.Omega.{arith}
use lib.ListN.{length, get_or, drop}
use lib.Seq.{drop-cons}
use lib.IntN.{ℤ, pos, nat_abs, ◌+ℤ◌, ◌*ℤ◌, +ℤ_idr, +ℤ_assoc}
use Rattle.integers.proofs.Linear.{ints, of-+}
use Rattle.integers.proofs.Order.{abs-+, abs--, abs-*}
use Rattle.integers.proofs.Ring.{con, ◌⊟◌, ◌⊠◌, ◌≐◌, ring4}
use Rattle.geom.specs.declared.Point.{Point}
use Rattle.geom.specs.Points.{in_range, coordinate, within, cross}
use Rattle.geom.proofs.Points.{near_x, near_y}
use Rattle.lists.specs.Members.{◌∈◌}
use Rattle.lists.proofs.Members.{cases, in-++}
use Rattle.contour.specs.Points.{origin, AllInRange}
use Rattle.contour.specs.Area.{cross_product, around, shoelace}

-- as `geom` computes it
pub cross-origin : (p q : Point) → cross origin p q ≡ cross_product p q
unfolding cross cross_product
cross-origin p q = ring4 (λ px py qx qy. (px ⊟ con (pos 0)) ⊠ (qy ⊟ con (pos 0)) ⊟ (py ⊟ con (pos 0)) ⊠ (qx ⊟ con (pos 0)) ≐ px ⊠ qy ⊟ qx ⊠ py) tt p.x p.y q.x q.y

pub origin_near : in_range origin ≡ true
unfolding in_range coordinate within
origin_near = refl

-- a near list's points are near, and what is past them too
pub near_at : (l : List Point) → AllInRange l → (i : ℕ) → in_range (get_or l i origin) ≡ true
near_at [] h i = origin_near
near_at (p ∷ l) h zero = h p (inl refl)
near_at (p ∷ l) h (suc i) = near_at l (λ q m. h q (inr m)) i

pub near_all : (ls : List (List Point)) → ((l : List Point) → l ∈ ls → AllInRange l) → AllInRange (flatten ls)
unfolding flatten
near_all [] h p i = absurd i
near_all (l ∷ ls) h p i = cases (h l (inl refl) p) (near_all ls (λ m j. h m (inr j)) p) (in-++ p l (flatten ls) i)

-- 2^49
abbrev pub most : ℕ
most = 562949953421312

product_bound : (a b : ℤ) → nat_abs a ≤ 16777216 → nat_abs b ≤ 16777216 → nat_abs (a *ℤ b) ≤ 281474976710656
product_bound a b h k = let m = N.mul-le-mul h k in omega (arith, abs-* a b)

pub cross_bound : (p q : Point) → in_range p ≡ true → in_range q ≡ true → nat_abs (cross_product p q) ≤ most
unfolding cross_product
cross_bound p q h k =
    omega (arith, abs-- (p.x *ℤ q.y) (q.x *ℤ p.y), product_bound p.x q.y (near_x p h) (near_y q k), product_bound q.x p.y (near_x q k) (near_y p h))

around_bound : (first p : Point) (l : List Point) → in_range first ≡ true → in_range p ≡ true → AllInRange l → nat_abs (around first p l) ≤ suc (length l) * most
unfolding around
around_bound first p [] f h n = omega (arith, cross_bound p first h f)
around_bound first p (q ∷ l) f h n =
    let k = n q (inl refl) in
    omega (arith, abs-+ (cross_product p q) (around first q l), cross_bound p q h k, around_bound first q l f k (λ r m. n r (inr m)))

pub shoelace_bound : (l : List Point) → AllInRange l → nat_abs (shoelace l) ≤ length l * most
unfolding shoelace
shoelace_bound [] n = omega arith
shoelace_bound (p ∷ l) n = let h = n p (inl refl) in around_bound p p l h h (λ q m. n q (inr m))

pub shoelace-none : (l : List Point) → length l ≡ 0 → pos 0 ≡ shoelace l
unfolding shoelace
shoelace-none [] h = refl
shoelace-none (p ∷ l) h = absurd (omega arith)

-- the sum from p on, without the way back
unfoldable pub along : Point → List Point → ℤ
along p [] = pos 0
along p (q ∷ l) = cross_product p q +ℤ along q l

around-along : (first p : Point) (l : List Point) → cross_product (get_or (p ∷ l) (length l) origin) first +ℤ along p l ≡ around first p l
unfolding around along
around-along first p [] = +ℤ_idr (cross_product p first)
around-along first p (q ∷ l) =
    let back = cross_product (get_or (q ∷ l) (length l) origin) first in
    let rest : back +ℤ along q l ≡ around first q l = around-along first q l in
    omega (ints, of-+ back (along q l), of-+ (cross_product p q) (along q l), of-+ back (cross_product p q +ℤ along q l), of-+ (cross_product p q) (around first q l))

pub shoelace-along : (l : List Point) → 0 < length l → cross_product (get_or l (length l - 1) origin) (get_or l 0 origin) +ℤ along (get_or l 0 origin) (drop 1 l) ≡ shoelace l
unfolding shoelace
shoelace-along [] h = absurd (omega arith)
shoelace-along (p ∷ l) h = let e : suc (length l) - 1 ≡ length l = omega arith in rw e (around-along p p l)

-- one point more
pub along-step : (l : List Point) (i : ℕ) (sum : ℤ) → 0 < i → i < length l
    → sum +ℤ along (get_or l (i - 1) origin) (drop i l) ≡ (sum +ℤ cross_product (get_or l (i - 1) origin) (get_or l i origin)) +ℤ along (get_or l ((i + 1) - 1) origin) (drop (i + 1) l)
unfolding along
along-step l i sum g h =
    let e : (i + 1) - 1 ≡ i = omega arith in
    let p = get_or l (i - 1) origin in
    let q = get_or l i origin in
    rw (e, add-one i, drop-cons l i origin h) (sym (+ℤ_assoc sum (cross_product p q) (along q (drop (suc i) l))))

-- past the last
pub along_end : (l : List Point) (p : Point) (i : ℕ) → length l ≤ i → along p (drop i l) ≡ pos 0
unfolding along
along_end [] p zero h = refl
along_end [] p (suc i) h = refl
along_end (q ∷ l) p zero h = absurd (omega arith)
along_end (q ∷ l) p (suc i) h = along_end l p i (omega arith)
