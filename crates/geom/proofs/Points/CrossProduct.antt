-- The cross product's symmetries, and the angular order about a point: transitive among the points after it.
use mathlib.Core.Path.{◌≡◌, sym, subst}
use mathlib.Core.Logic.{inl, inr}
use mathlib.Core.Bool.{true}
use lib.IntN.{pos, neg_ℤ, ◌+ℤ◌}
use lib.Signed.{◌≤ℤ◌, ◌<ℤ◌}
use Rattle.integers.proofs.Linear.{ints, of_neg, of_pos}
use Rattle.integers.proofs.Order.{positive, lt_le, mul_nonneg, sub_nonneg}
use Rattle.integers.proofs.Ring.{E, neg, ◌⊞◌, ◌⊟◌, ◌⊠◌, ◌≐◌, ring5, ring6, ring8}
use Rattle.integers.proofs.Sign.{◌⊛◌≑◌, pos_ring8}
use Rattle.geom.specs.declared.Point.{Point}
use Rattle.geom.specs.Points.{lt_p, cross}
use Rattle.geom.proofs.Points.{Before, lt_p-true, before_le}

-- the cross product as a polynomial of coordinates
abbrev pub cross_e : E → E → E → E → E → E → E
cross_e ax ay bx by cx cy = (bx ⊟ ax) ⊠ (cy ⊟ ay) ⊟ (by ⊟ ay) ⊠ (cx ⊟ ax)

pub cross_rot : (a b c : Point) → cross a b c ≡ cross b c a
unfolding cross
cross_rot a b c = ring6 (λ ax ay bx by cx cy. cross_e ax ay bx by cx cy ≐ cross_e bx by cx cy ax ay) tt a.x a.y b.x b.y c.x c.y

pub cross_swap : (a b c : Point) → cross a b c ≡ neg_ℤ (cross a c b)
unfolding cross
cross_swap a b c = ring6 (λ ax ay bx by cx cy. cross_e ax ay bx by cx cy ≐ neg (cross_e ax ay cx cy bx by)) tt a.x a.y b.x b.y c.x c.y

pub cross_four : (a b c d : Point) → cross a b d +ℤ cross b c d +ℤ cross c a d ≡ cross a b c
unfolding cross
cross_four a b c d =
    ring8 (λ ax ay bx by cx cy dx dy. cross_e ax ay bx by dx dy ⊞ cross_e bx by cx cy dx dy ⊞ cross_e cx cy ax ay dx dy ≐ cross_e ax ay bx by cx cy) tt a.x a.y b.x b.y c.x c.y d.x d.y

-- ---- the angular order about a
-- b stands above a, c is not to the left of a: c is not left of a b
pub not_left : (a b c : Point) → a.x ≡ b.x → a.y <ℤ b.y → a.x ≤ℤ c.x → pos 0 <ℤ cross a b c → ⊥
unfolding cross
not_left a b c e h k l = clash (subst (λ x. pos 0 <ℤ cross a (record { x = x; y = b.y }) c) (sym e) l)
  where
    level : pos 0 ≤ℤ neg_ℤ (cross a (record { x = a.x; y = b.y }) c)
    level = subst (λ z. pos 0 ≤ℤ z) (ring5 (λ ax ay by cx cy. (by ⊟ ay) ⊠ (cx ⊟ ax) ≐ neg (cross_e ax ay ax by cx cy)) tt a.x a.y b.y c.x c.y) (mul_nonneg (sub_nonneg (lt_le h)) (sub_nonneg k))

    clash : pos 0 <ℤ cross a (record { x = a.x; y = b.y }) c → ⊥
    clash m = let n = level in omega (ints, of_neg (cross a (record { x = a.x; y = b.y }) c), of_pos 0)

turn_right : (a b c d : Point) → a.x <ℤ b.x → a.x <ℤ c.x → a.x ≤ℤ d.x → pos 0 <ℤ cross a b c → pos 0 <ℤ cross a c d → pos 0 <ℤ cross a b d
unfolding cross
turn_right a b c d hb hc hd h k =
    pos_ring8 (λ ax ay bx by cx cy dx dy. (cx ⊟ ax) ⊛ cross_e ax ay bx by dx dy ≑ (bx ⊟ ax) ⊠ cross_e ax ay cx cy dx dy ⊞ (dx ⊟ ax) ⊠ cross_e ax ay bx by cx cy) tt a.x a.y b.x b.y c.x c.y d.x d.y
    (search positive) (search positive)

turn_before_lem : (a b c d : Point) → Before a b → Before a c → Before a d → pos 0 <ℤ cross a b c → pos 0 <ℤ cross a c d → pos 0 <ℤ cross a b d
turn_before_lem a b c d (inl hb) (inl hc) hd h k = turn_right a b c d hb hc (before_le hd) h k
turn_before_lem a b c d (inr hb) (inl hc) hd h k = absurd (not_left a b c hb.0 hb.1 (lt_le hc) h)
turn_before_lem a b c d (inl hb) (inr hc) hd h k = absurd (not_left a c d hc.0 hc.1 (before_le hd) k)
turn_before_lem a b c d (inr hb) (inr hc) hd h k = absurd (not_left a c d hc.0 hc.1 (before_le hd) k)

-- c counter-clockwise of b and d of c, about a: d is counter-clockwise of b
pub turn : (a b c d : Point) → lt_p a b ≡ true → lt_p a c ≡ true → lt_p a d ≡ true → pos 0 <ℤ cross a b c → pos 0 <ℤ cross a c d → pos 0 <ℤ cross a b d
turn a b c d hb hc hd h k = turn_before_lem a b c d (lt_p-true hb) (lt_p-true hc) (lt_p-true hd) h k
