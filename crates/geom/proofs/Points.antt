-- What the tests of `Points` tell, and the order of points: total, transitive, antisymmetric.
use mathlib.Core.Path.{◌≡◌, ap, ap₂, subst}
use mathlib.Core.Logic.{◌⊎◌, inl, inr}
use mathlib.Core.Bool.{true, false, ◌&&◌}
use Prim.Native.Nat.{◌+◌, ◌≤◌, ◌<◌, ◌^◌}
use native.Mathlib.Omega.{arith}
use lib.IntN.{ℤ, pos, neg_ℤ, nat_abs, ◌-ℤ◌}
use lib.Dec.{eqb}
use lib.Signed.{lt_z, le_z, mag, ◌≤ℤ◌, ◌<ℤ◌}
use mir.Syntax.{Width}
use mir.Val.{of_z, hbits}
use borrow.Author.Tests.{eq-eqb, eqb-true}
use Rattle.integers.proofs.Booleans.{both, both_l, both_r, or_l, or_r, one_of, clash, is_false, same_test}
use Rattle.integers.proofs.Linear.{ints, of--, of_abs, of_side}
use Rattle.integers.proofs.Laws.{≤ℤ-antisym}
use Rattle.integers.proofs.Machine.{bits_eq}
use Rattle.integers.proofs.Order.{order, lt_z_true, lt_z_false, le_z_true, lt_lt_z, le_lt_z, le_le_z, abs_in, abs--}
use Rattle.geom.specs.declared.Point.{Point}
use Rattle.geom.specs.Points.{eq_z, within, lt_p, eq_p, coordinate, in_range, travel}
pub mod CrossProduct

-- ---- equality
pub eq_z-true : {a b : ℤ} → eq_z a b ≡ true → a ≡ b
unfolding eq_z
eq_z-true {a} {b} e = ≤ℤ-antisym a b (le_z_true (both_l (le_z a b) (le_z b a) e)) (le_z_true (both_r (le_z a b) (le_z b a) e))

pub eq_eq_z : {a b : ℤ} → a ≡ b → eq_z a b ≡ true
unfolding eq_z
eq_eq_z {a} {b} e = both {b = le_z b a} (le_le_z {a = a} {b = b} (omega ints)) (le_le_z {a = b} {b = a} (omega ints))

pub ne_eq_z : {a b : ℤ} → (a ≡ b → ⊥) → eq_z a b ≡ false
ne_eq_z {a} {b} f = is_false (eq_z a b) (λ e. f (eq_z-true e))

pub point : {p q : Point} → p.x ≡ q.x → p.y ≡ q.y → p ≡ q
point e f = λ i. record { x = e i; y = f i }

pub eq_p-true : {p q : Point} → eq_p p q ≡ true → p ≡ q
unfolding eq_p
eq_p-true {p} {q} e = point (eq_z-true (both_l (eq_z p.x q.x) (eq_z p.y q.y) e)) (eq_z-true (both_r (eq_z p.x q.x) (eq_z p.y q.y) e))

pub eq_eq_p : {p q : Point} → p ≡ q → eq_p p q ≡ true
unfolding eq_p
eq_eq_p {p} {q} e = both (eq_eq_z (ap (λ (r : Point). r.x) e)) (eq_eq_z (ap (λ (r : Point). r.y) e))

pub ne_eq_p : {p q : Point} → (p ≡ q → ⊥) → eq_p p q ≡ false
ne_eq_p {p} {q} f = is_false (eq_p p q) (λ e. f (eq_p-true e))

-- ---- range
pub within_l : (low high z : ℤ) → within low high z ≡ true → low ≤ℤ z
unfolding within
within_l low high z e = le_z_true (both_l (le_z low z) (le_z z high) e)

pub within_r : (low high z : ℤ) → within low high z ≡ true → z ≤ℤ high
unfolding within
within_r low high z e = le_z_true (both_r (le_z low z) (le_z z high) e)

pub near : (z : ℤ) → coordinate z ≡ true → nat_abs z ≤ 16777216
unfolding coordinate
near z e = abs_in {z = z} (within_l (neg_ℤ (pos 16777216)) (pos 16777216) z e) (within_r (neg_ℤ (pos 16777216)) (pos 16777216) z e)

pub near_x : (p : Point) → in_range p ≡ true → nat_abs p.x ≤ 16777216
unfolding in_range
near_x p e = near p.x (both_l (coordinate p.x) (coordinate p.y) e)

pub near_y : (p : Point) → in_range p ≡ true → nat_abs p.y ≤ 16777216
unfolding in_range
near_y p e = near p.y (both_r (coordinate p.x) (coordinate p.y) e)

-- ---- order: p before q
abbrev pub Before : Point → Point → Type 0
Before p q = (p.x <ℤ q.x) ⊎ ((p.x ≡ q.x) × (p.y <ℤ q.y))

pub lt_p-true : {p q : Point} → lt_p p q ≡ true → Before p q
unfolding lt_p
lt_p-true {p} {q} e = go (one_of (lt_z p.x q.x) (eq_z p.x q.x && lt_z p.y q.y) e)
  where
    go : (lt_z p.x q.x ≡ true) ⊎ ((eq_z p.x q.x && lt_z p.y q.y) ≡ true) → Before p q
    go (inl h) = inl (lt_z_true h)
    go (inr h) = inr (eq_z-true (both_l (eq_z p.x q.x) (lt_z p.y q.y) h), lt_z_true (both_r (eq_z p.x q.x) (lt_z p.y q.y) h))

pub before : {p q : Point} → Before p q → lt_p p q ≡ true
unfolding lt_p
before {p} {q} (inl h) = or_l (eq_z p.x q.x && lt_z p.y q.y) (lt_lt_z h)
before {p} {q} (inr h) = or_r (lt_z p.x q.x) (both (eq_eq_z h.0) (lt_lt_z h.1))

pub not_before : {p q : Point} → (Before p q → ⊥) → lt_p p q ≡ false
not_before {p} {q} f = is_false (lt_p p q) (λ e. f (lt_p-true e))

pub before_irrefl : {p : Point} → Before p p → ⊥
before_irrefl (inl h) = omega ints
before_irrefl (inr h) = omega ints

pub before_trans : {p q r : Point} → Before p q → Before q r → Before p r
before_trans (inl h) (inl k) = inl (omega ints)
before_trans (inl h) (inr k) = inl (omega ints)
before_trans (inr h) (inl k) = inl (omega ints)
before_trans (inr h) (inr k) = inr (omega ints)

pub before_le : {p q : Point} → Before p q → p.x ≤ℤ q.x
before_le (inl h) = omega ints
before_le (inr h) = omega ints

pub compare : (p q : Point) → Before p q ⊎ (Before q p ⊎ (p ≡ q))
compare p q = go (order p.x q.x) (order q.x p.x) (order p.y q.y) (order q.y p.y)
  where
    go : (p.x <ℤ q.x) ⊎ (q.x ≤ℤ p.x) → (q.x <ℤ p.x) ⊎ (p.x ≤ℤ q.x) → (p.y <ℤ q.y) ⊎ (q.y ≤ℤ p.y) → (q.y <ℤ p.y) ⊎ (p.y ≤ℤ q.y) → Before p q ⊎ (Before q p ⊎ (p ≡ q))
    go (inl h) k l m = inl (inl h)
    go (inr h) (inl k) l m = inr (inl (inl k))
    go (inr h) (inr k) (inl l) m = inl (inr (omega ints))
    go (inr h) (inr k) (inr l) (inl m) = inr (inl (inr (omega ints)))
    go (inr h) (inr k) (inr l) (inr m) = inr (inr (point (omega ints) (omega ints)))

-- the same of the test
pub lt_p_trans : (p q r : Point) → lt_p p q ≡ true → lt_p q r ≡ true → lt_p p r ≡ true
lt_p_trans p q r h k = before {p = p} {q = r} (before_trans {p = p} {q = q} {r = r} (lt_p-true {p = p} {q = q} h) (lt_p-true {p = q} {q = r} k))

pub lt_p_irrefl : (p : Point) → lt_p p p ≡ false
lt_p_irrefl p = not_before before_irrefl

pub lt_p_asym : (p q : Point) → lt_p p q ≡ true → lt_p q p ≡ false
lt_p_asym p q h = is_false (lt_p q p) (λ k. clash (lt_p_trans p q p h k) (lt_p_irrefl p))

pub lt_p_antisym : {p q : Point} → lt_p p q ≡ false → lt_p q p ≡ false → p ≡ q
lt_p_antisym {p} {q} h k = go (compare p q)
  where
    go : Before p q ⊎ (Before q p ⊎ (p ≡ q)) → p ≡ q
    go (inl b) = absurd (clash (before b) h)
    go (inr (inl b)) = absurd (clash (before b) k)
    go (inr (inr e)) = e

-- not less is transitive too
pub not_less_trans : (p q r : Point) → lt_p q p ≡ false → lt_p r q ≡ false → lt_p r p ≡ false
not_less_trans p q r h k = is_false (lt_p r p) (λ e. go (compare p q) (lt_p-true e))
  where
    go : Before p q ⊎ (Before q p ⊎ (p ≡ q)) → Before r p → ⊥
    go (inl b) e = clash (before (before_trans e b)) k
    go (inr (inl b)) e = clash (before b) h
    go (inr (inr b)) e = clash (before (subst (λ (i : Point). Before r i) b e)) k

-- ---- travel, of points in range
pub travel_bound : (p q : Point) → in_range p ≡ true → in_range q ≡ true → travel p q ≤ 67108864
unfolding travel
travel_bound p q hp hq = omega (arith, abs-- q.x p.x, abs-- q.y p.y, near_x p hp, near_x q hq, near_y p hp, near_y q hq)

-- and the same back
abs_either : (m n : ℤ) → nat_abs (m -ℤ n) ≡ nat_abs (n -ℤ m)
abs_either m n = omega (ints, of_abs (m -ℤ n), of_abs (n -ℤ m), of-- m n, of-- n m, of_side (m -ℤ n), of_side (n -ℤ m))

pub travel_back : (p q : Point) → travel q p ≡ travel p q
unfolding travel
travel_back p q = ap₂ ◌+◌ (abs_either p.x q.x) (abs_either p.y q.y)

-- of two points the one that is not less has the greater x, or the same
pub not_less_x : (p q : Point) → lt_p q p ≡ false → p.x ≤ℤ q.x
not_less_x p q e = go (order q.x p.x)
  where
    go : (q.x <ℤ p.x) ⊎ (p.x ≤ℤ q.x) → p.x ≤ℤ q.x
    go (inl h) = absurd (clash (before (inl h)) e)
    go (inr h) = h

-- as the code compares
pub lt_p_left : (p q : Point) → lt_z p.x q.x ≡ true → lt_p p q ≡ true
lt_p_left p q h = before {p = p} {q = q} (inl (lt_z_true h))

pub lt_p_right : (p q : Point) → lt_z q.x p.x ≡ true → lt_p p q ≡ false
lt_p_right p q h = is_false (lt_p p q) (λ e. clash h (le_lt_z (before_le {p = p} {q = q} (lt_p-true e))))

pub lt_p_level : (p q : Point) → lt_z p.x q.x ≡ false → lt_z q.x p.x ≡ false → lt_p p q ≡ lt_z p.y q.y
unfolding lt_p
lt_p_level p q h k = simp (h, eq_eq_z (≤ℤ-antisym p.x q.x (lt_z_false k) (lt_z_false h)))

pub eq_p_apart : (p q : Point) → (p.x ≡ q.x → ⊥) → eq_p p q ≡ false
eq_p_apart p q h = ne_eq_p {p = p} {q = q} (λ e. h (ap (λ (r : Point). r.x) e))

pub eq_p_level : (p q : Point) → p.x ≡ q.x → eq_p p q ≡ eq_z p.y q.y
unfolding eq_p
eq_p_level p q h = simp (eq_eq_z h)

-- `==` compares bits
pub bits_eq_z : (w : Width) (x y : ℤ) → mag x < 2 ^ hbits w → mag y < 2 ^ hbits w → eqb (of_z w x) (of_z w y) ≡ eq_z x y
bits_eq_z w x y hx hy =
    same_test (eqb (of_z w x) (of_z w y)) (eq_z x y)
    (λ e. eq_eq_z (bits_eq {w = w} (record { sfits = hx }) (record { sfits = hy }) (eqb-true (of_z w x) (of_z w y) e)))
    (λ e. eq-eqb (of_z w x) (of_z w y) (ap (of_z w) (eq_z-true e)))
