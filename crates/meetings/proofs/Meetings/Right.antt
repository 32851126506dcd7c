-- A segment that starts to the right of another's b does not meet it wrongly.
-- Were the ends of each strictly on opposite sides of the other, the lines would meet at one x that is at most the one's b.x and at least the other's a.x:
-- `weigh` says so without dividing.
use mathlib.Core.Path.{◌≡◌}
use mathlib.Core.Logic.{◌⊎◌, inl, inr}
use mathlib.Core.Bool.{true, false, ◌&&◌, ◌||◌}
use lib.IntN.{ℤ, pos, neg_ℤ, ◌+ℤ◌, ◌-ℤ◌, ◌*ℤ◌}
use lib.Signed.{lt_z, ◌≤ℤ◌, ◌<ℤ◌}
use Rattle.integers.proofs.Booleans.{both_l, both_r, one_of, neither, is_false, not_l, not_r}
use Rattle.integers.proofs.Linear.{ints, of_pos, of_neg, of--, of-+}
use Rattle.integers.proofs.Order.{lt_z_true, lt_lt_z, mul_pos, mul_nonneg, sub_pos, sub_nonneg, lt_le}
use Rattle.integers.proofs.Ring.{neg, ◌⊞◌, ◌⊟◌, ◌⊠◌, ◌≐◌, con, ring8}
use Rattle.geom.specs.declared.Point.{Point}
use Rattle.geom.specs.Points.{eq_z, lt_p, eq_p, cross, between}
use Rattle.geom.proofs.Points.{lt_p-true, lt_p_right, eq_p_apart, before_le}
use Rattle.geom.proofs.Points.CrossProduct.{cross_e}
use Rattle.segm.specs.declared.Segment.{Segment}
use Rattle.meetings.specs.Meetings.{side, parts, in_interior, same_ends, meets_wrongly}
use Rattle.faults.specs.Faultless.{Proper}

-- the sides differ by the same on both
pub same_turn : (s t : Segment) → side s t.b -ℤ side s t.a ≡ side t s.a -ℤ side t s.b
unfolding side cross
same_turn s t =
    ring8 (λ ax ay bx by cx cy dx dy. cross_e ax ay bx by dx dy ⊟ cross_e ax ay bx by cx cy ≐ cross_e cx cy dx dy ax ay ⊟ cross_e cx cy dx dy bx by) tt s.a.x s.a.y s.b.x s.b.y t.a.x t.a.y t.b.x t.b.y

-- the distances along x, weighed by the sides, cancel
weigh : (s t : Segment)
    → (t.a.x -ℤ s.b.x) *ℤ (side s t.b -ℤ side s t.a) +ℤ ((t.b.x -ℤ t.a.x) *ℤ neg_ℤ (side s t.a) +ℤ (s.b.x -ℤ s.a.x) *ℤ neg_ℤ (side t s.b)) ≡ pos 0
unfolding side cross
weigh s t =
    ring8 (λ ax ay bx by cx cy dx dy. (cx ⊟ bx) ⊠ (cross_e ax ay bx by dx dy ⊟ cross_e ax ay bx by cx cy) ⊞ ((dx ⊟ cx) ⊠ neg (cross_e ax ay bx by cx cy) ⊞ (bx ⊟ ax) ⊠ neg (cross_e cx cy dx dy bx by)) ≐ con (pos 0)) tt s.a.x s.a.y s.b.x s.b.y t.a.x t.a.y t.b.x t.b.y

weigh' : (s t : Segment)
    → (t.a.x -ℤ s.b.x) *ℤ (side s t.a -ℤ side s t.b) +ℤ ((t.b.x -ℤ t.a.x) *ℤ side s t.a +ℤ (s.b.x -ℤ s.a.x) *ℤ side t s.b) ≡ pos 0
unfolding side cross
weigh' s t =
    ring8 (λ ax ay bx by cx cy dx dy. (cx ⊟ bx) ⊠ (cross_e ax ay bx by cx cy ⊟ cross_e ax ay bx by dx dy) ⊞ ((dx ⊟ cx) ⊠ cross_e ax ay bx by cx cy ⊞ (bx ⊟ ax) ⊠ cross_e cx cy dx dy bx by) ≐ con (pos 0)) tt s.a.x s.a.y s.b.x s.b.y t.a.x t.a.y t.b.x t.b.y

-- but what is positive does not cancel
positive-sum : {k l m x y z : ℤ} → pos 0 <ℤ k → pos 0 <ℤ x → pos 0 ≤ℤ l → pos 0 ≤ℤ y → pos 0 ≤ℤ m → pos 0 ≤ℤ z → k *ℤ x +ℤ (l *ℤ y +ℤ m *ℤ z) ≡ pos 0 → ⊥
positive-sum {k} {l} {m} {x} {y} {z} hk hx hl hy hm hz e =
    let a = mul_pos hk hx in
    let b = mul_nonneg hl hy in
    let c = mul_nonneg hm hz in
    omega (ints, of-+ (k *ℤ x) (l *ℤ y +ℤ m *ℤ z), of-+ (l *ℤ y) (m *ℤ z), of_pos 0)

-- p and q are strictly on opposite sides of 0
abbrev pub Opposite : ℤ → ℤ → Type 0
Opposite p q = ((p <ℤ pos 0) × (pos 0 <ℤ q)) ⊎ ((pos 0 <ℤ p) × (q <ℤ pos 0))

opposite : (p q : ℤ) → ((lt_z p (pos 0) && lt_z (pos 0) q) || (lt_z (pos 0) p && lt_z q (pos 0))) ≡ true → Opposite p q
opposite p q e = go (one_of (lt_z p (pos 0) && lt_z (pos 0) q) (lt_z (pos 0) p && lt_z q (pos 0)) e)
  where
    go : ((lt_z p (pos 0) && lt_z (pos 0) q) ≡ true) ⊎ ((lt_z (pos 0) p && lt_z q (pos 0)) ≡ true) → Opposite p q
    go (inl h) = inl (lt_z_true (both_l (lt_z p (pos 0)) (lt_z (pos 0) q) h), lt_z_true (both_r (lt_z p (pos 0)) (lt_z (pos 0) q) h))
    go (inr h) = inr (lt_z_true (both_l (lt_z (pos 0) p) (lt_z q (pos 0)) h), lt_z_true (both_r (lt_z (pos 0) p) (lt_z q (pos 0)) h))

pub parts-true : (s t : Segment) → parts s t ≡ true → Opposite (side s t.a) (side s t.b)
unfolding parts
parts-true s t e = opposite (side s t.a) (side s t.b) e

outside : (r₁ r₂ r : Point) → lt_p r₁ r ≡ false → between r₁ r₂ r ≡ false
unfolding between
outside r₁ r₂ r h = not_r (eq_z (cross r₁ r₂ r) (pos 0)) (not_l (lt_p r r₂) h)

beyond : (r₁ r₂ r : Point) → lt_p r r₂ ≡ false → between r₁ r₂ r ≡ false
unfolding between
beyond r₁ r₂ r h = not_r (eq_z (cross r₁ r₂ r) (pos 0)) (not_r (lt_p r₁ r) h)

module _ (s t : Segment) (ps : Proper s) (pt : Proper t) (right : s.b.x <ℤ t.a.x) where
  abbrev p : ℤ
  p = side s t.a

  abbrev q : ℤ
  q = side s t.b

  abbrev u : ℤ
  u = side t s.a

  abbrev v : ℤ
  v = side t s.b

  wide_s : pos 0 ≤ℤ (s.b.x -ℤ s.a.x)
  wide_s = sub_nonneg (before_le (lt_p-true ps.rises))

  wide_t : pos 0 ≤ℤ (t.b.x -ℤ t.a.x)
  wide_t = sub_nonneg (before_le (lt_p-true pt.rises))

  no_crossing : Opposite p q → Opposite u v → ⊥
  no_crossing (inl h) (inl k) = let e = same_turn s t in omega (ints, of-- q p, of-- u v, of_pos 0)
  no_crossing (inr h) (inr k) = let e = same_turn s t in omega (ints, of-- q p, of-- u v, of_pos 0)
  no_crossing (inl h) (inr k) = positive-sum (sub_pos right) (omega (ints, of-- q p, of_pos 0)) wide_t (omega (ints, of_neg p, of_pos 0)) wide_s (omega (ints, of_neg v, of_pos 0)) (weigh s t)
  no_crossing (inr h) (inl k) = positive-sum (sub_pos right) (omega (ints, of-- p q, of_pos 0)) wide_t (lt_le h.0) wide_s (lt_le k.1) (weigh' s t)

  -- s ends to the left of both of t's ends, and starts to the left of them
  left_a : s.a.x <ℤ t.a.x
  left_a = let h = before_le (lt_p-true ps.rises) in omega ints

  far_b : s.b.x <ℤ t.b.x
  far_b = let h = before_le (lt_p-true pt.rises) in omega ints

  pub starts_right : meets_wrongly s t ≡ false
  unfolding meets_wrongly in_interior same_ends
  starts_right =
      neither (is_false (parts s t && parts t s) (λ e. no_crossing (parts-true s t (both_l (parts s t) (parts t s) e)) (parts-true t s (both_r (parts s t) (parts t s) e))))
      (neither (neither (beyond s.a s.b t.a (lt_p_right t.a s.b (lt_lt_z right))) (beyond s.a s.b t.b (lt_p_right t.b s.b (lt_lt_z far_b))))
      (neither (neither (outside t.a t.b s.a (lt_p_right t.a s.a (lt_lt_z left_a))) (outside t.a t.b s.b (lt_p_right t.a s.b (lt_lt_z right))))
      (not_l (eq_p s.b t.b) (eq_p_apart s.a t.a (λ e. let h = left_a in omega ints)))))
