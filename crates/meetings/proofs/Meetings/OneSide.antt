-- A segment with both ends strictly on one side of another does not meet it wrongly, nor does one that has an end with the other and its other end beside it.
use mathlib.Core.Path.{◌≡◌, sym, ap, subst, ◌∙◌}
use mathlib.Core.Logic.{◌⊎◌, inl, inr}
use mathlib.Core.Bool.{true, false, ◌&&◌}
use lib.IntN.{ℤ, pos, neg_ℤ, ◌+ℤ◌, ◌-ℤ◌, ◌*ℤ◌}
use lib.Signed.{◌≤ℤ◌, ◌<ℤ◌}
use Rattle.integers.proofs.Booleans.{both_l, both_r, neither, is_false, not_l, not_r}
use Rattle.integers.proofs.Linear.{ints, of_pos, of_neg, of-+}
use Rattle.integers.proofs.Order.{mul_pos, mul_nonneg, sub_pos, sub_nonneg, lt_le}
use Rattle.integers.proofs.Ring.{neg, ◌⊞◌, ◌⊟◌, ◌⊠◌, ◌≐◌, con, ring4, ring8}
use Rattle.geom.specs.declared.Point.{Point}
use Rattle.geom.specs.Points.{eq_z, lt_p, eq_p, cross, between}
use Rattle.geom.proofs.Points.{Before, eq_z-true, eq_p-true, lt_p-true, before_irrefl, before_le}
use Rattle.geom.proofs.Points.CrossProduct.{cross_e, cross_swap, cross_rot}
use Rattle.segm.specs.declared.Segment.{Segment}
use Rattle.meetings.specs.Meetings.{side, parts, in_interior, same_ends, meets_wrongly}
use Rattle.meetings.proofs.Meetings.Right.{Opposite, parts-true}

-- p and q are strictly on one side of 0
abbrev pub OneSide : ℤ → ℤ → Type 0
OneSide p q = ((pos 0 <ℤ p) × (pos 0 <ℤ q)) ⊎ ((p <ℤ pos 0) × (q <ℤ pos 0))

-- weights that are not negative, one of them positive, under which p and q cancel: so they are on no one side
record Cancel (p q : ℤ) : Type 0 where
  pub m : ℤ
  pub n : ℤ
  pub m_nonneg : pos 0 ≤ℤ m
  pub n_nonneg : pos 0 ≤ℤ n
  pub some : (pos 0 <ℤ m) ⊎ (pos 0 <ℤ n)
  pub zero : m *ℤ p +ℤ n *ℤ q ≡ pos 0

not_positive : (p q : ℤ) → pos 0 <ℤ p → pos 0 <ℤ q → Cancel p q → ⊥
not_positive p q hp hq c = go c.some
  where
    go : (pos 0 <ℤ c.m) ⊎ (pos 0 <ℤ c.n) → ⊥
    go (inl h) = let a = mul_pos h hp in let b = mul_nonneg c.n_nonneg (lt_le hq) in let z = c.zero in omega (ints, of-+ (c.m *ℤ p) (c.n *ℤ q), of_pos 0)
    go (inr h) = let a = mul_nonneg c.m_nonneg (lt_le hp) in let b = mul_pos h hq in let z = c.zero in omega (ints, of-+ (c.m *ℤ p) (c.n *ℤ q), of_pos 0)

negated : (p q : ℤ) → Cancel p q → Cancel (neg_ℤ p) (neg_ℤ q)
negated p q c = record {
  m = c.m;
  n = c.n;
  m_nonneg = c.m_nonneg;
  n_nonneg = c.n_nonneg;
  some = c.some;
  zero = ring4 (λ m n p q. m ⊠ neg p ⊞ n ⊠ neg q ≐ neg (m ⊠ p ⊞ n ⊠ q)) tt c.m c.n p q ∙ ap neg_ℤ c.zero;
}

no_one_side : (p q : ℤ) → OneSide p q → Cancel p q → ⊥
no_one_side p q (inl h) c = not_positive p q h.0 h.1 c
no_one_side p q (inr h) c = not_positive (neg_ℤ p) (neg_ℤ q) (omega (ints, of_neg p, of_pos 0)) (omega (ints, of_neg q, of_pos 0)) (negated p q c)

-- ---- an end r of s that lies on the line of c and d, between the two
module _ (s : Segment) (c d r : Point) where
  -- along x and along y
  Weighed : Type 0
  Weighed = ((d.x -ℤ r.x) *ℤ side s c +ℤ (r.x -ℤ c.x) *ℤ side s d ≡ pos 0) × ((d.y -ℤ r.y) *ℤ side s c +ℤ (r.y -ℤ c.y) *ℤ side s d ≡ pos 0)

  cancels : Before c r → Before r d → Weighed → Cancel (side s c) (side s d)
  unfolding Weighed
  cancels (inl h) k w = record { m = d.x -ℤ r.x; n = r.x -ℤ c.x; m_nonneg = sub_nonneg (before_le k); n_nonneg = lt_le (sub_pos h); some = inr (sub_pos h); zero = w.0 }
  cancels (inr h) (inl k) w = record { m = d.x -ℤ r.x; n = r.x -ℤ c.x; m_nonneg = lt_le (sub_pos k); n_nonneg = sub_nonneg {a = c.x} {b = r.x} (omega ints); some = inl (sub_pos k); zero = w.0 }
  cancels (inr h) (inr k) w = record { m = d.y -ℤ r.y; n = r.y -ℤ c.y; m_nonneg = lt_le (sub_pos k.1); n_nonneg = lt_le (sub_pos h.1); some = inl (sub_pos k.1); zero = w.1 }

-- what is times nothing is nothing
nothing : (k z : ℤ) → z ≡ pos 0 → neg_ℤ (k *ℤ z) ≡ pos 0
nothing k z e = rw e (ring4 (λ k a b c. neg (k ⊠ con (pos 0)) ≐ con (pos 0)) tt k k k k)

weighed_a : (s : Segment) (c d : Point) → cross c d s.a ≡ pos 0 → Weighed s c d s.a
unfolding Weighed side cross
weighed_a s c d e = (
  ring8 (λ ax ay bx by cx cy dx dy. (dx ⊟ ax) ⊠ cross_e ax ay bx by cx cy ⊞ (ax ⊟ cx) ⊠ cross_e ax ay bx by dx dy ≐ neg ((bx ⊟ ax) ⊠ cross_e cx cy dx dy ax ay)) tt s.a.x s.a.y s.b.x s.b.y c.x c.y d.x d.y
      ∙ nothing (s.b.x -ℤ s.a.x) (cross c d s.a) e,
  ring8 (λ ax ay bx by cx cy dx dy. (dy ⊟ ay) ⊠ cross_e ax ay bx by cx cy ⊞ (ay ⊟ cy) ⊠ cross_e ax ay bx by dx dy ≐ neg ((by ⊟ ay) ⊠ cross_e cx cy dx dy ax ay)) tt s.a.x s.a.y s.b.x s.b.y c.x c.y d.x d.y
      ∙ nothing (s.b.y -ℤ s.a.y) (cross c d s.a) e,
)

weighed_b : (s : Segment) (c d : Point) → cross c d s.b ≡ pos 0 → Weighed s c d s.b
unfolding Weighed side cross
weighed_b s c d e = (
  ring8 (λ ax ay bx by cx cy dx dy. (dx ⊟ bx) ⊠ cross_e ax ay bx by cx cy ⊞ (bx ⊟ cx) ⊠ cross_e ax ay bx by dx dy ≐ neg ((bx ⊟ ax) ⊠ cross_e cx cy dx dy bx by)) tt s.a.x s.a.y s.b.x s.b.y c.x c.y d.x d.y
      ∙ nothing (s.b.x -ℤ s.a.x) (cross c d s.b) e,
  ring8 (λ ax ay bx by cx cy dx dy. (dy ⊟ by) ⊠ cross_e ax ay bx by cx cy ⊞ (by ⊟ cy) ⊠ cross_e ax ay bx by dx dy ≐ neg ((by ⊟ ay) ⊠ cross_e cx cy dx dy bx by)) tt s.a.x s.a.y s.b.x s.b.y c.x c.y d.x d.y
      ∙ nothing (s.b.y -ℤ s.a.y) (cross c d s.b) e,
)

-- what `between` says
record On (c d r : Point) : Type 0 where
  pub line : cross c d r ≡ pos 0
  pub after : Before c r
  pub until : Before r d

on : (c d r : Point) → between c d r ≡ true → On c d r
unfolding between
on c d r e =
    let k = both_r (eq_z (cross c d r) (pos 0)) (lt_p c r && lt_p r d) e in
    record { line = eq_z-true (both_l (eq_z (cross c d r) (pos 0)) (lt_p c r && lt_p r d) e); after = lt_p-true (both_l (lt_p c r) (lt_p r d) k); until = lt_p-true (both_r (lt_p c r) (lt_p r d) k) }

side_a : (s : Segment) → side s s.a ≡ pos 0
unfolding side cross
side_a s = ring4 (λ ax ay bx by. cross_e ax ay bx by ax ay ≐ con (pos 0)) tt s.a.x s.a.y s.b.x s.b.y

side_b : (s : Segment) → side s s.b ≡ pos 0
unfolding side cross
side_b s = ring4 (λ ax ay bx by. cross_e ax ay bx by bx by ≐ con (pos 0)) tt s.a.x s.a.y s.b.x s.b.y

module _ (s t : Segment) (one : OneSide (side s t.a) (side s t.b)) where
  off_a : side s t.a ≡ pos 0 → ⊥
  off_a e = go one
    where
      go : OneSide (side s t.a) (side s t.b) → ⊥
      go (inl h) = let k = h.0 in omega ints
      go (inr h) = let k = h.0 in omega ints

  off_b : side s t.b ≡ pos 0 → ⊥
  off_b e = go one
    where
      go : OneSide (side s t.a) (side s t.b) → ⊥
      go (inl h) = let k = h.1 in omega ints
      go (inr h) = let k = h.1 in omega ints

  not_parted : parts s t ≡ false
  not_parted = is_false (parts s t) (λ e. go one (parts-true s t e))
    where
      go : OneSide (side s t.a) (side s t.b) → Opposite (side s t.a) (side s t.b) → ⊥
      go (inl h) (inl k) = let i = h.0 in let j = k.0 in omega ints
      go (inl h) (inr k) = let i = h.1 in let j = k.1 in omega ints
      go (inr h) (inl k) = let i = h.1 in let j = k.1 in omega ints
      go (inr h) (inr k) = let i = h.0 in let j = k.0 in omega ints

  not_on_s : (p : Point) → (side s p ≡ pos 0 → ⊥) → in_interior s p ≡ false
  unfolding in_interior side
  not_on_s p f = is_false (between s.a s.b p) (λ e. f (on s.a s.b p e).line)

  a_not_on : in_interior t s.a ≡ false
  unfolding in_interior
  a_not_on = is_false (between t.a t.b s.a) (λ e. let o = on t.a t.b s.a e in no_one_side (side s t.a) (side s t.b) one (cancels s t.a t.b s.a o.after o.until (weighed_a s t.a t.b o.line)))

  b_not_on : in_interior t s.b ≡ false
  unfolding in_interior
  b_not_on = is_false (between t.a t.b s.b) (λ e. let o = on t.a t.b s.b e in no_one_side (side s t.a) (side s t.b) one (cancels s t.a t.b s.b o.after o.until (weighed_b s t.a t.b o.line)))

  -- seen from s
  pub one_side : meets_wrongly s t ≡ false
  unfolding meets_wrongly same_ends
  one_side =
      neither (not_l (parts t s) not_parted)
      (neither (neither (not_on_s t.a off_a) (not_on_s t.b off_b))
      (neither (neither a_not_on b_not_on)
      (not_l (eq_p s.b t.b) (is_false (eq_p s.a t.a) (λ e. off_a (ap (side s) (sym (eq_p-true e)) ∙ side_a s))))))

  -- and from t
  pub one-side_turned : meets_wrongly t s ≡ false
  unfolding meets_wrongly same_ends
  one-side_turned =
      neither (not_r (parts t s) not_parted)
      (neither (neither a_not_on b_not_on)
      (neither (neither (not_on_s t.a off_a) (not_on_s t.b off_b))
      (not_l (eq_p t.b s.b) (is_false (eq_p t.a s.a) (λ e. off_a (ap (side s) (eq_p-true e) ∙ side_a s))))))

-- one start, and t ends above s
pub one_start : (s t : Segment) → s.a ≡ t.a → pos 0 <ℤ side s t.b → meets_wrongly s t ≡ false
unfolding meets_wrongly in_interior same_ends side
one_start s t e h =
    neither (not_l (parts t s) (is_false (parts s t) (λ k. opposite (parts-true s t k))))
    (neither (neither (off s.a s.b t.a (λ o. irrefl o.after)) (off s.a s.b t.b (λ o. above o.line)))
    (neither (neither (off t.a t.b s.a (λ o. irrefl' o.after)) (off t.a t.b s.b (λ o. beside o.line)))
    (not_r (eq_p s.a t.a) (is_false (eq_p s.b t.b) (λ k. above (ap (side s) (sym (eq_p-true k)) ∙ side_b s))))))
  where
    off : (c d r : Point) → (On c d r → ⊥) → between c d r ≡ false
    off c d r f = is_false (between c d r) (λ k. f (on c d r k))

    start : side s t.a ≡ pos 0
    start = ap (side s) (sym e) ∙ side_a s

    opposite : Opposite (side s t.a) (side s t.b) → ⊥
    opposite (inl k) = let i = k.0 in let z = start in omega ints
    opposite (inr k) = let i = k.0 in let z = start in omega ints

    irrefl : Before s.a t.a → ⊥
    irrefl b = before_irrefl (subst (λ (p : Point). Before s.a p) (sym e) b)

    irrefl' : Before t.a s.a → ⊥
    irrefl' b = before_irrefl (subst (λ (p : Point). Before t.a p) e b)

    above : side s t.b ≡ pos 0 → ⊥
    above z = omega ints

    beside : cross t.a t.b s.b ≡ pos 0 → ⊥
    beside z = above (cross_swap s.a s.b t.b ∙ ap neg_ℤ (ap (λ (p : Point). cross p t.b s.b) e ∙ z))

-- one end b, and t starts beside s
module _ (s t : Segment) (e : s.b ≡ t.b) (off-s : side s t.a ≡ pos 0 → ⊥) where
  end : side s t.b ≡ pos 0
  end = ap (side s) (sym e) ∙ side_b s

  opposite : Opposite (side s t.a) (side s t.b) → ⊥
  opposite (inl k) = let i = k.1 in let z = end in omega ints
  opposite (inr k) = let i = k.1 in let z = end in omega ints

  no_parts : parts s t ≡ false
  no_parts = is_false (parts s t) (λ k. opposite (parts-true s t k))

  out : (c d r : Point) → (On c d r → ⊥) → between c d r ≡ false
  out c d r f = is_false (between c d r) (λ k. f (on c d r k))

  turned : cross t.a t.b s.a ≡ pos 0 → ⊥
  unfolding side
  turned z = off-s (cross_swap s.a s.b t.a ∙ ap neg_ℤ (cross_rot s.a t.a s.b ∙ ap (λ (p : Point). cross t.a p s.a) e ∙ z))

  s_clear : (in_interior s t.a ≡ false) × (in_interior s t.b ≡ false)
  unfolding in_interior side
  s_clear = (out s.a s.b t.a (λ o. off-s o.line), out s.a s.b t.b (λ o. before_irrefl (subst (λ (p : Point). Before p s.b) (sym e) o.until)))

  t_clear : (in_interior t s.a ≡ false) × (in_interior t s.b ≡ false)
  unfolding in_interior
  t_clear = (out t.a t.b s.a (λ o. turned o.line), out t.a t.b s.b (λ o. before_irrefl (subst (λ (p : Point). Before s.b p) (sym e) o.until)))

  starts : s.a ≡ t.a → ⊥
  starts q = off-s (ap (side s) (sym q) ∙ side_a s)

  pub one_end : meets_wrongly s t ≡ false
  unfolding meets_wrongly same_ends
  one_end = neither (not_l (parts t s) no_parts) (neither (neither s_clear.0 s_clear.1) (neither (neither t_clear.0 t_clear.1) (not_l (eq_p s.b t.b) (is_false (eq_p s.a t.a) (λ k. starts (eq_p-true k))))))

  pub one_end_turned : meets_wrongly t s ≡ false
  unfolding meets_wrongly same_ends
  one_end_turned = neither (not_r (parts t s) no_parts) (neither (neither t_clear.0 t_clear.1) (neither (neither s_clear.0 s_clear.1) (not_l (eq_p t.b s.b) (is_false (eq_p t.a s.a) (λ k. starts (sym (eq_p-true k)))))))
