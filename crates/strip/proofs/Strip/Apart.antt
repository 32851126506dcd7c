-- Two segments that do not meet wrongly: their lines keep their sides where both reach, and the order just right of x is strict and total among them.
use mathlib.Core.Path.{◌≡◌, refl, sym, ◌∙◌, ap, subst}
use mathlib.Core.Logic.{◌⊎◌, inl, inr}
use mathlib.Core.Bool.{true, false, ◌&&◌, ◌||◌}
use Prim.Native.Nat.{ℕ, ◌<◌}
use native.Mathlib.Omega.{arith}
use native.Mathlib.Decide.{dec_lt}
use lib.ListN.{length}
use lib.IntN.{ℤ, pos, ◌+ℤ◌, ◌-ℤ◌, ◌*ℤ◌, *ℤ-zero}
use lib.Signed.{lt_z, ◌≤ℤ◌, ◌<ℤ◌}
use Rattle.integers.proofs.Booleans.{both, both_l, both_r, or_l, or_r, clash, is_false, nor_l, nor_r, same_test}
use Rattle.integers.proofs.Linear.{ints, of_pos, of_neg, of-+, of--}
use Rattle.integers.proofs.Order.{order, lt_z_true, lt_lt_z, le_lt_z, sub_pos, sub_nonneg, mul_nonneg, mul_pos, lt_le, pos_by, zero_by}
use Rattle.geom.specs.declared.Point.{Point}
use Rattle.geom.specs.Points.{eq_p, between}
use Rattle.geom.proofs.Points.{eq_eq_z, eq_eq_p, eq_p-true, Before, before, point}
use Rattle.segm.specs.declared.Segment.{Segment}
use Rattle.segm.specs.Segments.{Drawing, segment_at, nowhere}
use Rattle.lists.proofs.Members.{pairs_places, in_after}
use Rattle.meetings.specs.Meetings.{side, parts, in_interior, same_ends, meets_wrongly, NoneMeetWrongly}
use Rattle.strip.specs.Strip.{reach, gap, under, falls}
use Rattle.strip.proofs.Strip.Signs.{Sign, minus, nil, plus, sign, up_pos, up_neg, down_pos, down_neg, down_nil, neg_pos, neg_neg, neg_nil, diff_nil, join_both, join_l, join_r, join_nil, falls_minus, falls_plus, falls-nil, falls-true, falls_by, Falls, now, next}
use Rattle.strip.proofs.Strip.Gap.{slope, gap-at_a, gap-at_b, gap_turn, gap_rate, gap_trans, gap_self, slope_turn, side-at_a, side-at_b, side_up, side_vertical}

-- p strictly between the ends of s, by the order of points
abbrev pub Between : Segment → Point → Type 0
Between s p = Before s.a p × Before p s.b

pub record Apart (s t : Segment) : Type 0 where
  pub rising : side t s.a <ℤ pos 0 → pos 0 <ℤ side t s.b → pos 0 <ℤ side s t.a → side s t.b <ℤ pos 0 → ⊥
  pub falling : pos 0 <ℤ side t s.a → side t s.b <ℤ pos 0 → side s t.a <ℤ pos 0 → pos 0 <ℤ side s t.b → ⊥
  pub a_on : side t s.a ≡ pos 0 → Between t s.a → ⊥
  pub b_on : side t s.b ≡ pos 0 → Between t s.b → ⊥
  pub on_a : side s t.a ≡ pos 0 → Between s t.a → ⊥
  pub on_b : side s t.b ≡ pos 0 → Between s t.b → ⊥
  pub same : s.a ≡ t.a → s.b ≡ t.b → ⊥

pub apart_sym : {s t : Segment} → Apart s t → Apart t s
apart_sym k = record {
  rising = λ p q r u. k.falling r u p q;
  falling = λ p q r u. k.rising r u p q;
  a_on = k.on_a;
  b_on = k.on_b;
  on_a = k.a_on;
  on_b = k.b_on;
  same = λ p q. k.same (sym p) (sym q);
}

parts_up : (s t : Segment) → side s t.a <ℤ pos 0 → pos 0 <ℤ side s t.b → parts s t ≡ true
unfolding parts
parts_up s t h k = or_l (lt_z (pos 0) (side s t.a) && lt_z (side s t.b) (pos 0)) (both (lt_lt_z h) (lt_lt_z k))

parts_down : (s t : Segment) → pos 0 <ℤ side s t.a → side s t.b <ℤ pos 0 → parts s t ≡ true
unfolding parts
parts_down s t h k = or_r (lt_z (side s t.a) (pos 0) && lt_z (pos 0) (side s t.b)) (both (lt_lt_z h) (lt_lt_z k))

in_interior_by : (s : Segment) (p : Point) → side s p ≡ pos 0 → Between s p → in_interior s p ≡ true
unfolding in_interior between side
in_interior_by s p e h = both (eq_eq_z e) (both (before h.0) (before h.1))

pub apart : {s t : Segment} → meets_wrongly s t ≡ false → Apart s t
unfolding meets_wrongly same_ends
apart {s} {t} e =
    let c = parts s t && parts t s in
    let i = in_interior s t.a || in_interior s t.b in
    let k = in_interior t s.a || in_interior t s.b in
    let m = eq_p s.a t.a && eq_p s.b t.b in
    let e₀ = nor_l c (i || (k || m)) e in
    let e₁ = nor_r c (i || (k || m)) e in
    let e₂ = nor_l i (k || m) e₁ in
    let e₃ = nor_r i (k || m) e₁ in
    let e₄ = nor_l k m e₃ in
    let e₅ = nor_r k m e₃ in
    record {
      rising = λ p q r u. clash (both (parts_down s t r u) (parts_up t s p q)) e₀;
      falling = λ p q r u. clash (both (parts_up s t r u) (parts_down t s p q)) e₀;
      a_on = λ z h. clash (in_interior_by t s.a z h) (nor_l (in_interior t s.a) (in_interior t s.b) e₄);
      b_on = λ z h. clash (in_interior_by t s.b z h) (nor_r (in_interior t s.a) (in_interior t s.b) e₄);
      on_a = λ z h. clash (in_interior_by s t.a z h) (nor_l (in_interior s t.a) (in_interior s t.b) e₂);
      on_b = λ z h. clash (in_interior_by s t.b z h) (nor_r (in_interior s t.a) (in_interior s t.b) e₂);
      same = λ p q. clash (both (eq_eq_p p) (eq_eq_p q)) e₅;
    }

-- ---- not vertical
pub record Wide (s : Segment) : Type 0 where
  pub goes : s.a.x <ℤ s.b.x

pub wide : {s : Segment} → Wide s → pos 0 <ℤ reach s
unfolding reach
wide h = sub_pos h.goes

-- ---- along the lines of j and h
module _ (j h : Segment) where
  pub slope_pos : (x y : ℤ) → x <ℤ y → gap j h x <ℤ gap j h y → pos 0 <ℤ slope j h
  slope_pos x y k g = pos_by {v = y -ℤ x} (gap_rate j h x y) (sub_pos k) (sub_pos g)

  pub gap-rises : (x y : ℤ) → pos 0 ≤ℤ slope j h → x ≤ℤ y → gap j h x ≤ℤ gap j h y
  gap-rises x y v k =
      let g : pos 0 ≤ℤ (gap j h y -ℤ gap j h x) = subst (λ z. pos 0 ≤ℤ z) (gap_rate j h x y) (mul_nonneg (sub_nonneg k) v) in
      omega (ints, of-- (gap j h y) (gap j h x), of_pos 0)

  pub gap-rises-< : (x y : ℤ) → pos 0 <ℤ slope j h → x <ℤ y → gap j h x <ℤ gap j h y
  gap-rises-< x y v k =
      let g : pos 0 <ℤ (gap j h y -ℤ gap j h x) = subst (λ z. pos 0 <ℤ z) (gap_rate j h x y) (mul_pos (sub_pos k) v) in
      omega (ints, of-- (gap j h y) (gap j h x), of_pos 0)

  pub gap_flat : (x y : ℤ) → slope j h ≡ pos 0 → gap j h x ≡ gap j h y
  gap_flat x y v =
      let g : (gap j h y -ℤ gap j h x) ≡ pos 0 = sym (gap_rate j h x y) ∙ ap (λ z. (y -ℤ x) *ℤ z) v ∙ *ℤ-zero (y -ℤ x) in
      omega (ints, of-- (gap j h y) (gap j h x), of_pos 0)

pub gap-falls-< : (j h : Segment) (x y : ℤ) → slope j h <ℤ pos 0 → x <ℤ y → gap j h y <ℤ gap j h x
gap-falls-< j h x y v k =
    let r = gap-rises-< h j x y (neg_pos (slope_turn j h) v) k in
    let p = gap_turn j h x in
    let q = gap_turn j h y in
    omega (ints, of_neg (gap j h x), of_neg (gap j h y))

-- ---- the side does not change
module _ {j h : Segment} (ap : Apart j h) (wj : Wide j) (wh : Wide h) where
  -- j starts under h and ends above it, by their whole length
  through : gap j h j.a.x <ℤ pos 0 → gap j h h.a.x <ℤ pos 0 → pos 0 <ℤ gap j h j.b.x → pos 0 <ℤ gap j h h.b.x → ⊥
  through p q r u =
      ap.rising (down_neg (wide wj) (gap-at_a j h) p) (down_pos (wide wj) (gap-at_b j h) r)
      (down_pos (wide wh) (gap-at_a h j) (neg_pos (gap_turn j h h.a.x) q)) (down_neg (wide wh) (gap-at_b h j) (neg_neg (gap_turn j h h.b.x) u))

  pub no_rise : (x y : ℤ) → x <ℤ y → j.a.x ≤ℤ x → h.a.x ≤ℤ x → y ≤ℤ j.b.x → y ≤ℤ h.b.x → gap j h x <ℤ pos 0 → pos 0 <ℤ gap j h y → ⊥
  no_rise x y k ja ha jb hb p q =
      let v = lt_le (slope_pos j h x y k (omega (ints, of_pos 0))) in
      let g₁ = gap-rises j h j.a.x x v ja in
      let g₂ = gap-rises j h h.a.x x v ha in
      let g₃ = gap-rises j h y j.b.x v jb in
      let g₄ = gap-rises j h y h.b.x v hb in
      through (omega (ints, of_pos 0)) (omega (ints, of_pos 0)) (omega (ints, of_pos 0)) (omega (ints, of_pos 0))

pub no_fall : {j h : Segment} → Apart j h → Wide j → Wide h → (x y : ℤ) → x <ℤ y → j.a.x ≤ℤ x → h.a.x ≤ℤ x → y ≤ℤ j.b.x → y ≤ℤ h.b.x → pos 0 <ℤ gap j h x → gap j h y <ℤ pos 0 → ⊥
no_fall {j} {h} k wj wh x y l ja ha jb hb p q = no_rise (apart_sym k) wh wj x y l ha ja hb jb (neg_neg (gap_turn j h x) p) (neg_pos (gap_turn j h y) q)

-- ---- no meeting in the interior
module _ {j h : Segment} (k : Apart j h) (wj : Wide j) (wh : Wide h) where
  -- on one line, and overlapping
  pub not_in_line : ((x : ℤ) → gap j h x ≡ pos 0) → j.a.x <ℤ h.b.x → h.a.x <ℤ j.b.x → ⊥
  not_in_line z p q = at_a (order j.a.x h.a.x) (order h.a.x j.a.x)
    where
      jh_a : side h j.a ≡ pos 0
      jh_a = down_nil (wide wj) (gap-at_a j h) (z j.a.x)

      jh_b : side h j.b ≡ pos 0
      jh_b = down_nil (wide wj) (gap-at_b j h) (z j.b.x)

      hj_a : side j h.a ≡ pos 0
      hj_a = down_nil (wide wh) (gap-at_a h j) (neg_nil (gap_turn j h h.a.x) (z h.a.x))

      hj_b : side j h.b ≡ pos 0
      hj_b = down_nil (wide wh) (gap-at_b h j) (neg_nil (gap_turn j h h.b.x) (z h.b.x))

      at_b : j.a ≡ h.a → (j.b.x <ℤ h.b.x) ⊎ (h.b.x ≤ℤ j.b.x) → (h.b.x <ℤ j.b.x) ⊎ (j.b.x ≤ℤ h.b.x) → ⊥
      at_b e (inl l) m = k.b_on jh_b (inl q, inl l)
      at_b e (inr l) (inl m) = k.on_b hj_b (inl p, inl m)
      at_b e (inr l) (inr m) =
          let f : h.b.x ≡ j.b.x = omega ints in
          k.same e (point (sym f) (sym (diff_nil h.b.y j.b.y (down_nil (wide wj) (side-at_b j h.b f) hj_b))))

      at_a : (j.a.x <ℤ h.a.x) ⊎ (h.a.x ≤ℤ j.a.x) → (h.a.x <ℤ j.a.x) ⊎ (j.a.x ≤ℤ h.a.x) → ⊥
      at_a (inl l) m = k.on_a hj_a (inl l, inl q)
      at_a (inr l) (inl m) = k.a_on jh_a (inl m, inl p)
      at_a (inr l) (inr m) =
          let f : h.a.x ≡ j.a.x = omega ints in
          at_b (point (sym f) (sym (diff_nil h.a.y j.a.y (down_nil (wide wj) (side-at_a j h.a f) hj_a))))
          (order j.b.x h.b.x) (order h.b.x j.b.x)

  -- rising through a common height
  pub not_through : (x : ℤ) → gap j h x ≡ pos 0 → pos 0 <ℤ slope j h → j.a.x <ℤ x → h.a.x <ℤ x → x <ℤ j.b.x → x <ℤ h.b.x → ⊥
  not_through x z v ja ha jb hb =
      let g₁ = gap-rises-< j h j.a.x x v ja in
      let g₂ = gap-rises-< j h h.a.x x v ha in
      let g₃ = gap-rises-< j h x j.b.x v jb in
      let g₄ = gap-rises-< j h x h.b.x v hb in
      through k wj wh (omega ints) (omega ints) (omega ints) (omega ints)

pub not_met : {j h : Segment} → Apart j h → Wide j → Wide h → (x : ℤ) → h.a.x <ℤ x → x <ℤ h.b.x → j.a.x ≤ℤ x → x ≤ℤ j.b.x → gap j h x ≡ pos 0 → ⊥
not_met {j} {h} k wj wh x ha hb ja jb z = go (order j.a.x x) (order x j.b.x) (sign (slope j h))
  where
    go : (j.a.x <ℤ x) ⊎ (x ≤ℤ j.a.x) → (x <ℤ j.b.x) ⊎ (j.b.x ≤ℤ x) → Sign (slope j h) → ⊥
    go (inr l) m n =
        let e : x ≡ j.a.x = omega ints in
        k.a_on (down_nil (wide wj) (gap-at_a j h) (subst (λ y. gap j h y ≡ pos 0) e z)) (inl (omega ints), inl (omega ints))
    go (inl l) (inr m) n =
        let e : x ≡ j.b.x = omega ints in
        k.b_on (down_nil (wide wj) (gap-at_b j h) (subst (λ y. gap j h y ≡ pos 0) e z)) (inl (omega ints), inl (omega ints))
    go (inl l) (inl m) (plus n) = not_through k wj wh x z n l ha m hb
    go (inl l) (inl m) (minus n) = not_through (apart_sym k) wh wj x (neg_nil (gap_turn j h x) z) (neg_pos (slope_turn j h) n) ha l hb m
    go (inl l) (inl m) (nil n) = not_in_line k wj wh (λ y. gap_flat j h y x n ∙ z) (omega ints) (omega ints)

-- ---- the order just right of x
-- j reaches from x to x + 1 at least
pub record Over (x : ℤ) (j : Segment) : Type 0 where
  pub from : j.a.x ≤ℤ x
  pub to : x <ℤ j.b.x

pub over_wide : {x : ℤ} {j : Segment} → Over x j → Wide j
over_wide {x} {j} o = record { goes = omega ints }

more : (x : ℤ) → x <ℤ (x +ℤ pos 1)
more x = omega (ints, of-+ x (pos 1), of_pos 1)

next_le : (x y : ℤ) → x <ℤ y → (x +ℤ pos 1) ≤ℤ y
next_le x y h = omega (ints, of-+ x (pos 1), of_pos 1)

module _ {j h : Segment} (k : Apart j h) {x : ℤ} (oj : Over x j) (oh : Over x h) where
  pub strip_rise : gap j h x <ℤ pos 0 → pos 0 <ℤ gap j h (x +ℤ pos 1) → ⊥
  strip_rise = no_rise k (over_wide oj) (over_wide oh) x (x +ℤ pos 1) (more x) oj.from oh.from (next_le x j.b.x oj.to) (next_le x h.b.x oh.to)

  pub strip_fall : pos 0 <ℤ gap j h x → gap j h (x +ℤ pos 1) <ℤ pos 0 → ⊥
  strip_fall = no_fall k (over_wide oj) (over_wide oh) x (x +ℤ pos 1) (more x) oj.from oh.from (next_le x j.b.x oj.to) (next_le x h.b.x oh.to)

  -- the order in the strip is the one at its right end, where the heights differ
  pub under_right : (gap j h (x +ℤ pos 1) ≡ pos 0 → ⊥) → under x j h ≡ lt_z (gap j h (x +ℤ pos 1)) (pos 0)
  unfolding under
  under_right ne = go (sign (gap j h x)) (sign (gap j h (x +ℤ pos 1)))
    where
      g' : ℤ
      g' = gap j h (x +ℤ pos 1)

      go : Sign (gap j h x) → Sign g' → falls (gap j h x) g' ≡ lt_z g' (pos 0)
      go (minus m) (nil n) = absurd (ne n)
      go (plus m) (nil n) = absurd (ne n)
      go (nil m) s = falls-nil g' m
      go (minus m) (minus n) = falls_minus g' m ∙ sym (lt_lt_z n)
      go (minus m) (plus n) = absurd (strip_rise m n)
      go (plus m) (minus n) = absurd (strip_fall m n)
      go (plus m) (plus n) = falls_plus g' m ∙ sym (le_lt_z (lt_le n))

  -- of two the one or the other is lower
  pub under-total : (under x j h ≡ true) ⊎ (under x h j ≡ true)
  unfolding under
  under-total = go (sign (gap j h x)) (sign (gap j h (x +ℤ pos 1)))
    where
      flat : gap j h x ≡ pos 0 → gap j h (x +ℤ pos 1) ≡ pos 0 → slope j h ≡ pos 0
      flat p q = zero_by {v = (x +ℤ pos 1) -ℤ x} (gap_rate j h x (x +ℤ pos 1)) (sub_pos (more x)) (omega (ints, of-- (gap j h (x +ℤ pos 1)) (gap j h x), of_pos 0))

      go : Sign (gap j h x) → Sign (gap j h (x +ℤ pos 1)) → (under x j h ≡ true) ⊎ (under x h j ≡ true)
      go (minus m) s = inl (falls_minus (gap j h (x +ℤ pos 1)) m)
      go (plus m) s = inr (falls_minus (gap h j (x +ℤ pos 1)) (neg_neg (gap_turn j h x) m))
      go (nil m) (minus n) = inl (falls_by (next m n))
      go (nil m) (plus n) = inr (falls_by (next (neg_nil (gap_turn j h x) m) (neg_neg (gap_turn j h (x +ℤ pos 1)) n)))
      go (nil m) (nil n) = absurd (not_in_line k (over_wide oj) (over_wide oh) (λ y. gap_flat j h y x (flat m n) ∙ m) (omega ints) (omega ints))

-- the order at x itself, where the heights differ
pub under_left : (j h : Segment) (x : ℤ) → (gap j h x ≡ pos 0 → ⊥) → under x j h ≡ lt_z (gap j h x) (pos 0)
unfolding under
under_left j h x ne = go (sign (gap j h x))
  where
    g' : ℤ
    g' = gap j h (x +ℤ pos 1)

    go : Sign (gap j h x) → falls (gap j h x) g' ≡ lt_z (gap j h x) (pos 0)
    go (minus m) = falls_minus g' m ∙ sym (lt_lt_z m)
    go (nil m) = absurd (ne m)
    go (plus m) = falls_plus g' m ∙ sym (le_lt_z (lt_le m))

-- one that is lower is not higher at x
pub under_le : (j h : Segment) (x : ℤ) → under x j h ≡ true → gap j h x ≤ℤ pos 0
unfolding under
under_le j h x e = go (falls-true (gap j h x) (gap j h (x +ℤ pos 1)) e)
  where
    go : Falls (gap j h x) (gap j h (x +ℤ pos 1)) → gap j h x ≤ℤ pos 0
    go (now m) = lt_le m
    go (next m n) = omega ints

pub under_irrefl : (h : Segment) (x : ℤ) → under x h h ≡ false
unfolding under
under_irrefl h x = falls-nil (gap h h (x +ℤ pos 1)) (gap_self h x) ∙ ap (λ z. lt_z z (pos 0)) (gap_self h (x +ℤ pos 1))

pub under_asym : (j h : Segment) (x : ℤ) → under x j h ≡ true → under x h j ≡ false
unfolding under
under_asym j h x e = go (falls-true (gap j h x) (gap j h (x +ℤ pos 1)) e)
  where
    go : Falls (gap j h x) (gap j h (x +ℤ pos 1)) → under x h j ≡ false
    go (now m) = falls_plus (gap h j (x +ℤ pos 1)) (neg_pos (gap_turn j h x) m)
    go (next m n) = falls-nil (gap h j (x +ℤ pos 1)) (neg_nil (gap_turn j h x) m) ∙ le_lt_z (lt_le (neg_pos (gap_turn j h (x +ℤ pos 1)) n))

pub under_trans : {j h k : Segment} (x : ℤ) → Wide j → Wide h → Wide k → under x j h ≡ true → under x h k ≡ true → under x j k ≡ true
unfolding under
under_trans {j} {h} {k} x wj wh wk p q = falls_by (go (falls-true (gap j h x) (gap j h y) p) (falls-true (gap h k x) (gap h k y) q))
  where
    y : ℤ
    y = x +ℤ pos 1

    go : Falls (gap j h x) (gap j h y) → Falls (gap h k x) (gap h k y) → Falls (gap j k x) (gap j k y)
    go (now m) (now n) = now (join_both (wide wh) (wide wk) (wide wj) (gap_trans j h k x) m n)
    go (now m) (next n n') = now (join_l (wide wh) (wide wk) (wide wj) (gap_trans j h k x) m n)
    go (next m m') (now n) = now (join_r (wide wh) (wide wk) (wide wj) (gap_trans j h k x) m n)
    go (next m m') (next n n') = next (join_nil (wide wh) (wide wk) (wide wj) (gap_trans j h k x) m n) (join_both (wide wh) (wide wk) (wide wj) (gap_trans j h k y) m' n')

-- ---- equal ends
pub same_ends_off : {j h : Segment} → Apart j h → same_ends j h ≡ false
unfolding same_ends
same_ends_off {j} {h} k = is_false (same_ends j h) (λ e. k.same (eq_p-true (both_l (eq_p j.a h.a) (eq_p j.b h.b) e)) (eq_p-true (both_r (eq_p j.a h.a) (eq_p j.b h.b) e)))

pub same_ends_on : (h : Segment) → same_ends h h ≡ true
unfolding same_ends
same_ends_on h = both (eq_eq_p refl) (eq_eq_p refl)

-- ---- a vertical segment
-- of two points the higher has the higher side
pub side_less : (h : Segment) (p q : Point) → Wide h → p.x ≡ q.x → p.y <ℤ q.y → side h p <ℤ side h q
side_less h p q wh e l =
    let g : pos 0 <ℤ (side h q -ℤ side h p) = up_pos (wide wh) (side_up h p q e) (sub_pos l) in
    omega (ints, of-- (side h q) (side h p), of_pos 0)

-- a vertical segment is not parted by h
module _ {j h : Segment} (k : Apart j h) (wh : Wide h) (e : j.b.x ≡ j.a.x) (l : j.a.y <ℤ j.b.y) (ha : h.a.x <ℤ j.a.x) (hb : j.a.x <ℤ h.b.x) where
  pub vertical_one_side : lt_z (side h j.b) (pos 0) ≡ lt_z (side h j.a) (pos 0)
  vertical_one_side = same_test (lt_z (side h j.b) (pos 0)) (lt_z (side h j.a) (pos 0)) (λ t. lt_lt_z (down (lt_z_true t))) (λ t. lt_lt_z (up (sign (side h j.b)) (lt_z_true t)))
    where
      higher : side h j.a <ℤ side h j.b
      higher = side_less h j.a j.b wh (sym e) l

      down : side h j.b <ℤ pos 0 → side h j.a <ℤ pos 0
      down t = let m = higher in omega ints

      left : pos 0 <ℤ side j h.a
      left = subst (λ z. pos 0 <ℤ z) (sym (side_vertical j h.a e)) (mul_pos (sub_pos l) (sub_pos ha))

      right : side j h.b <ℤ pos 0
      right = up_neg (sub_pos l) (side_vertical j h.b e) (omega (ints, of-- j.a.x h.b.x, of_pos 0))

      up : Sign (side h j.b) → side h j.a <ℤ pos 0 → side h j.b <ℤ pos 0
      up (minus s) t = s
      up (nil s) t = absurd (k.b_on s (inl (omega ints), inl (omega ints)))
      up (plus s) t = absurd (k.rising t s left right)

-- ---- two places of a drawing in which no two segments meet wrongly
pub places_apart : (d : Drawing) → NoneMeetWrongly d → (i j : ℕ) → i < length d → j < length d → (i ≡ j → ⊥) → Apart (segment_at d i) (segment_at d j)
unfolding segment_at
places_apart d p i j h k ne = go (dec_lt i j)
  where
    later : (i j : ℕ) → i < j → j < length d → Apart (segment_at d i) (segment_at d j)
    later i j l k = apart (pairs_places (λ s t. meets_wrongly s t ≡ false) d nowhere p i (omega arith) (segment_at d j) (in_after d nowhere i j l k))

    go : Dec (i < j) → Apart (segment_at d i) (segment_at d j)
    go (yes l) = later i j l k
    go (no l) = apart_sym (later j i (omega (arith, ne)) h)
