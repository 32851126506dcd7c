-- The order just right of x is told by sides: the later of the two starts, seen from the other segment. Of two the one that is lower by sides is not the higher.
use mathlib.Core.Path.{◌≡◌, sym, ◌∙◌, ap, subst}
use mathlib.Core.Logic.{◌⊎◌, inl, inr, ⊎_elim}
use mathlib.Core.Bool.{Bool, true, false, cond}
use lib.IntN.{ℤ, pos, ◌+ℤ◌}
use lib.Signed.{lt_z, ◌≤ℤ◌, ◌<ℤ◌, ≤ℤ_refl}
use Rattle.integers.proofs.Booleans.{clash}
use Rattle.integers.proofs.Linear.{ints, of_pos, of-+}
use Rattle.integers.proofs.Order.{order, lt_z_true, lt_lt_z, le_lt_z, lt_le}
use Rattle.geom.specs.declared.Point.{Point}
use Rattle.geom.proofs.Points.{Before, before, not_before, before_irrefl, before_trans, before_le, compare, lt_p_irrefl}
use Rattle.segm.specs.declared.Segment.{Segment}
use Rattle.meetings.specs.Meetings.{side}
use Rattle.strip.specs.Strip.{gap, above, under, clockwise, under_by_side}
use Rattle.strip.proofs.Strip.Signs.{Sign, minus, nil, plus, sign, up_pos, up_neg, up_nil, down_nil, neg_pos, neg_neg, neg_nil, same_sign, falls-nil}
use Rattle.strip.proofs.Strip.Gap.{gap-at_a, gap_turn, side_own_a, side_start}
use Rattle.strip.proofs.Strip.Apart.{Apart, apart_sym, Wide, wide, Over, over_wide, no_rise, no_fall, not_met, under_left, under-total}
use Rattle.strip.proofs.Strip.Above.{above_on, above_off, above_yes, above_own_b, start_on, start_turn}

-- ---- the cases of the order by sides
module _ (j h : Segment) where
  by_side_later_h : Before j.a h.a → under_by_side j h ≡ above j h.a
  unfolding under_by_side
  by_side_later_h b = rw (before b)

  by_side_later_j : Before h.a j.a → under_by_side j h ≡ lt_z (side h j.a) (pos 0)
  unfolding under_by_side
  by_side_later_j b = rw (not_before (λ (c : Before j.a h.a). before_irrefl (before_trans b c)), before b)

  by_side_together : j.a ≡ h.a → under_by_side j h ≡ clockwise j h
  unfolding under_by_side
  by_side_together e =
      let p : Before j.a h.a → ⊥ = λ c. before_irrefl (subst (λ (p : Point). Before p h.a) e c) in
      let q : Before h.a j.a → ⊥ = λ c. before_irrefl (subst (λ (p : Point). Before h.a p) e c) in
      rw (not_before p, not_before q)

-- ---- the two orders agree
module _ {j h : Segment} (k : Apart j h) {x : ℤ} (oj : Over x j) (oh : Over x h) where
  wj : Wide j
  wj = over_wide oj

  wh : Wide h
  wh = over_wide oh

  -- the order at y, where both are there and their heights differ, is that at x
  pub under_at : (y : ℤ) → j.a.x ≤ℤ y → h.a.x ≤ℤ y → y ≤ℤ x → (gap j h y ≡ pos 0 → ⊥) → under x j h ≡ lt_z (gap j h y) (pos 0)
  under_at y jy hy yx ne = go (order y x)
    where
      further : y <ℤ x → Sign (gap j h y) → Sign (gap j h x) → lt_z (gap j h x) (pos 0) ≡ lt_z (gap j h y) (pos 0)
      further l (nil s) t = absurd (ne s)
      further l (minus s) (minus t) = lt_lt_z t ∙ sym (lt_lt_z s)
      further l (minus s) (nil t) = absurd (not_met k wj wh x (omega ints) oh.to oj.from (lt_le oj.to) t)
      further l (minus s) (plus t) = absurd (no_rise k wj wh y x l jy hy (lt_le oj.to) (lt_le oh.to) s t)
      further l (plus s) (minus t) = absurd (no_fall k wj wh y x l jy hy (lt_le oj.to) (lt_le oh.to) s t)
      further l (plus s) (nil t) = absurd (not_met k wj wh x (omega ints) oh.to oj.from (lt_le oj.to) t)
      further l (plus s) (plus t) = le_lt_z (lt_le t) ∙ sym (le_lt_z (lt_le s))

      go : (y <ℤ x) ⊎ (x ≤ℤ y) → under x j h ≡ lt_z (gap j h y) (pos 0)
      go (inl l) = under_left j h x (not_met k wj wh x (omega ints) oh.to oj.from (lt_le oj.to)) ∙ further l (sign (gap j h y)) (sign (gap j h x))
      go (inr l) = let e : y ≡ x = omega ints in
          subst (λ z. under z j h ≡ lt_z (gap j h y) (pos 0)) e (under_left j h y ne)

  -- h starts later
  pub later_h : Before j.a h.a → under x j h ≡ above j h.a
  later_h b = under_at h.a.x (before_le b) (≤ℤ_refl h.a.x) oh.from (λ z. ne (down_nil (wide wh) (gap-at_a h j) (neg_nil (gap_turn j h h.a.x) z))) ∙ go (sign (side j h.a))
    where
      ne : side j h.a ≡ pos 0 → ⊥
      ne z = before_irrefl (subst (λ (p : Point). Before p h.a) (start_on k (record { from = before_le b; to = let l = oh.from in let m = oj.to in omega ints }) z) b)

      go : Sign (side j h.a) → lt_z (gap j h h.a.x) (pos 0) ≡ above j h.a
      go (plus s) = lt_lt_z (neg_neg (gap_turn h j h.a.x) (up_pos (wide wh) (gap-at_a h j) s)) ∙ sym (above_on j h.a s)
      go (nil s) = absurd (ne s)
      go (minus s) = le_lt_z (lt_le (neg_pos (gap_turn h j h.a.x) (up_neg (wide wh) (gap-at_a h j) s))) ∙ sym (above_off j h.a (lt_le s))

  -- j starts later
  pub later_j : Before h.a j.a → under x j h ≡ lt_z (side h j.a) (pos 0)
  later_j b = under_at j.a.x (≤ℤ_refl j.a.x) (before_le b) oj.from (λ z. ne (down_nil (wide wj) (gap-at_a j h) z)) ∙ same_sign (side h j.a) (wide wj) (gap-at_a j h)
    where
      ne : side h j.a ≡ pos 0 → ⊥
      ne z = before_irrefl (subst (λ (p : Point). Before p j.a) (start_on (apart_sym k) (record { from = before_le b; to = let l = oj.from in let m = oh.to in omega ints }) z) b)

  -- they start together
  pub starts_together : j.a ≡ h.a → under x j h ≡ clockwise j h
  unfolding under
  starts_together e = go (order h.a.x x)
    where
      oj' : Over h.a.x j
      oj' = record { from = subst (λ (p : Point). j.a.x ≤ℤ p.x) e (≤ℤ_refl j.a.x); to = let l = oh.from in let m = oj.to in omega ints }

      z : gap j h h.a.x ≡ pos 0
      z = neg_nil (gap_turn h j h.a.x) (up_nil (wide wh) (gap-at_a h j) (subst (λ (p : Point). side j p ≡ pos 0) e (side_own_a j)))

      y : ℤ
      y = h.a.x +ℤ pos 1

      ay : h.a.x <ℤ y
      ay = omega (ints, of-+ h.a.x (pos 1), of_pos 1)

      go : (h.a.x <ℤ x) ⊎ (x ≤ℤ h.a.x) → under x j h ≡ clockwise j h
      go (inl l) =
          let yx : y ≤ℤ x = omega (ints, of-+ h.a.x (pos 1), of_pos 1) in
          let f = oj'.from in let a = ay in let t = oj.to in let u = oh.to in
          under_at y (omega ints) (lt_le ay) yx (not_met k wj wh y ay (omega ints) (omega ints) (omega ints)) ∙ start_turn j wh z
      go (inr l) = let q : h.a.x ≡ x = let f = oh.from in omega ints in
          subst (λ v. under v j h ≡ clockwise j h) q (falls-nil (gap j h y) z ∙ start_turn j wh z)

  pub under_by_side_lem : under x j h ≡ under_by_side j h
  under_by_side_lem = go (compare j.a h.a)
    where
      go : Before j.a h.a ⊎ (Before h.a j.a ⊎ (j.a ≡ h.a)) → under x j h ≡ under_by_side j h
      go (inl b) = later_h b ∙ sym (by_side_later_h j h b)
      go (inr (inl b)) = later_j b ∙ sym (by_side_later_j j h b)
      go (inr (inr e)) = starts_together e ∙ sym (by_side_together j h e)

pub by_side_irrefl : (s : Segment) → under_by_side s s ≡ false
unfolding under_by_side clockwise
by_side_irrefl s =
    ap (λ (t : Bool). cond t (above s s.a) (cond t (lt_z (side s s.a) (pos 0)) (above s s.b))) (lt_p_irrefl s.a) ∙ above_own_b s

pub by_side_asym : (s t : Segment) → under_by_side s t ≡ true → under_by_side t s ≡ false
unfolding clockwise
by_side_asym s t u = go (compare s.a t.a)
  where
    go : Before s.a t.a ⊎ (Before t.a s.a ⊎ (s.a ≡ t.a)) → under_by_side t s ≡ false
    go (inl b) = by_side_later_j t s b ∙ le_lt_z (lt_le (above_yes s t.a (sym (by_side_later_h s t b) ∙ u)))
    go (inr (inl b)) = by_side_later_h t s b ∙ above_off t s.a (lt_le (lt_z_true (sym (by_side_later_j s t b) ∙ u)))
    go (inr (inr e)) = by_side_together t s (sym e) ∙ above_off t s.b (lt_le (neg_neg (side_start s t e) (above_yes s t.b (sym (by_side_together s t e) ∙ u))))

-- of two that span a strip, where the one is not lower the other is
pub by_side_total : {s t : Segment} {x : ℤ} → Apart s t → Over x s → Over x t → under_by_side s t ≡ false → under_by_side t s ≡ true
by_side_total k os ot e = ⊎_elim (λ u. absurd (clash (sym (under_by_side_lem k os ot) ∙ u) e)) (λ u. sym (under_by_side_lem (apart_sym k) ot os) ∙ u) (under-total k os ot)
