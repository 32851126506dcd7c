-- The count under a segment does not change along it.
use mathlib.Core.Path.{◌≡◌, refl, sym, ◌∙◌, ap, subst}
use mathlib.Core.Logic.{◌⊎◌, inl, inr}
use mathlib.Core.Bool.{Bool, false, ◌&&◌}
use Prim.Native.Nat.{ℕ, zero, suc}
use lib.IntN.{ℤ, pos, ◌+ℤ◌, ◌-ℤ◌, nat_abs, +ℤ_idr}
use lib.Signed.{lt_z, ◌≤ℤ◌, ◌<ℤ◌}
use Rattle.integers.proofs.Booleans.{not_l, not_r, on}
use Rattle.integers.proofs.Linear.{ints, of_pos, of-+, of_abs, of_side, of--}
use Rattle.integers.proofs.Order.{order, lt_le}
use Rattle.geom.specs.declared.Point.{Point}
use Rattle.geom.specs.Points.{eq_z}
use Rattle.geom.proofs.Points.{eq_eq_z, ne_eq_z, Before, lt_p-true, before_le}
use Rattle.segm.specs.declared.Segment.{Segment}
use Rattle.lists.specs.Members.{◌∈◌}
use Rattle.lists.specs.Sums.{only}
use Rattle.segm.specs.Segments.{Drawing, total}
use Rattle.lists.proofs.Members.{pairs_at}
use Rattle.segm.proofs.Segments.{straight, crossed, total_trade}
use Rattle.meetings.specs.Meetings.{side, meets_wrongly}
use Rattle.checks.specs.Accepted.{Good}
use Rattle.strip.specs.Strip.{spans, above, gap, under}
use Rattle.strip.proofs.Strip.Signs.{same_sign}
use Rattle.strip.proofs.Strip.Gap.{gap-at_a, gap-at_b}
use Rattle.strip.proofs.Strip.Apart.{Apart, apart_sym, apart, Wide, wide, not_met, Over, over_wide, under_right, under_left, under_irrefl, vertical_one_side}
use Rattle.strip.proofs.Strip.Above.{spans_on, spans_late, spans_past}
use Rattle.ray.proofs.Flow.{flow}

-- ---- what a good drawing gives of its members
pub one_or_apart : {d : Drawing} → Good d → (j h : Segment) → j ∈ d → h ∈ d → (j ≡ h) ⊎ Apart j h
one_or_apart {d} g j h m n = go (pairs_at (λ s t. meets_wrongly s t ≡ false) d g.apart j h m n)
  where
    go : (j ≡ h) ⊎ ((meets_wrongly j h ≡ false) ⊎ (meets_wrongly h j ≡ false)) → (j ≡ h) ⊎ Apart j h
    go (inl e) = inl e
    go (inr (inl e)) = inr (apart e)
    go (inr (inr e)) = inr (apart_sym (apart e))

pub proper : {d : Drawing} → Good d → (s : Segment) → s ∈ d → Before s.a s.b
proper g s m = lt_p-true (g.faultless.proper s m)

-- ---- what is under h right of x
unfoldable pub beneath : Drawing → Segment → ℤ → ℤ
beneath d h x = total (λ j. spans j x && under x j h) d

-- the count straight under p, in the strip right of it
unfoldable pub beneath_point : Drawing → Point → ℤ
beneath_point d p = total (λ j. spans j p.x && above j p) d

-- the points straight under h at y
unfoldable pub foot : Segment → ℤ → Point → Bool
foot h y q = eq_z q.x y && lt_z (side h q) (pos 0)

foot_off : (h : Segment) (y : ℤ) (q : Point) → (q.x ≡ y → ⊥) → foot h y q ≡ false
unfolding foot
foot_off h y q f = not_l (lt_z (side h q) (pos 0)) (ne_eq_z f)

foot_on : (h : Segment) (y : ℤ) (q : Point) → q.x ≡ y → foot h y q ≡ lt_z (side h q) (pos 0)
unfolding foot
foot_on h y q e = on (eq_eq_z e) refl

-- ---- one segment's part in the step from strip x to strip y
abbrev Step : Segment → ℤ → ℤ → ℤ → Segment → Type 0
Step h x y w j = only (spans j y && under y j h) w +ℤ only (foot h y j.b) w ≡ only (spans j x && under x j h) w +ℤ only (foot h y j.a) w

module _ (h : Segment) (x : ℤ) (ha : h.a.x ≤ℤ x) (hb : (x +ℤ pos 1) <ℤ h.b.x) (w : ℤ) where
  step_self : Step h x (x +ℤ pos 1) w h
  step_self =
      straight w (not_r (spans h (x +ℤ pos 1)) (under_irrefl h (x +ℤ pos 1)) ∙ sym (not_r (spans h x) (under_irrefl h x)))
      (foot_off h (x +ℤ pos 1) h.b (λ e. omega ints) ∙ sym (foot_off h (x +ℤ pos 1) h.a (λ e. omega (ints, of-+ x (pos 1), of_pos 1))))

  step_apart : (j : Segment) → Apart j h → Before j.a j.b → Step h x (x +ℤ pos 1) w j
  step_apart j k pr = go (order j.a.x y) (order y j.a.x) (order j.b.x y) (order y j.b.x) pr
    where
      y : ℤ
      y = x +ℤ pos 1

      le : j.a.x ≤ℤ j.b.x
      le = before_le pr

      xy : x <ℤ y
      xy = omega (ints, of-+ x (pos 1), of_pos 1)

      yx : (z : ℤ) → z <ℤ y → z ≤ℤ x
      yx z l = omega (ints, of-+ x (pos 1), of_pos 1)

      wh : Wide h
      wh = record { goes = let l = xy in omega ints }

      over_h : Over x h
      over_h = record { from = ha; to = let l = xy in omega ints }

      differ : Wide j → j.a.x ≤ℤ y → y ≤ℤ j.b.x → gap j h y ≡ pos 0 → ⊥
      differ wj = not_met k wj wh y (let l = xy in omega ints) hb

      at_a : y ≡ j.a.x → Wide j → lt_z (gap j h y) (pos 0) ≡ foot h y j.a
      at_a e wj = ap (λ z. lt_z (gap j h z) (pos 0)) e ∙ same_sign (side h j.a) (wide wj) (gap-at_a j h) ∙ sym (foot_on h y j.a (sym e))

      at_b : y ≡ j.b.x → Wide j → lt_z (gap j h y) (pos 0) ≡ foot h y j.b
      at_b e wj = ap (λ z. lt_z (gap j h z) (pos 0)) e ∙ same_sign (side h j.b) (wide wj) (gap-at_b j h) ∙ sym (foot_on h y j.b (sym e))

      here : Over y j → (spans j y && under y j h) ≡ lt_z (gap j h y) (pos 0)
      here o = on (spans_on o) (under_left j h y (differ (over_wide o) o.from (lt_le o.to)))

      there : Over x j → (spans j x && under x j h) ≡ lt_z (gap j h y) (pos 0)
      there o = on (spans_on o) (under_right k o over_h (differ (over_wide o) (let l = xy in let m = o.from in omega ints) (let m = o.to in omega (ints, of-+ x (pos 1), of_pos 1))))

      go : (j.a.x <ℤ y) ⊎ (y ≤ℤ j.a.x) → (y <ℤ j.a.x) ⊎ (j.a.x ≤ℤ y) → (j.b.x <ℤ y) ⊎ (y ≤ℤ j.b.x) → (y <ℤ j.b.x) ⊎ (j.b.x ≤ℤ y) → Before j.a j.b
          → Step h x y w j
      go (inl p) q (inl r) s pr =
          straight w (not_l (under y j h) (spans_past j (lt_le r)) ∙ sym (not_l (under x j h) (spans_past j (yx j.b.x r))))
          (foot_off h y j.b (λ e. omega ints) ∙ sym (foot_off h y j.a (λ e. omega ints)))
      go (inl p) q (inr r) (inl s) pr =
          straight w (here (record { from = lt_le p; to = s }) ∙ sym (there (record { from = yx j.a.x p; to = let l = xy in omega ints })))
          (foot_off h y j.b (λ e. omega ints) ∙ sym (foot_off h y j.a (λ e. omega ints)))
      go (inl p) q (inr r) (inr s) pr =
          crossed w (not_l (under y j h) (spans_past j s) ∙ sym (foot_off h y j.a (λ e. omega ints)))
          (sym (at_b (omega ints) (record { goes = omega ints })) ∙ sym (there (record { from = yx j.a.x p; to = let l = xy in omega ints })))
      go (inr p) (inl q) r s pr =
          straight w (not_l (under y j h) (spans_late j q) ∙ sym (not_l (under x j h) (spans_late j (let l = xy in omega ints))))
          (foot_off h y j.b (λ e. let l = le in omega ints) ∙ sym (foot_off h y j.a (λ e. omega ints)))
      go (inr p) (inr q) (inl r) s pr = absurd (let l = le in omega ints)
      go (inr p) (inr q) (inr r) (inl s) pr =
          crossed w (here (record { from = q; to = s }) ∙ at_a (omega ints) (record { goes = omega ints }))
          (foot_off h y j.b (λ e. omega ints) ∙ sym (not_l (under x j h) (spans_late j (let l = xy in omega ints))))
      go (inr p) (inr q) (inr r) (inr s) (inl t) = absurd (omega ints)
      go (inr p) (inr q) (inr r) (inr s) (inr t) =
          straight w (not_l (under y j h) (spans_past j s) ∙ sym (not_l (under x j h) (spans_late j (let l = xy in omega ints))))
          (foot_on h y j.b (omega ints) ∙ vertical_one_side k wh (sym t.0) t.1 (let l = xy in omega ints) (omega ints) ∙ sym (foot_on h y j.a (omega ints)))

-- ---- the theorem
module _ {d : Drawing} (g : Good d) (h : Segment) (m : h ∈ d) where
  pub step : (x : ℤ) → h.a.x ≤ℤ x → (x +ℤ pos 1) <ℤ h.b.x → beneath d h (x +ℤ pos 1) ≡ beneath d h x
  unfolding beneath
  step x ha hb =
      total_trade d (λ j. spans j (x +ℤ pos 1) && under (x +ℤ pos 1) j h) (λ j. foot h (x +ℤ pos 1) j.b) (λ j. spans j x && under x j h) (λ j. foot h (x +ℤ pos 1) j.a)
      (λ j n w. part j n w (one_or_apart g j h n m)) (sym (flow d g.balanced (foot h (x +ℤ pos 1))))
    where
      part : (j : Segment) → j ∈ d → (w : ℤ) → (j ≡ h) ⊎ Apart j h → Step h x (x +ℤ pos 1) w j
      part j n w (inl e) = subst (λ i. Step h x (x +ℤ pos 1) w i) (sym e) (step_self h x ha hb w)
      part j n w (inr k) = step_apart h x ha hb w j k (proper g j n)

  climb : (n : ℕ) → (h.a.x +ℤ pos n) <ℤ h.b.x → beneath d h (h.a.x +ℤ pos n) ≡ beneath d h h.a.x
  climb zero l = ap (beneath d h) (+ℤ_idr h.a.x)
  climb (suc n) l =
      let e : (h.a.x +ℤ pos n) +ℤ pos 1 ≡ h.a.x +ℤ pos (suc n) = omega (ints, of-+ (h.a.x +ℤ pos n) (pos 1), of-+ h.a.x (pos n), of-+ h.a.x (pos (suc n)), of_pos 1, of_pos n, of_pos (suc n)) in
      ap (beneath d h) (sym e)
      ∙ step (h.a.x +ℤ pos n) (omega (ints, of-+ h.a.x (pos n), of_pos n)) (subst (λ z. z <ℤ h.b.x) (sym e) l)
      ∙ climb n (omega (ints, of-+ h.a.x (pos n), of-+ h.a.x (pos (suc n)), of_pos n, of_pos (suc n)))

  -- the count under h is the same all along it
  pub invariance : (x : ℤ) → Over x h → beneath d h x ≡ beneath d h h.a.x
  invariance x o = ap (beneath d h) (sym e) ∙ climb (nat_abs (x -ℤ h.a.x)) (subst (λ z. z <ℤ h.b.x) (sym e) o.to)
    where
      e : h.a.x +ℤ pos (nat_abs (x -ℤ h.a.x)) ≡ x
      e = let f = o.from in
          omega (ints, of-+ h.a.x (pos (nat_abs (x -ℤ h.a.x))), of_pos (nat_abs (x -ℤ h.a.x)), of_abs (x -ℤ h.a.x), of_side (x -ℤ h.a.x), of-- x h.a.x)
