-- Which segments span a strip, which points are above them, and what a start on another segment's line tells.
use mathlib.Core.Path.{◌≡◌, sym, ◌∙◌, subst}
use mathlib.Core.Logic.{◌⊎◌, inl, inr}
use mathlib.Core.Bool.{true, false}
use lib.IntN.{ℤ, pos, ◌+ℤ◌}
use lib.Signed.{lt_z, le_z, ◌≤ℤ◌, ◌<ℤ◌}
use Rattle.integers.proofs.Booleans.{both, both_l, both_r, not_l, not_r}
use Rattle.integers.proofs.Linear.{ints, of_pos, of-+}
use Rattle.integers.proofs.Order.{order, lt_z_true, lt_z_false, le_z_true, lt_lt_z, le_lt_z, le_le_z, lt_le_z, lt_le}
use Rattle.geom.specs.declared.Point.{Point}
use Rattle.geom.proofs.Points.{point}
use Rattle.segm.specs.declared.Segment.{Segment}
use Rattle.meetings.specs.Meetings.{side}
use Rattle.strip.specs.Strip.{spans, above, clockwise, gap}
use Rattle.strip.proofs.Strip.Signs.{Sign, minus, nil, plus, sign, down_pos, down_neg, down_nil, neg_pos, neg_neg, neg_nil, nil_le, nil_ge, diff_nil}
use Rattle.strip.proofs.Strip.Gap.{slope, gap-at_b, gap_turn, side-at_a, side_own_a, side_own_b}
use Rattle.strip.proofs.Strip.Apart.{Apart, Wide, wide, Over, over_wide, gap-rises-<, gap-falls-<, gap_flat}

-- ---- spans
pub spans_on : {x : ℤ} {j : Segment} → Over x j → spans j x ≡ true
unfolding spans
spans_on o = both (le_le_z o.from) (lt_lt_z o.to)

pub spans-over : {x : ℤ} {j : Segment} → spans j x ≡ true → Over x j
unfolding spans
spans-over {x} {j} e = record { from = le_z_true (both_l (le_z j.a.x x) (lt_z x j.b.x) e); to = lt_z_true (both_r (le_z j.a.x x) (lt_z x j.b.x) e) }

pub spans_late : {x : ℤ} (j : Segment) → x <ℤ j.a.x → spans j x ≡ false
unfolding spans
spans_late {x} j h = not_l (lt_z x j.b.x) (lt_le_z h)

pub spans_past : {x : ℤ} (j : Segment) → j.b.x ≤ℤ x → spans j x ≡ false
unfolding spans
spans_past {x} j h = not_r (le_z j.a.x x) (le_lt_z h)

-- ---- above
pub above_on : (s : Segment) (p : Point) → pos 0 <ℤ side s p → above s p ≡ true
unfolding above
above_on s p h = lt_lt_z h

pub above_off : (s : Segment) (p : Point) → side s p ≤ℤ pos 0 → above s p ≡ false
unfolding above
above_off s p h = le_lt_z h

pub above_yes : (s : Segment) (p : Point) → above s p ≡ true → pos 0 <ℤ side s p
unfolding above
above_yes s p e = lt_z_true e

pub above_no : (s : Segment) (p : Point) → above s p ≡ false → side s p ≤ℤ pos 0
unfolding above
above_no s p e = lt_z_false e

pub above_own_a : (s : Segment) → above s s.a ≡ false
above_own_a s = above_off s s.a (nil_le (side_own_a s))

pub above_own_b : (s : Segment) → above s s.b ≡ false
above_own_b s = above_off s s.b (nil_le (side_own_b s))

-- ---- a start on a line
-- h starts on j: at j's start
pub start_on : {j h : Segment} → Apart j h → Over h.a.x j → side j h.a ≡ pos 0 → j.a ≡ h.a
start_on {j} {h} k o z = go (order j.a.x h.a.x)
  where
    go : (j.a.x <ℤ h.a.x) ⊎ (h.a.x ≤ℤ j.a.x) → j.a ≡ h.a
    go (inl l) = absurd (k.on_a z (inl l, inl o.to))
    go (inr l) =
        let e : h.a.x ≡ j.a.x = let f = o.from in omega ints in
        point (sym e) (sym (diff_nil h.a.y j.a.y (down_nil (wide (over_wide o)) (side-at_a j h.a e) z)))

-- with one start: clockwise is lower
pub start_turn : (j : Segment) {h : Segment} → Wide h → gap j h h.a.x ≡ pos 0 → lt_z (gap j h (h.a.x +ℤ pos 1)) (pos 0) ≡ clockwise j h
unfolding clockwise above
start_turn j {h} wh z = go (sign (slope h j))
  where
    y : ℤ
    y = h.a.x +ℤ pos 1

    l : h.a.x <ℤ y
    l = omega (ints, of-+ h.a.x (pos 1), of_pos 1)

    z' : gap h j h.a.x ≡ pos 0
    z' = neg_nil (gap_turn j h h.a.x) z

    go : Sign (slope h j) → lt_z (gap j h y) (pos 0) ≡ lt_z (pos 0) (side j h.b)
    go (plus v) =
        let a : pos 0 <ℤ gap h j y = subst (λ z. z <ℤ gap h j y) z' (gap-rises-< h j h.a.x y v l) in
        let b : pos 0 <ℤ gap h j h.b.x = subst (λ z. z <ℤ gap h j h.b.x) z' (gap-rises-< h j h.a.x h.b.x v wh.goes) in
        lt_lt_z (neg_neg (gap_turn h j y) a) ∙ sym (lt_lt_z (down_pos (wide wh) (gap-at_b h j) b))
    go (nil v) =
        let a = gap_flat h j y h.a.x v ∙ z' in
        let b = gap_flat h j h.b.x h.a.x v ∙ z' in
        le_lt_z (nil_ge (neg_nil (gap_turn h j y) a)) ∙ sym (le_lt_z (nil_le (down_nil (wide wh) (gap-at_b h j) b)))
    go (minus v) =
        let a : gap h j y <ℤ pos 0 = subst (λ z. gap h j y <ℤ z) z' (gap-falls-< h j h.a.x y v l) in
        let b : gap h j h.b.x <ℤ pos 0 = subst (λ z. gap h j h.b.x <ℤ z) z' (gap-falls-< h j h.a.x h.b.x v wh.goes) in
        le_lt_z (lt_le (neg_pos (gap_turn h j y) a)) ∙ sym (le_lt_z (lt_le (down_neg (wide wh) (gap-at_b h j) b)))
