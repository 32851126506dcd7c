-- The order of visiting of the sweep, by start, and at one start counter-clockwise from the lowest: it is strict, and total among segments that do not meet wrongly.
use mathlib.Core.Path.{◌≡◌, sym, ◌∙◌, subst}
use mathlib.Core.Logic.{◌⊎◌, inl, inr}
use mathlib.Core.Bool.{Bool, true, false, ◌&&◌, ◌||◌}
use lib.IntN.{pos}
use lib.Signed.{◌≤ℤ◌, ◌<ℤ◌, ≤ℤ_refl}
use Rattle.integers.proofs.Booleans.{both, both_l, both_r, or_l, or_r, one_of, clash, is_false}
use Rattle.integers.proofs.Order.{lt_le}
use Rattle.geom.specs.declared.Point.{Point}
use Rattle.geom.specs.Points.{lt_p, eq_p, cross}
use Rattle.geom.proofs.Points.{eq_eq_p, eq_p-true, Before, before, before_le, before_irrefl, before_trans, compare, lt_p-true}
use Rattle.geom.proofs.Points.CrossProduct.{not_left, turn}
use Rattle.segm.specs.declared.Segment.{Segment}
use Rattle.meetings.specs.Meetings.{side}
use Rattle.strip.specs.Strip.{above, clockwise}
use Rattle.strip.proofs.Strip.Signs.{Sign, minus, nil, plus, sign, neg_pos, neg_neg, neg_nil}
use Rattle.strip.proofs.Strip.Gap.{side_start}
use Rattle.strip.proofs.Strip.Apart.{Apart, Wide}
use Rattle.strip.proofs.Strip.Above.{above_on, above_off, above_yes}

-- s and t have one start, and s is the lower just right of it
unfoldable pub lower_start : Segment → Segment → Bool
lower_start s t = eq_p s.a t.a && clockwise s t

-- s is visited before t
unfoldable pub first : Segment → Segment → Bool
first s t = lt_p s.a t.a || lower_start s t

pub data First (s t : Segment) : Type 0 where
  earlier : Before s.a t.a → First s t
  lower : s.a ≡ t.a → pos 0 <ℤ side s t.b → First s t

pub first-true : {s t : Segment} → first s t ≡ true → First s t
unfolding first lower_start clockwise
first-true {s} {t} e = go (one_of (lt_p s.a t.a) (eq_p s.a t.a && above s t.b) e)
  where
    go : (lt_p s.a t.a ≡ true) ⊎ ((eq_p s.a t.a && above s t.b) ≡ true) → First s t
    go (inl h) = earlier (lt_p-true h)
    go (inr h) = lower (eq_p-true (both_l (eq_p s.a t.a) (above s t.b) h)) (above_yes s t.b (both_r (eq_p s.a t.a) (above s t.b) h))

pub first_by : {s t : Segment} → First s t → first s t ≡ true
unfolding first lower_start clockwise
first_by {s} {t} (earlier h) = or_l (eq_p s.a t.a && above s t.b) (before h)
first_by {s} {t} (lower e h) = or_r (lt_p s.a t.a) (both (eq_eq_p e) (above_on s t.b h))

-- the starts weakly rise
pub first_x : {s t : Segment} → First s t → s.a.x ≤ℤ t.a.x
first_x (earlier h) = before_le h
first_x {s} {t} (lower e h) = subst (λ (p : Point). s.a.x ≤ℤ p.x) e (≤ℤ_refl s.a.x)

-- ---- at one start
pub clockwise_on : {s t : Segment} → First s t → s.a ≡ t.a → clockwise s t ≡ true
unfolding clockwise
clockwise_on {s} {t} (earlier h) e = absurd (before_irrefl (subst (λ (p : Point). Before s.a p) (sym e) h))
clockwise_on {s} {t} (lower e h) e' = above_on s t.b h

pub clockwise_off : {s t : Segment} → First t s → s.a ≡ t.a → clockwise s t ≡ false
unfolding clockwise
clockwise_off {s} {t} (earlier h) e = absurd (before_irrefl (subst (λ (p : Point). Before p s.a) (sym e) h))
clockwise_off {s} {t} (lower e h) e' = above_off s t.b (lt_le (neg_neg (side_start t s e) h))

-- a point to the right is left of no vertical segment
pub turn_wide : (s : Segment) (p : Point) → Before s.a s.b → s.a.x ≤ℤ p.x → pos 0 <ℤ side s p → Wide s
unfolding side
turn_wide s p (inl h) l t = record { goes = h }
turn_wide s p (inr h) l t = absurd (not_left s.a s.b p h.0 h.1 l t)

-- ---- strict and total
pub first_trans : {s t u : Segment} → Before s.a s.b → Before t.a t.b → Before u.a u.b → First s t → First t u → First s u
unfolding side
first_trans {s} {t} {u} ps pt pu (earlier h) (earlier k) = earlier (before_trans h k)
first_trans {s} {t} {u} ps pt pu (earlier h) (lower e k) = earlier (subst (λ (p : Point). Before s.a p) e h)
first_trans {s} {t} {u} ps pt pu (lower e h) (earlier k) = earlier (subst (λ (p : Point). Before p u.a) (sym e) k)
first_trans {s} {t} {u} ps pt pu (lower e h) (lower f k) =
    lower (e ∙ f)
    (turn s.a s.b t.b u.b (before ps) (before (subst (λ (p : Point). Before p t.b) (sym e) pt)) (before (subst (λ (p : Point). Before p u.b) (sym (e ∙ f)) pu)) h
    (subst (λ (p : Point). pos 0 <ℤ cross p t.b u.b) (sym e) k))

pub first-total : {s t : Segment} → Apart s t → Before s.a s.b → Before t.a t.b → First s t ⊎ First t s
first-total {s} {t} k ps pt = go (compare s.a t.a)
  where
    on_line : s.a ≡ t.a → side s t.b ≡ pos 0 → Before s.b t.b ⊎ (Before t.b s.b ⊎ (s.b ≡ t.b)) → ⊥
    on_line e z (inl h) = k.b_on (neg_nil (side_start s t e) z) (subst (λ (p : Point). Before p s.b) e ps, h)
    on_line e z (inr (inl h)) = k.on_b z (subst (λ (p : Point). Before p t.b) (sym e) pt, h)
    on_line e z (inr (inr h)) = k.same e h

    by_side : s.a ≡ t.a → Sign (side s t.b) → First s t ⊎ First t s
    by_side e (plus h) = inl (lower e h)
    by_side e (minus h) = inr (lower (sym e) (neg_pos (side_start s t e) h))
    by_side e (nil h) = absurd (on_line e h (compare s.b t.b))

    go : Before s.a t.a ⊎ (Before t.a s.a ⊎ (s.a ≡ t.a)) → First s t ⊎ First t s
    go (inl h) = inl (earlier h)
    go (inr (inl h)) = inr (earlier h)
    go (inr (inr e)) = by_side e (sign (side s t.b))

pub first_asym : (s t : Segment) → first s t ≡ true → first t s ≡ false
first_asym s t e = is_false (first t s) (λ e'. go (first-true e) (first-true e'))
  where
    go : First s t → First t s → ⊥
    go (earlier h) (earlier k) = before_irrefl (before_trans h k)
    go (earlier h) (lower f k) = before_irrefl (subst (λ (p : Point). Before s.a p) f h)
    go (lower f h) k = clash (clockwise_on (lower f h) f) (clockwise_off k f)

pub first_off : {s t : Segment} → First t s → first s t ≡ false
first_off {s} {t} h = first_asym t s (first_by h)

pub first_irrefl : (s : Segment) → first s s ≡ false
first_irrefl s = is_false (first s s) (λ e. clash e (first_asym s s e))

pub first_either : {s t : Segment} → First s t ⊎ First t s → (first s t ≡ true) ⊎ (first t s ≡ true)
first_either (inl h) = inl (first_by h)
first_either (inr h) = inr (first_by h)
