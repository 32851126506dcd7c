-- A vertical segment and another that do not meet wrongly: the other passes under its foot or above its head, and of two vertical ones the one stands on the other.
-- The converse of `passes_apart` and of `stacked`.
use mathlib.Core.Path.{◌≡◌, refl, sym, ap, ◌∙◌}
use mathlib.Core.Logic.{◌⊎◌, inl, inr, ⊎_elim}
use lib.IntN.{ℤ, pos, ◌-ℤ◌, ◌*ℤ◌}
use lib.Signed.{◌≤ℤ◌, ◌<ℤ◌}
use Rattle.integers.proofs.Booleans.{clash}
use Rattle.integers.proofs.Linear.{ints, of_pos, of--}
use Rattle.integers.proofs.Order.{order, lt_lt_z, le_lt_z, lt_le}
use Rattle.geom.specs.declared.Point.{Point}
use Rattle.geom.proofs.Points.{point}
use Rattle.segm.specs.declared.Segment.{Segment}
use Rattle.meetings.specs.Meetings.{side}
use Rattle.strip.specs.Strip.{reach}
use Rattle.strip.proofs.Strip.Signs.{Sign, minus, nil, plus, sign, up_pos, up_neg, down_neg, down_pos}
use Rattle.strip.proofs.Strip.Gap.{side-at_a, side-at_b}
use Rattle.strip.proofs.Strip.Apart.{Between, Apart, Wide, wide, vertical_one_side}
use Rattle.strip.proofs.Strip.Visits.{First, earlier, lower, first-total}
use Rattle.strip.specs.Neighbours.{LiesUnder, LiesAbove, Passes}
use Rattle.strip.proofs.Neighbours.Upright.{Upright, in_line, end_at}

-- ---- s at y
-- a point of s's line at y is the start of s, or lies between its ends
abbrev pub Inner : ℤ → Segment → Type 0
Inner y s = (p : Point) → p.x ≡ y → side s p ≡ pos 0 → (s.a ≡ p) ⊎ Between s p

pub inner_a : {y : ℤ} (s : Segment) → s.a.x ≤ℤ y → y <ℤ s.b.x → Inner y s
inner_a {y} s f t p q z = go (order s.a.x y)
  where
    go : (s.a.x <ℤ y) ⊎ (y ≤ℤ s.a.x) → (s.a ≡ p) ⊎ Between s p
    go (inl l) = inr (inl (omega ints), inl (omega ints))
    go (inr l) = inl (end_at (λ t. t.a) (λ t. inl refl) (record { goes = omega ints }) (omega ints) z)

-- ---- s at v's x: it lies under v's foot, or above v's head
module _ {v s : Segment} (u : Upright v) (w : Wide s) (k : Apart v s) (from : s.a.x ≤ℤ v.a.x) (to : v.a.x ≤ℤ s.b.x) where
  -- s does not part v's ends
  not_parted : side s v.a <ℤ pos 0 → pos 0 <ℤ side s v.b → ⊥
  not_parted f g = go (order s.a.x v.a.x) (order v.a.x s.b.x)
    where
      -- an end p of s at v's x would be between v's
      between : (p : Point) → ((q : Point) → q.x ≡ p.x → side s q ≡ reach s *ℤ (q.y -ℤ p.y)) → p.x ≡ v.a.x → Between v p
      between p at e =
          let l = down_neg (wide w) (at v.a (sym e)) f in
          let m = down_pos (wide w) (at v.b (u.plumb ∙ sym e)) g in
          (inr (sym e, omega (ints, of-- v.a.y p.y, of_pos 0)), inr (e ∙ sym u.plumb, omega (ints, of-- v.b.y p.y, of_pos 0)))

      go : (s.a.x <ℤ v.a.x) ⊎ (v.a.x ≤ℤ s.a.x) → (v.a.x <ℤ s.b.x) ⊎ (s.b.x ≤ℤ v.a.x) → ⊥
      go (inl a) (inl b) = clash (vertical_one_side k w u.plumb u.rises a b ∙ lt_lt_z f) (le_lt_z (lt_le g))
      go (inl a) (inr b) = let e : s.b.x ≡ v.a.x = omega ints in k.on_b (in_line u s.b e) (between s.b (side-at_b s) e)
      go (inr a) b = let e : s.a.x ≡ v.a.x = omega ints in k.on_a (in_line u s.a e) (between s.a (side-at_a s) e)

  module _ (inner : Inner v.a.x s) where
    pub foot_over : pos 0 <ℤ side s v.b → LiesUnder (λ t. t.a) v.a s
    foot_over g = go (sign (side s v.a))
      where
        go : Sign (side s v.a) → LiesUnder (λ t. t.a) v.a s
        go (plus f) = inl f
        go (nil z) = ⊎_elim inr (λ b. absurd (k.a_on z b)) (inner v.a refl z)
        go (minus f) = absurd (not_parted f g)

    pub head_under : side s v.b ≤ℤ pos 0 → LiesAbove (λ t. t.a) v.b s
    head_under g = go (sign (side s v.b))
      where
        go : Sign (side s v.b) → LiesAbove (λ t. t.a) v.b s
        go (plus f) = absurd (omega ints)
        go (nil z) = ⊎_elim inr (λ b. absurd (k.b_on z b)) (inner v.b u.plumb z)
        go (minus f) = inl f

-- ---- two vertical ones at one x: the one that starts no lower stands on the other
pub stands_on : {v w : Segment} → Upright v → Upright w → w.a.x ≡ v.a.x → Apart v w → v.a.y ≤ℤ w.a.y → v.b.y ≤ℤ w.a.y
stands_on {v} {w} u o e k l = go (order w.a.y v.b.y) (first-total k (inr (sym u.plumb, u.rises)) (inr (sym o.plumb, o.rises)))
  where
    in_v : side v w.b ≡ pos 0
    in_v = in_line u w.b (o.plumb ∙ e)

    in_w : side w v.b ≡ pos 0
    in_w = in_line o v.b (u.plumb ∙ sym e)

    go : (w.a.y <ℤ v.b.y) ⊎ (v.b.y ≤ℤ w.a.y) → First v w ⊎ First w v → v.b.y ≤ℤ w.a.y
    go (inr m) f = m
    go (inl m) (inl (earlier b)) = absurd (k.on_a (in_line u w.a e) (b, inr (e ∙ sym u.plumb, m)))
    go (inl m) (inl (lower q h)) = absurd (let z = in_v in omega ints)
    go (inl m) (inr (earlier (inl b))) = absurd (omega ints)
    go (inl m) (inr (earlier (inr b))) = absurd (let c = b.1 in omega ints)
    go (inl m) (inr (lower q h)) = absurd (let z = in_w in omega ints)

-- ---- s has its end e at v's x, not strictly between v's ends: it passes
module _ (e : Segment → Point) {v s : Segment} (u : Upright v) (w : Wide s) (at : (e s).x ≡ v.a.x) (side-at : (p : Point) → p.x ≡ (e s).x → side s p ≡ reach s *ℤ (p.y -ℤ (e s).y)) where
  pub passes_under : (e s).y ≤ℤ v.a.y → LiesUnder e v.a s
  passes_under h = go (order (e s).y v.a.y)
    where
      go : ((e s).y <ℤ v.a.y) ⊎ (v.a.y ≤ℤ (e s).y) → LiesUnder e v.a s
      go (inl l) = inl (up_pos (wide w) (side-at v.a (sym at)) (omega (ints, of-- v.a.y (e s).y, of_pos 0)))
      go (inr l) = inr (point at (omega ints))

  pub passes_above : v.b.y ≤ℤ (e s).y → LiesAbove e v.b s
  passes_above h = go (order v.b.y (e s).y)
    where
      go : (v.b.y <ℤ (e s).y) ⊎ ((e s).y ≤ℤ v.b.y) → LiesAbove e v.b s
      go (inl l) = inl (up_neg (wide w) (side-at v.b (u.plumb ∙ sym at)) (omega (ints, of-- v.b.y (e s).y, of_pos 0)))
      go (inr l) = inr (point (at ∙ sym u.plumb) (omega ints))

-- what starts left of v's x passes it strictly, so with either end
pub passes_through : {v s : Segment} (e : Segment → Point) → Upright v → s.a.x <ℤ v.a.x → Passes (λ t. t.a) v s → Passes e v s
passes_through e u left (inl (inl h)) = inl (inl h)
passes_through {v} {s} e u left (inl (inr q)) = absurd (let r = ap (λ (p : Point). p.x) q in omega ints)
passes_through e u left (inr (inl h)) = inr (inl h)
passes_through {v} {s} e u left (inr (inr q)) = absurd (let r = ap (λ (p : Point). p.x) q in let b = u.plumb in omega ints)
