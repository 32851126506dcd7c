-- Two segments that keep their order in every strip that both span do not meet wrongly; and what the test of neighbours says of the strips that both span.
use mathlib.Core.Path.{◌≡◌, sym, ◌∙◌, subst}
use mathlib.Core.Logic.{◌⊎◌, inl, inr, ⊎_elim}
use mathlib.Core.Bool.{true}
use Prim.Native.Nat.{ℕ, zero, suc}
use lib.IntN.{ℤ, pos, ◌+ℤ◌, ◌-ℤ◌, nat_abs}
use lib.Signed.{◌≤ℤ◌, ◌<ℤ◌, ≤ℤ_refl}
use Rattle.integers.proofs.Linear.{ints, of_pos, of_neg, of-+, of--, of_abs}
use Rattle.integers.proofs.Order.{order, lt_le, zero_by, sub_pos}
use Rattle.geom.specs.declared.Point.{Point}
use Rattle.geom.proofs.Points.{Before}
use Rattle.segm.specs.declared.Segment.{Segment}
use Rattle.meetings.specs.Meetings.{side}
use Rattle.strip.specs.Strip.{gap, under, LowerNeighbour}
use Rattle.strip.proofs.Strip.Signs.{Sign, minus, nil, plus, sign, Falls, now, next, falls-true, up_pos, up_neg, up_nil, down_nil, neg_pos, neg_neg, neg_nil, diff_nil, join_both, join_l, join_r, join_nil}
use Rattle.strip.proofs.Strip.Gap.{slope, gap-at_a, gap-at_b, gap_turn, gap_rate, gap_trans, side-at_a, side-at_b, side_own_a, side_own_b}
use Rattle.strip.proofs.Strip.Apart.{Between, Apart, apart, apart_sym, Wide, wide, Over, over_wide, slope_pos, gap-rises, gap_flat, not_met, strip_rise, under_le, under_trans}
use Rattle.strip.proofs.Strip.Compare.{under_by_side_lem}

-- ---- the order at y: s is not higher than t there, and where they meet there the ends `e` of both are there
pub record OrderAt (e : Segment → Point) (y : ℤ) (s t : Segment) : Type 0 where
  pub low : gap s t y ≤ℤ pos 0
  pub level : gap s t y ≡ pos 0 → ((e s).x ≡ y) × ((e t).x ≡ y)

order_at_strict : {e : Segment → Point} {y : ℤ} {s t : Segment} → gap s t y <ℤ pos 0 → OrderAt e y s t
order_at_strict h = record { low = lt_le h; level = λ z. absurd (omega ints) }

pub order_at_trans : {e : Segment → Point} {y : ℤ} {s t u : Segment} → Wide s → Wide t → Wide u → OrderAt e y s t → OrderAt e y t u → OrderAt e y s u
order_at_trans {e} {y} {s} {t} {u} ws wt wu p q = go (sign (gap s t y)) (sign (gap t u y))
  where
    go : Sign (gap s t y) → Sign (gap t u y) → OrderAt e y s u
    go (minus m) (minus n) = order_at_strict (join_both (wide wt) (wide wu) (wide ws) (gap_trans s t u y) m n)
    go (minus m) (nil n) = order_at_strict (join_l (wide wt) (wide wu) (wide ws) (gap_trans s t u y) m n)
    go (nil m) (minus n) = order_at_strict (join_r (wide wt) (wide wu) (wide ws) (gap_trans s t u y) m n)
    go (nil m) (nil n) =
        let z = join_nil (wide wt) (wide wu) (wide ws) (gap_trans s t u y) m n in
        record { low = omega ints; level = λ _. ((p.level m).0, (q.level n).1) }
    go (plus m) n = absurd (let l = p.low in omega ints)
    go (minus m) (plus n) = absurd (let l = q.low in omega ints)
    go (nil m) (plus n) = absurd (let l = q.low in omega ints)

-- s lies under t all through strip x: they meet at its edges only, and only with starts at the left and ends at the right
pub record Tier (x : ℤ) (s t : Segment) : Type 0 where
  pub left : OrderAt (λ i. i.a) x s t
  pub right : OrderAt (λ i. i.b) (x +ℤ pos 1) s t
  pub lower : under x s t ≡ true

pub tier_trans : {x : ℤ} {s t u : Segment} → Wide s → Wide t → Wide u → Tier x s t → Tier x t u → Tier x s u
tier_trans {x} ws wt wu p q = record {
  left = order_at_trans ws wt wu p.left q.left;
  right = order_at_trans ws wt wu p.right q.right;
  lower = under_trans x ws wt wu p.lower q.lower;
}

module _ {s t : Segment} (k : Apart s t) {x : ℤ} (os : Over x s) (ot : Over x t) where
  met_a : gap s t x ≡ pos 0 → t.a.x ≡ x
  met_a z = go (order t.a.x x)
    where
      go : (t.a.x <ℤ x) ⊎ (x ≤ℤ t.a.x) → t.a.x ≡ x
      go (inl l) = absurd (not_met k (over_wide os) (over_wide ot) x l ot.to os.from (lt_le os.to) z)
      go (inr l) = let f = ot.from in omega ints

  met_b : gap s t (x +ℤ pos 1) ≡ pos 0 → t.b.x ≡ x +ℤ pos 1
  met_b z = go (order (x +ℤ pos 1) t.b.x)
    where
      f : (t.a.x <ℤ (x +ℤ pos 1)) × (s.a.x ≤ℤ (x +ℤ pos 1)) × ((x +ℤ pos 1) ≤ℤ s.b.x) × ((x +ℤ pos 1) ≤ℤ t.b.x)
      f = omega (ints, os, ot, of-+ x (pos 1), of_pos 1)

      go : ((x +ℤ pos 1) <ℤ t.b.x) ⊎ (t.b.x ≤ℤ (x +ℤ pos 1)) → t.b.x ≡ x +ℤ pos 1
      go (inl l) = absurd (not_met k (over_wide os) (over_wide ot) (x +ℤ pos 1) f.0 l f.1 f.2 z)
      go (inr l) = let g = f.3 in omega ints

  pub under_tier : under x s t ≡ true → Tier x s t
  unfolding under
  under_tier u = record {
    left = record { low = under_le s t x u; level = λ z. (met_a' (neg_nil (gap_turn s t x) z), met_a z) };
    right = record { low = low (falls-true (gap s t x) (gap s t (x +ℤ pos 1)) u) (order (pos 0) (gap s t (x +ℤ pos 1))); level = λ z. (met_b' (neg_nil (gap_turn s t (x +ℤ pos 1)) z), met_b z) };
    lower = u;
  }
    where
      met_a' : gap t s x ≡ pos 0 → s.a.x ≡ x
      met_a' = Rattle.strip.proofs.Strip.Tiers.met_a (apart_sym k) ot os

      met_b' : gap t s (x +ℤ pos 1) ≡ pos 0 → s.b.x ≡ x +ℤ pos 1
      met_b' = Rattle.strip.proofs.Strip.Tiers.met_b (apart_sym k) ot os

      low : Falls (gap s t x) (gap s t (x +ℤ pos 1)) → (pos 0 <ℤ gap s t (x +ℤ pos 1)) ⊎ (gap s t (x +ℤ pos 1) ≤ℤ pos 0) → gap s t (x +ℤ pos 1) ≤ℤ pos 0
      low (now m) (inl n) = absurd (strip_rise k os ot m n)
      low (next m m') (inl n) = absurd (omega ints)
      low (now m) (inr n) = n
      low (next m m') (inr n) = n

-- the test of neighbours says how they lie in every strip that both span
pub neighbour_tier : {s t : Segment} → LowerNeighbour s t → {x : ℤ} → Over x s → Over x t → Tier x s t
neighbour_tier n os ot = under_tier (apart n.clear) os ot (under_by_side_lem (apart n.clear) os ot ∙ n.lower)

-- ---- ordered in every common strip
abbrev pub OrderedInStrips : Segment → Segment → Type 0
OrderedInStrips s t = (x : ℤ) → Over x s → Over x t → Tier x s t ⊎ Tier x t s

pub ordered_sym : {s t : Segment} → OrderedInStrips s t → OrderedInStrips t s
ordered_sym h x ot os = ⊎_elim inr inl (h x os ot)

-- a point of t's line between its ends is not straight over one of them
within : {t : Segment} {p : Point} → Wide t → side t p ≡ pos 0 → Between t p → (t.a.x <ℤ p.x) × (p.x <ℤ t.b.x)
within {t} {p} w z h = (go_a h.0, go_b h.1)
  where
    go_a : Before t.a p → t.a.x <ℤ p.x
    go_a (inl l) = l
    go_a (inr l) = absurd (let e = diff_nil p.y t.a.y (down_nil (wide w) (side-at_a t p (sym l.0)) z) in omega ints)

    go_b : Before p t.b → p.x <ℤ t.b.x
    go_b (inl l) = l
    go_b (inr l) = absurd (let e = diff_nil p.y t.b.y (down_nil (wide w) (side-at_b t p l.0) z) in omega ints)

module _ {s t : Segment} (h : OrderedInStrips s t) (ws : Wide s) (wt : Wide t) where
  level_a : (x : ℤ) → Over x s → Over x t → gap s t x ≡ pos 0 → t.a.x ≡ x
  level_a x os ot z = ⊎_elim (λ p. (p.left.level z).1) (λ p. (p.left.level (neg_nil (gap_turn s t x) z)).0) (h x os ot)

  level_b : (x : ℤ) → Over x s → Over x t → gap s t (x +ℤ pos 1) ≡ pos 0 → t.b.x ≡ x +ℤ pos 1
  level_b x os ot z = ⊎_elim (λ p. (p.right.level z).1) (λ p. (p.right.level (neg_nil (gap_turn s t (x +ℤ pos 1)) z)).0) (h x os ot)

  a_free : side t s.a ≡ pos 0 → Between t s.a → ⊥
  a_free z b =
      let w = within wt z b in
      let g = ws.goes in
      let e = level_a s.a.x (record { from = ≤ℤ_refl s.a.x; to = g }) (record { from = lt_le w.0; to = w.1 }) (up_nil (wide ws) (gap-at_a s t) z) in
      omega ints

  b_free : side t s.b ≡ pos 0 → Between t s.b → ⊥
  b_free z b =
      let w = within wt z b in
      let g = ws.goes in
      let x = s.b.x -ℤ pos 1 in
      let e : s.b.x ≡ x +ℤ pos 1 = omega (ints, of-+ (s.b.x -ℤ pos 1) (pos 1), of-- s.b.x (pos 1), of_pos 1) in
      let f = level_b x (record { from = omega (ints, of-- s.b.x (pos 1), of_pos 1); to = omega (ints, of-- s.b.x (pos 1), of_pos 1) })
      (record { from = omega (ints, of-- s.b.x (pos 1), of_pos 1); to = omega (ints, of-- s.b.x (pos 1), of_pos 1) })
      (subst (λ y. gap s t y ≡ pos 0) e (up_nil (wide ws) (gap-at_b s t) z)) in
      omega ints

  same_free : s.a ≡ t.a → s.b ≡ t.b → ⊥
  unfolding under
  same_free e f = go (h x os ot)
    where
      x : ℤ
      x = s.a.x

      os : Over x s
      os = record { from = ≤ℤ_refl x; to = ws.goes }

      ot : Over x t
      ot = record { from = subst (λ (p : Point). p.x ≤ℤ x) e (≤ℤ_refl x); to = subst (λ (p : Point). x <ℤ p.x) f ws.goes }

      at_a : gap s t x ≡ pos 0
      at_a = up_nil (wide ws) (gap-at_a s t) (subst (λ (p : Point). side t p ≡ pos 0) (sym e) (side_own_a t))

      at_b : gap s t s.b.x ≡ pos 0
      at_b = up_nil (wide ws) (gap-at_b s t) (subst (λ (p : Point). side t p ≡ pos 0) (sym f) (side_own_b t))

      flat : slope s t ≡ pos 0
      flat = let p = at_a in let q = at_b in zero_by {v = s.b.x -ℤ x} (gap_rate s t x s.b.x) (sub_pos ws.goes) (omega (ints, of-- (gap s t s.b.x) (gap s t x), of_pos 0))

      on : gap s t (x +ℤ pos 1) ≡ pos 0
      on = gap_flat s t (x +ℤ pos 1) x flat ∙ at_a

      fall : (j i : Segment) → gap j i x ≡ pos 0 → gap j i (x +ℤ pos 1) ≡ pos 0 → Falls (gap j i x) (gap j i (x +ℤ pos 1)) → ⊥
      fall j i p q (now m) = omega ints
      fall j i p q (next m n) = omega ints

      go : Tier x s t ⊎ Tier x t s → ⊥
      go (inl p) = fall s t at_a on (falls-true (gap s t x) (gap s t (x +ℤ pos 1)) p.lower)
      go (inr p) = fall t s (neg_nil (gap_turn s t x) at_a) (neg_nil (gap_turn s t (x +ℤ pos 1)) on) (falls-true (gap t s x) (gap t s (x +ℤ pos 1)) p.lower)

  -- strip by strip s stays under t, so it does not end over it
  climb : pos 0 <ℤ gap s t s.b.x → pos 0 <ℤ gap s t t.b.x → (n : ℕ) (x : ℤ) → s.b.x ≤ℤ (x +ℤ pos n) → Over x s → Over x t → gap s t x <ℤ pos 0 → ⊥
  climb p q zero x l os ot g = omega (ints, os, of-+ x (pos 0), of_pos 0)
  climb p q (suc n) x l os ot g = go (h x os ot) (climb p q n (x +ℤ pos 1) (omega (ints, of-+ x (pos (suc n)), of-+ (x +ℤ pos 1) (pos n), of-+ x (pos 1), of_pos 1, of_pos n, of_pos (suc n))))
    where
      y : ℤ
      y = x +ℤ pos 1

      on : {i : Segment} → Over x i → pos 0 <ℤ gap s t i.b.x → gap s t y ≤ℤ pos 0 → (y <ℤ i.b.x) ⊎ (i.b.x ≤ℤ y) → Over y i
      on o r m (inl k) = record { from = omega (ints, o, of-+ x (pos 1), of_pos 1); to = k }
      on {i} o r m (inr k) = absurd (let e : i.b.x ≡ y = omega (ints, o, of-+ x (pos 1), of_pos 1) in let r' = subst (λ z. pos 0 <ℤ gap s t z) e r in omega ints)

      below : Tier x s t → Over y s → Sign (gap s t y) → gap s t y <ℤ pos 0
      below k o (minus m) = m
      below k o (nil m) = absurd (let e = (k.right.level m).0 in let f = o.to in omega ints)
      below k o (plus m) = absurd (let e = k.right.low in omega ints)

      go : Tier x s t ⊎ Tier x t s → (Over y s → Over y t → gap s t y <ℤ pos 0 → ⊥) → ⊥
      go (inl k) r =
          let os' = on os p k.right.low (order y s.b.x) in
          let ot' = on ot q k.right.low (order y t.b.x) in
          r os' ot' (below k os' (sign (gap s t y)))
      go (inr k) r = let e = k.left.low in let f = gap_turn s t x in omega (ints, of_neg (gap s t x), of_pos 0)

  rising_free : side t s.a <ℤ pos 0 → pos 0 <ℤ side t s.b → pos 0 <ℤ side s t.a → side s t.b <ℤ pos 0 → ⊥
  rising_free p q r u = go (order s.a.x t.a.x)
    where
      sa : gap s t s.a.x <ℤ pos 0
      sa = up_neg (wide ws) (gap-at_a s t) p

      sb : pos 0 <ℤ gap s t s.b.x
      sb = up_pos (wide ws) (gap-at_b s t) q

      ta : gap s t t.a.x <ℤ pos 0
      ta = neg_neg (gap_turn t s t.a.x) (up_pos (wide wt) (gap-at_a t s) r)

      tb : pos 0 <ℤ gap s t t.b.x
      tb = neg_pos (gap_turn t s t.b.x) (up_neg (wide wt) (gap-at_b t s) u)

      up : pos 0 ≤ℤ slope s t
      up = lt_le (slope_pos s t s.a.x s.b.x ws.goes (let l = sa in let m = sb in omega (ints, of_pos 0)))

      -- where it is lower comes before where it is higher
      less : (x y : ℤ) → gap s t x <ℤ pos 0 → pos 0 <ℤ gap s t y → (x <ℤ y) ⊎ (y ≤ℤ x) → x <ℤ y
      less x y l m (inl k) = k
      less x y l m (inr k) = absurd (let f = gap-rises s t y x up k in omega ints)

      from : (x : ℤ) → Over x s → Over x t → gap s t x <ℤ pos 0 → ⊥
      from x = climb sb tb (nat_abs (s.b.x -ℤ x)) x (omega (ints, of-+ x (pos (nat_abs (s.b.x -ℤ x))), of_pos (nat_abs (s.b.x -ℤ x)), of_abs (s.b.x -ℤ x), of-- s.b.x x))

      go : (s.a.x <ℤ t.a.x) ⊎ (t.a.x ≤ℤ s.a.x) → ⊥
      go (inl l) = from t.a.x (record { from = lt_le l; to = less t.a.x s.b.x ta sb (order t.a.x s.b.x) }) (record { from = ≤ℤ_refl t.a.x; to = wt.goes }) ta
      go (inr l) = from s.a.x (record { from = ≤ℤ_refl s.a.x; to = ws.goes }) (record { from = l; to = less s.a.x t.b.x sa tb (order s.a.x t.b.x) }) sa

-- THEOREM, for one pair
pub ordered_apart : {s t : Segment} → Wide s → Wide t → OrderedInStrips s t → Apart s t
ordered_apart ws wt h =
    let g = ordered_sym h in
    record {
      rising = rising_free h ws wt;
      falling = λ p q r u. rising_free g wt ws r u p q;
      a_on = a_free h ws wt;
      b_on = b_free h ws wt;
      on_a = a_free g wt ws;
      on_b = b_free g wt ws;
      same = same_free h ws wt;
    }
