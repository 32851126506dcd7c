-- Vertical segments: beside, stacked, and in a gap of the ordered list.
use mathlib.Core.Path.{◌≡◌, refl, sym, ◌∙◌, ap, subst}
use mathlib.Core.List.{List, [], ◌∷◌, ◌++◌}
use mathlib.Core.Logic.{◌⊎◌, inl, inr, ⊎_elim}
use mathlib.Core.Bool.{true}
use lib.IntN.{pos, ◌*ℤ◌}
use lib.ListN.{take, drop, take-append-drop}
use lib.Signed.{◌≤ℤ◌, ◌<ℤ◌}
use Rattle.integers.proofs.Linear.{ints, of_pos, of_neg, of--}
use Rattle.integers.proofs.Order.{sub_pos, mul_pos, pos_by, lt_le}
use Rattle.geom.specs.declared.Point.{Point}
use Rattle.geom.proofs.Points.{Before, before_le, before_irrefl, point}
use Rattle.segm.specs.declared.Segment.{Segment}
use Rattle.lists.specs.Members.{◌∈◌, Pairs}
use Rattle.meetings.specs.Meetings.{side}
use Rattle.strip.specs.Strip.{is_vertical, reach, gap}
use Rattle.strip.proofs.Strip.Signs.{Sign, minus, nil, plus, sign, up_neg, up_nil, down_pos, down_neg, down_nil, diff_nil}
use Rattle.strip.proofs.Strip.Gap.{gap_turn, side-gap, side_vertical, side-at_a, side-at_b, side_own_a, side_own_b}
use Rattle.strip.proofs.Strip.Apart.{Between, Apart, Wide, wide, side_less}
use Rattle.strip.proofs.Strip.Vertical.{vertical_not_wide}
use Rattle.strip.proofs.Strip.Tiers.{OrderAt}
use Rattle.lists.specs.Chain.{OfFirst, OfLast}
use Rattle.strip.specs.Neighbours.{LiesUnder, LiesAbove, Passes, InGap}
use Rattle.lists.proofs.Chain.{last_take, first-drop}

pub record Upright (v : Segment) : Type 0 where
  pub plumb : v.b.x ≡ v.a.x
  pub rises : v.a.y <ℤ v.b.y

pub wide_or_upright : {s : Segment} → Before s.a s.b → Wide s ⊎ Upright s
wide_or_upright (inl h) = inl (record { goes = h })
wide_or_upright (inr h) = inr (record { plumb = sym h.0; rises = h.1 })

pub vertical_upright : {s : Segment} → Before s.a s.b → is_vertical s ≡ true → Upright s
vertical_upright {s} b v = ⊎_elim (λ w. absurd (vertical_not_wide s v w)) (λ u. u) (wide_or_upright b)

above_it : {p q : Point} → Before p q → p.x ≡ q.x → p.y <ℤ q.y
above_it (inl h) e = absurd (omega ints)
above_it (inr h) e = h.1

module _ {v : Segment} (u : Upright v) (p : Point) where
  left_of : pos 0 <ℤ side v p → p.x <ℤ v.a.x
  left_of h = let k = down_pos (sub_pos u.rises) (side_vertical v p u.plumb) h in omega (ints, of-- v.a.x p.x, of_pos 0)

  right_of : side v p <ℤ pos 0 → v.a.x <ℤ p.x
  right_of h = let k = down_neg (sub_pos u.rises) (side_vertical v p u.plumb) h in omega (ints, of-- v.a.x p.x, of_pos 0)

  on_it : side v p ≡ pos 0 → p.x ≡ v.a.x
  on_it h = sym (diff_nil v.a.x p.x (down_nil (sub_pos u.rises) (side_vertical v p u.plumb) h))

  pub in_line : p.x ≡ v.a.x → side v p ≡ pos 0
  in_line e = up_nil (sub_pos u.rises) (side_vertical v p u.plumb) (omega (ints, of-- v.a.x p.x, of_pos 0))

-- t does not reach v's line
pub beside : {v t : Segment} → Upright v → Before t.a t.b → (t.b.x <ℤ v.a.x) ⊎ (v.a.x <ℤ t.a.x) → Apart v t
beside {v} {t} u pt far = record {
  rising = λ p q r s. let l = left_of u t.a r in let m = right_of u t.b s in off (lt_le l) (lt_le m);
  falling = λ p q r s. let l = right_of u t.a r in let m = left_of u t.b s in let n = before_le pt in omega ints;
  a_on = λ z h. off (before_le h.0) (before_le h.1);
  b_on = λ z h. let e = u.plumb in let l = before_le h.0 in let m = before_le h.1 in off (omega ints) (omega ints);
  on_a = λ z h. let e = on_it u t.a z in let l = before_le pt in off (omega ints) (omega ints);
  on_b = λ z h. let e = on_it u t.b z in let l = before_le pt in off (omega ints) (omega ints);
  same = λ e f. let g = ap (λ (p : Point). p.x) e in let l = before_le pt in off (omega ints) (omega ints);
}
  where
    off : t.a.x ≤ℤ v.a.x → v.a.x ≤ℤ t.b.x → ⊥
    off l m = go far
      where
        go : (t.b.x <ℤ v.a.x) ⊎ (v.a.x <ℤ t.a.x) → ⊥
        go (inl k) = omega ints
        go (inr k) = omega ints

-- w stands on v or above it
pub stacked : {v w : Segment} → Upright v → Upright w → w.a.x ≡ v.a.x → v.b.y ≤ℤ w.a.y → Apart v w
stacked {v} {w} u o e l = record {
  rising = λ p q r s. let z = in_line u w.a e in omega ints;
  falling = λ p q r s. let z = in_line u w.a e in omega ints;
  a_on = λ z h. let m = above_it h.0 e in omega (ints, u);
  b_on = λ z h. let m = above_it h.0 (e ∙ sym u.plumb) in omega (ints, u);
  on_a = λ z h. let m = above_it h.1 (e ∙ sym u.plumb) in omega (ints, u);
  on_b = λ z h. let m = above_it h.1 (o.plumb ∙ e ∙ sym u.plumb) in omega (ints, u, o);
  same = λ p q. let m = ap (λ (i : Point). i.y) p in omega (ints, u);
}

-- ---- in a gap of the list
-- a point strictly above one is strictly above what is lower there
pub side_down : {s t : Segment} (p : Point) → Wide s → Wide t → gap s t p.x ≤ℤ pos 0 → pos 0 <ℤ side t p → pos 0 <ℤ side s p
side_down {s} {t} p ws wt l h =
    let m = mul_pos (wide ws) h in
    pos_by {v = reach t} (side-gap s t p) (wide wt) (omega (ints, of-- (reach s *ℤ side t p) (gap s t p.x), of_pos 0))

-- e: one of the two ends
module _ (e : Segment → Point) (is : (s : Segment) → (e s ≡ s.a) ⊎ (e s ≡ s.b)) where
  end_on : {s : Segment} {p : Point} → e s ≡ p → side s p ≡ pos 0
  end_on {s} {p} q = subst (λ (r : Point). side s r ≡ pos 0) q (go (is s))
    where
      go : (e s ≡ s.a) ⊎ (e s ≡ s.b) → side s (e s) ≡ pos 0
      go (inl f) = subst (λ (r : Point). side s r ≡ pos 0) (sym f) (side_own_a s)
      go (inr f) = subst (λ (r : Point). side s r ≡ pos 0) (sym f) (side_own_b s)

  end_out : {s : Segment} {p : Point} → e s ≡ p → Between s p → ⊥
  end_out {s} {p} q h = go (is s)
    where
      go : (e s ≡ s.a) ⊎ (e s ≡ s.b) → ⊥
      go (inl f) = before_irrefl (subst (λ (r : Point). Before r p) (sym f ∙ q) h.0)
      go (inr f) = before_irrefl (subst (λ (r : Point). Before p r) (sym f ∙ q) h.1)

  -- the end straight at p's x, on a line through p, is p
  pub end_at : {s : Segment} {p : Point} → Wide s → (e s).x ≡ p.x → side s p ≡ pos 0 → e s ≡ p
  end_at {s} {p} w f z = go (is s)
    where
      go : (e s ≡ s.a) ⊎ (e s ≡ s.b) → e s ≡ p
      go (inl q) = let g : p.x ≡ s.a.x = sym f ∙ ap (λ (r : Point). r.x) q in q ∙ point (sym g) (sym (diff_nil p.y s.a.y (down_nil (wide w) (side-at_a s p g) z)))
      go (inr q) = let g : p.x ≡ s.b.x = sym f ∙ ap (λ (r : Point). r.x) q in q ∙ point (sym g) (sym (diff_nil p.y s.b.y (down_nil (wide w) (side-at_b s p g) z)))

  pub passes_apart : {v s : Segment} → Upright v → Wide s → Passes e v s → Apart v s
  passes_apart {v} {s} u w h = record {
    rising = λ p q _ _. parted p q;
    falling = λ p q _ _. let l = less in omega ints;
    a_on = on_foot h;
    b_on = on_head h;
    on_a = λ z b. let f = on_it u s.a z in parted (lower f (side_own_a s) b.0) (upper f (side_own_a s) b.1);
    on_b = λ z b. let f = on_it u s.b z in parted (lower f (side_own_b s) b.0) (upper f (side_own_b s) b.1);
    same = λ p q. let f = ap (λ (r : Point). r.x) p in let g = ap (λ (r : Point). r.x) q in omega (ints, u, w);
  }
    where
      less : side s v.a <ℤ side s v.b
      less = side_less s v.a v.b w (sym u.plumb) u.rises

      parted : side s v.a <ℤ pos 0 → pos 0 <ℤ side s v.b → ⊥
      parted p q = go h
        where
          go : Passes e v s → ⊥
          go (inl (inl k)) = omega ints
          go (inl (inr k)) = let z = end_on k in omega ints
          go (inr (inl k)) = omega ints
          go (inr (inr k)) = let z = end_on k in omega ints

      on_foot : Passes e v s → side s v.a ≡ pos 0 → Between s v.a → ⊥
      on_foot (inl (inl k)) z b = omega ints
      on_foot (inl (inr k)) z b = end_out k b
      on_foot (inr (inl k)) z b = let l = less in omega ints
      on_foot (inr (inr k)) z b = let l = less in let y = end_on k in omega ints

      on_head : Passes e v s → side s v.b ≡ pos 0 → Between s v.b → ⊥
      on_head (inl (inl k)) z b = let l = less in omega ints
      on_head (inl (inr k)) z b = let l = less in let y = end_on k in omega ints
      on_head (inr (inl k)) z b = omega ints
      on_head (inr (inr k)) z b = end_out k b

      lower : {p : Point} → p.x ≡ v.a.x → side s p ≡ pos 0 → Before v.a p → side s v.a <ℤ pos 0
      lower {p} f z b = let l = side_less s v.a p w (sym f) (above_it b (sym f)) in omega ints

      upper : {p : Point} → p.x ≡ v.a.x → side s p ≡ pos 0 → Before p v.b → pos 0 <ℤ side s v.b
      upper {p} f z b = let l = side_less s p v.b w (f ∙ sym u.plumb) (above_it b (f ∙ sym u.plumb)) in omega ints

  -- what is lower than one that is under p is under p, and what is higher than one above p is above p
  module _ {s t : Segment} {p : Point} (ws : Wide s) (wt : Wide t) (o : OrderAt e p.x s t) where
    pub under_down : LiesUnder e p t → LiesUnder e p s
    under_down (inl h) = inl (side_down p ws wt o.low h)
    under_down (inr h) = go (sign (gap s t p.x))
      where
        z : reach s *ℤ side t p ≡ pos 0
        z = up_nil (wide ws) refl (end_on h)

        go : Sign (gap s t p.x) → LiesUnder e p s
        go (minus m) = let y = z in inl (pos_by {v = reach t} (side-gap s t p) (wide wt) (omega (ints, of-- (reach s *ℤ side t p) (gap s t p.x), of_pos 0)))
        go (nil m) = let y = z in inr (end_at ws (o.level m).0 (down_nil (wide wt) (sym (side-gap s t p)) (omega (ints, of-- (reach s *ℤ side t p) (gap s t p.x), of_pos 0))))
        go (plus m) = absurd (let l = o.low in omega ints)

    pub above_up : LiesAbove e p s → LiesAbove e p t
    above_up (inl h) =
        let m = up_neg (wide wt) refl h in let l = o.low in let g = gap_turn s t p.x in
        inl (down_neg (wide ws) (sym (side-gap t s p)) (omega (ints, of-- (reach t *ℤ side s p) (gap t s p.x), of_neg (gap s t p.x), of_pos 0)))
    above_up (inr h) = go (sign (gap s t p.x))
      where
        z : reach t *ℤ side s p ≡ pos 0
        z = up_nil (wide wt) refl (end_on h)

        go : Sign (gap s t p.x) → LiesAbove e p t
        go (minus m) = let y = z in let g = gap_turn s t p.x in inl (down_neg (wide ws) (sym (side-gap t s p)) (omega (ints, of-- (reach t *ℤ side s p) (gap t s p.x), of_neg (gap s t p.x), of_pos 0)))
        go (nil m) = let y = z in let g = gap_turn s t p.x in inr (end_at wt (o.level m).1 (down_nil (wide ws) (sym (side-gap t s p)) (omega (ints, of-- (reach t *ℤ side s p) (gap t s p.x), of_neg (gap s t p.x), of_pos 0))))
        go (plus m) = absurd (let l = o.low in omega ints)

  -- a gap: the last before it is under v's foot and the first after it above its head, so all pass
  module _ {A : Type 0} (seg : A → Segment) {v : Segment} (u : Upright v) where
    abbrev Rising : List A → Type 0
    Rising l = Pairs (λ i j. OrderAt e v.a.x (seg i) (seg j)) l

    abbrev Wides : List A → Type 0
    Wides l = (i : A) → i ∈ l → Wide (seg i)

    pub all_above : (i : A) (r : List A) → Rising (i ∷ r) → Wides (i ∷ r) → LiesAbove e v.b (seg i) → (j : A) → j ∈ (i ∷ r) → LiesAbove e v.b (seg j)
    all_above i r h w k j (inl q) = subst (λ m. LiesAbove e v.b (seg m)) (sym q) k
    all_above i r h w k j (inr m) = above_up (w i (inl refl)) (w j (inr m)) (subst (λ z. OrderAt e z (seg i) (seg j)) (sym u.plumb) (h.0 j m)) k

    head_under : (i : A) (l r : List A) → Rising (i ∷ (l ++ r)) → Wides (i ∷ (l ++ r)) → OfLast (λ j. LiesUnder e v.a (seg j)) (i ∷ l) → LiesUnder e v.a (seg i)
    head_under i [] r h w k = k
    head_under i (j ∷ l) r h w k = under_down (w i (inl refl)) (w j (inr (inl refl))) (h.0 j (inl refl)) (head_under j l r h.1 (λ m n. w m (inr n)) k)

    pub gap_passes : (l r : List A) → Rising (l ++ r) → Wides (l ++ r) → OfLast (λ i. LiesUnder e v.a (seg i)) l → OfFirst (λ i. LiesAbove e v.b (seg i)) r
        → (i : A) → i ∈ (l ++ r) → Passes e v (seg i)
    gap_passes [] [] h w lo hi i m = absurd m
    gap_passes [] (q ∷ r) h w lo hi i m = inr (all_above q r h w hi i m)
    gap_passes (j ∷ l) r h w lo hi i (inl q) = inl (subst (λ k. LiesUnder e v.a (seg k)) (sym q) (head_under j l r h w lo))
    gap_passes (j ∷ l) r h w lo hi i (inr m) = gap_passes l r h.1 (λ k n. w k (inr n)) (rest l lo) hi i m
      where
        rest : (l : List A) → OfLast (λ i. LiesUnder e v.a (seg i)) (j ∷ l) → OfLast (λ i. LiesUnder e v.a (seg i)) l
        rest [] k = tt
        rest (i ∷ l) k = k

-- the same of a gap by its place
pub gap_passes_all : (e : Segment → Point) → ((s : Segment) → (e s ≡ s.a) ⊎ (e s ≡ s.b)) → {A : Type 0} (seg : A → Segment) (z : A) {v : Segment} → Upright v → (l : List A)
    → Pairs (λ i j. OrderAt e v.a.x (seg i) (seg j)) l → ((i : A) → i ∈ l → Wide (seg i)) → InGap e seg z v l → (i : A) → i ∈ l → Passes e v (seg i)
gap_passes_all e is {A} seg z {v} u l r w c =
    subst (λ (l : List A). Pairs (λ i j. OrderAt e v.a.x (seg i) (seg j)) l → ((i : A) → i ∈ l → Wide (seg i)) → (i : A) → i ∈ l → Passes e v (seg i)) (take-append-drop c.place l)
    (λ r w. gap_passes e is seg u (take c.place l) (drop c.place l) r w (last_take (λ i. LiesUnder e v.a (seg i)) z l c.place c.till c.below) (first-drop (λ i. LiesAbove e v.b (seg i)) z l c.place c.above)) r w
