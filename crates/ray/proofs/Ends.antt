-- The bottom counts of the segments that end at one point: the vertical one first, the others by their order in the strip before it.
use mathlib.Core.Path.{◌≡◌, refl, sym, ◌∙◌, ap, ap₂, subst}
use mathlib.Core.Logic.{◌⊎◌, inl, inr}
use mathlib.Core.Bool.{Bool, true, false, not, ◌&&◌, ◌||◌}
use lib.IntN.{ℤ, pos, neg_ℤ, ◌+ℤ◌, ◌-ℤ◌, ◌*ℤ◌, +ℤ_idr, +ℤ_assoc, +ℤ_comm, *ℤ-zero}
use lib.Signed.{lt_z, ◌≤ℤ◌, ◌<ℤ◌, ≤ℤ_refl}
use Rattle.integers.proofs.Booleans.{dec, both, both_l, both_r, not_l, not_r, or_l, or_r, one_of, clash, is_false, same_test, on}
use Rattle.integers.proofs.Linear.{ints, of_pos, of-+, of--}
use Rattle.integers.proofs.Order.{order, lt_z_true, lt_lt_z, le_lt_z, sub_pos, lt_le}
use Rattle.geom.specs.declared.Point.{Point}
use Rattle.geom.specs.Points.{eq_z, eq_p}
use Rattle.geom.proofs.Points.{eq_eq_z, ne_eq_z, point, eq_p-true, eq_eq_p, ne_eq_p, Before, before_le, compare}
use Rattle.segm.specs.declared.Segment.{Segment}
use Rattle.lists.specs.Members.{◌∈◌, keep}
use Rattle.lists.specs.Sums.{sum, only}
use Rattle.segm.specs.Segments.{Drawing, total}
use Rattle.lists.proofs.Members.{pairs_map, keep_in, pairs_keep}
use Rattle.lists.proofs.Sums.{sum-+, sum_trade}
use Rattle.segm.proofs.Segments.{only_cong, first-only, second_only, total_cong, total-none, total_split}
use Rattle.meetings.specs.Meetings.{side, meets_wrongly}
use Rattle.checks.specs.Accepted.{Good}
use Rattle.strip.specs.Strip.{spans, above, clockwise, reach, gap, under}
use Rattle.strip.proofs.Strip.Signs.{Sign, minus, nil, plus, sign, up_pos, up_neg, down_pos, down_neg, down_nil, neg_pos, neg_neg, diff_nil}
use Rattle.strip.proofs.Strip.Gap.{gap-at_b, gap_turn, side-at_a, side-at_b, side_vertical}
use Rattle.strip.proofs.Strip.Apart.{Apart, apart, Wide, wide, Over, over_wide, under_right, under-total, under_irrefl, under_asym, under_trans, side_less}
use Rattle.strip.proofs.Strip.Above.{spans_on, spans-over, spans_late, spans_past, above_on, above_off, above_yes, above_own_b, start_on}
use Rattle.ray.specs.Ray.{met, bottom}
use Rattle.ray.proofs.Ray.{met_self, met_off, bottom_strip}
use Rattle.ray.proofs.Flow.{flow}
use Rattle.ray.proofs.Invariance.{one_or_apart, proper, beneath, beneath_point, invariance}
use Rattle.ray.proofs.Telescope.{change, telescope}

-- ---- not vertical, or vertical
unfoldable pub slanted : Segment → Bool
slanted s = lt_z s.a.x s.b.x

pub data Lean (s : Segment) : Type 0 where
  slant : Wide s → slanted s ≡ true → Lean s
  upright : s.b.x ≡ s.a.x → s.a.y <ℤ s.b.y → slanted s ≡ false → Lean s

pub lean : (s : Segment) → Before s.a s.b → Lean s
unfolding slanted
lean s (inl h) = slant (record { goes = h }) (lt_lt_z h)
lean s (inr h) = upright (sym h.0) h.1 (le_lt_z (subst (λ z. z ≤ℤ s.a.x) h.0 (≤ℤ_refl s.a.x)))

slanted_wide : {s : Segment} → slanted s ≡ true → Wide s
unfolding slanted
slanted_wide e = record { goes = lt_z_true e }

-- of two that end at one point, t comes before s in the strip right of x: if it alone is vertical, or is lower
unfoldable pub sooner : ℤ → Segment → Segment → Bool
sooner x t s = slanted s && (not (slanted t) || under x t s)

pub data Sooner (x : ℤ) (t s : Segment) : Type 0 where
  vertical : slanted t ≡ false → slanted s ≡ true → Sooner x t s
  lower : slanted t ≡ true → slanted s ≡ true → under x t s ≡ true → Sooner x t s

sooner_true : {x : ℤ} {t s : Segment} → sooner x t s ≡ true → Sooner x t s
unfolding sooner
sooner_true {x} {t} {s} h = go (dec (slanted t))
  where
    go : (slanted t ≡ true) ⊎ (slanted t ≡ false) → Sooner x t s
    go (inl e) = lower e (both_l (slanted s) (not (slanted t) || under x t s) h) (subst (λ (b : Bool). (not b || under x t s) ≡ true) e (both_r (slanted s) (not (slanted t) || under x t s) h))
    go (inr e) = vertical e (both_l (slanted s) (not (slanted t) || under x t s) h)

sooner_by : {x : ℤ} {t s : Segment} → Sooner x t s → sooner x t s ≡ true
unfolding sooner
sooner_by {x} {t} {s} (vertical e h) = both h (or_l (under x t s) (ap not e))
sooner_by {x} {t} {s} (lower e h u) = both h (or_r (not (slanted t)) u)

sooner_asym : (x : ℤ) (t s : Segment) → sooner x t s ≡ true → sooner x s t ≡ false
sooner_asym x t s h = is_false (sooner x s t) (λ k. go (sooner_true h) (sooner_true k))
  where
    go : Sooner x t s → Sooner x s t → ⊥
    go (vertical e f) (vertical e' f') = clash f e'
    go (vertical e f) (lower e' f' u') = clash f' e
    go (lower e f u) (vertical e' f') = clash f e'
    go (lower e f u) (lower e' f' u') = clash u' (under_asym t s x u)

sooner_trans : {x : ℤ} {s t u : Segment} → Sooner x s t → Sooner x t u → Sooner x s u
sooner_trans (vertical e f) (vertical e' f') = vertical e f'
sooner_trans (vertical e f) (lower e' f' h) = vertical e f'
sooner_trans (lower e f h) (vertical e' f') = absurd (clash f e')
sooner_trans {x} (lower e f h) (lower e' f' h') = lower e f' (under_trans x (slanted_wide e) (slanted_wide f) (slanted_wide f') h h')

-- the strip before the end of s
before_end : {x : ℤ} {s : Segment} → x +ℤ pos 1 ≡ s.b.x → Wide s → Over x s
before_end {x} {s} e w = record { from = let l = w.goes in omega (ints, of-+ x (pos 1), of_pos 1); to = omega (ints, of-+ x (pos 1), of_pos 1) }

-- two vertical ones do not end at one point
one-upright : {s t : Segment} → Apart s t → s.b ≡ t.b → s.b.x ≡ s.a.x → t.b.x ≡ t.a.x → Before s.a s.b → Before t.a t.b → ⊥
one-upright {s} {t} k e hs ht ps pt = go (compare s.a t.a)
  where
    ex : s.a.x ≡ t.a.x
    ex = sym hs ∙ ap (λ (p : Point). p.x) e ∙ ht

    on_it : (j h : Segment) → j.b.x ≡ j.a.x → j.a.x ≡ h.a.x → side j h.a ≡ pos 0
    on_it j h q r = side_vertical j h.a q ∙ ap (λ z. (j.b.y -ℤ j.a.y) *ℤ z) (omega (ints, of-- j.a.x h.a.x, of_pos 0)) ∙ *ℤ-zero (j.b.y -ℤ j.a.y)

    go : Before s.a t.a ⊎ (Before t.a s.a ⊎ (s.a ≡ t.a)) → ⊥
    go (inl h) = k.on_a (on_it s t hs ex) (h, subst (λ (p : Point). Before t.a p) (sym e) pt)
    go (inr (inl h)) = k.a_on (on_it t s ht (sym ex)) (h, subst (λ (p : Point). Before s.a p) e ps)
    go (inr (inr h)) = k.same h e

sooner_total : {s t : Segment} (x : ℤ) → Apart s t → Before s.a s.b → Before t.a t.b → s.b ≡ t.b → x +ℤ pos 1 ≡ s.b.x → (sooner x s t ≡ true) ⊎ (sooner x t s ≡ true)
sooner_total {s} {t} x k ps pt e q = go (lean s ps) (lean t pt)
  where
    go : Lean s → Lean t → (sooner x s t ≡ true) ⊎ (sooner x t s ≡ true)
    go (slant ws es) (slant wt et) = by (under-total k (before_end q ws) (before_end (q ∙ ap (λ (p : Point). p.x) e) wt))
      where
        by : (under x s t ≡ true) ⊎ (under x t s ≡ true) → (sooner x s t ≡ true) ⊎ (sooner x t s ≡ true)
        by (inl h) = inl (sooner_by (lower es et h))
        by (inr h) = inr (sooner_by (lower et es h))
    go (slant ws es) (upright h l et) = inr (sooner_by (vertical et es))
    go (upright h l es) (slant wt et) = inl (sooner_by (vertical es et))
    go (upright h l es) (upright h' l' et) = absurd (one-upright k e h h' ps pt)

-- ---- a vertical segment has what is under its end under it
module _ {j s : Segment} (k : Apart j s) (q : s.b.x ≡ s.a.x) (l : s.a.y <ℤ s.b.y) (o : Over s.a.x j) where
  upright-part : (above j s.a || (eq_p j.a s.a && clockwise j s)) ≡ above j s.b
  unfolding clockwise
  upright-part = same_test (above j s.a || (eq_p j.a s.a && above j s.b)) (above j s.b) (λ t. up (one_of (above j s.a) (eq_p j.a s.a && above j s.b) t)) (λ t. down t (sign (side j s.a)))
    where
      up : (above j s.a ≡ true) ⊎ ((eq_p j.a s.a && above j s.b) ≡ true) → above j s.b ≡ true
      up (inl t) =
          let u = above_yes j s.a t in
          let v = side_less j s.a s.b (over_wide o) (sym q) l in
          above_on j s.b (omega ints)
      up (inr t) = both_r (eq_p j.a s.a) (above j s.b) t

      crossing : side j s.a <ℤ pos 0 → pos 0 <ℤ side j s.b → (j.a.x <ℤ s.a.x) ⊎ (s.a.x ≤ℤ j.a.x) → ⊥
      crossing n u (inl h) =
          k.falling (up_pos (sub_pos l) (side_vertical s j.a q) (sub_pos h))
          (up_neg (sub_pos l) (side_vertical s j.b q) (let r = o.to in omega (ints, of-- s.a.x j.b.x, of_pos 0))) n u
      crossing n u (inr h) =
          let e : s.a.x ≡ j.a.x = let r = o.from in omega ints in
          let lo = down_neg (wide (over_wide o)) (side-at_a j s.a e) n in
          let hi = down_pos (wide (over_wide o)) (side-at_a j s.b (q ∙ e)) u in
          k.a_on (side_vertical s j.a q ∙ ap (λ z. (s.b.y -ℤ s.a.y) *ℤ z) (omega (ints, of-- s.a.x j.a.x, of_pos 0)) ∙ *ℤ-zero (s.b.y -ℤ s.a.y))
          (inr (e, omega (ints, of-- s.a.y j.a.y, of_pos 0)), inr (sym (q ∙ e), omega (ints, of-- s.b.y j.a.y, of_pos 0)))

      down : above j s.b ≡ true → Sign (side j s.a) → (above j s.a || (eq_p j.a s.a && above j s.b)) ≡ true
      down t (plus n) = or_l (eq_p j.a s.a && above j s.b) (above_on j s.a n)
      down t (nil n) = or_r (above j s.a) (both (eq_eq_p (start_on k o n)) t)
      down t (minus n) = absurd (crossing n (above_yes j s.b t) (order j.a.x s.a.x))

upright-bottom : {d : Drawing} → Good d → (s : Segment) → s ∈ d → s.b.x ≡ s.a.x → s.a.y <ℤ s.b.y → bottom d s ≡ beneath_point d s.b
unfolding bottom beneath_point met
upright-bottom {d} g s m q l = total_cong d (met s) (λ j. spans j s.b.x && above j s.b) (λ j n. part j (one_or_apart g j s n m))
  where
    at : (j : Segment) → Apart j s → (spans j s.a.x ≡ true) ⊎ (spans j s.a.x ≡ false) → met s j ≡ (spans j s.a.x && above j s.b)
    at j k (inl e) = ap (λ (b : Bool). spans j s.a.x && b) (upright-part k q l (spans-over e))
    at j k (inr e) = met_off s j e ∙ sym (not_l (above j s.b) e)

    part : (j : Segment) → (j ≡ s) ⊎ Apart j s → met s j ≡ (spans j s.b.x && above j s.b)
    part j (inl e) = subst (λ i. met s i ≡ (spans i s.b.x && above i s.b)) (sym e) (met_self s ∙ sym (not_r (spans s s.b.x) (above_own_b s)))
    part j (inr k) = at j k (dec (spans j s.a.x)) ∙ ap (λ z. spans j z && above j s.b) (sym q)

-- ---- a segment that is not vertical: what is under it in its last strip passes under its end, or ends there too
module _ {j s : Segment} (k : Apart j s) {x : ℤ} (q : x +ℤ pos 1 ≡ s.b.x) (oj : Over x j) (os : Over x s) where
  -- s ends on j: at its end
  end_on : side j s.b ≡ pos 0 → j.b ≡ s.b
  end_on z = go (order s.b.x j.b.x)
    where
      go : (s.b.x <ℤ j.b.x) ⊎ (j.b.x ≤ℤ s.b.x) → j.b ≡ s.b
      go (inl l) = absurd (k.on_b z (inl (let r = oj.from in omega (ints, of-+ x (pos 1), of_pos 1)), inl l))
      go (inr l) =
          let e : s.b.x ≡ j.b.x = let r = oj.to in omega (ints, of-+ x (pos 1), of_pos 1) in
          point (sym e) (sym (diff_nil s.b.y j.b.y (down_nil (wide (over_wide oj)) (side-at_b j s.b e) z)))

  passes : (j.b ≡ s.b → ⊥) → under x j s ≡ above j s.b
  passes ne = go (sign (side j s.b))
    where
      turn_at : gap j s (x +ℤ pos 1) ≡ neg_ℤ (gap s j s.b.x)
      turn_at = ap (gap j s) q ∙ gap_turn s j s.b.x

      go : Sign (side j s.b) → under x j s ≡ above j s.b
      go (nil z) = absurd (ne (end_on z))
      go (plus z) =
          let n : gap j s (x +ℤ pos 1) <ℤ pos 0 = neg_neg turn_at (up_pos (wide (over_wide os)) (gap-at_b s j) z) in
          under_right k oj os (λ e. omega ints) ∙ lt_lt_z n ∙ sym (above_on j s.b z)
      go (minus z) =
          let n : pos 0 <ℤ gap j s (x +ℤ pos 1) = neg_pos turn_at (up_neg (wide (over_wide os)) (gap-at_b s j) z) in
          under_right k oj os (λ e. omega ints) ∙ le_lt_z (lt_le n) ∙ sym (above_off j s.b (lt_le z))

slant_strip : {d : Drawing} → Good d → (s : Segment) → s ∈ d → (x : ℤ) → x +ℤ pos 1 ≡ s.b.x → Wide s
    → beneath d s x ≡ total (λ j. spans j x && above j s.b) d +ℤ total (λ j. eq_p j.b s.b && (slanted j && under x j s)) d
unfolding beneath slanted
slant_strip {d} g s m x q ws = total_split d (λ j. spans j x && under x j s) (λ j. spans j x && above j s.b) (λ j. eq_p j.b s.b && (slanted j && under x j s)) (λ j n w. part j w (one_or_apart g j s n m))
  where
    os : Over x s
    os = before_end q ws

    -- j ends where s does, and is not vertical: it spans the strip
    spans_it : (j : Segment) → j.b ≡ s.b → slanted j ≡ true → Over x j
    spans_it j e h = before_end (q ∙ ap (λ (p : Point). p.x) (sym e)) (slanted_wide h)

    wide_it : (j : Segment) → Over x j → slanted j ≡ true
    wide_it j o = lt_lt_z (over_wide o).goes

    at : (j : Segment) (w : ℤ) → Apart j s → (spans j x ≡ true) ⊎ (spans j x ≡ false) → (eq_p j.b s.b ≡ true) ⊎ (eq_p j.b s.b ≡ false)
        → only (spans j x && under x j s) w ≡ only (spans j x && above j s.b) w +ℤ only (eq_p j.b s.b && (slanted j && under x j s)) w
    at j w k (inl h) (inl e) =
        second_only w (not_r (spans j x) (subst (λ (p : Point). above j p ≡ false) (eq_p-true e) (above_own_b j)))
        (on h refl ∙ sym (on e (on (wide_it j (spans-over h)) refl)))
    at j w k (inl h) (inr e) =
        first-only w (ap (λ (b : Bool). spans j x && b) (passes k q (spans-over h) os (λ f. clash (eq_eq_p f) e))) (not_l (slanted j && under x j s) e)
    at j w k (inr h) e =
        first-only w (not_l (under x j s) h ∙ sym (not_l (above j s.b) h))
        (is_false (eq_p j.b s.b && (slanted j && under x j s)) (λ t.
        clash (spans_on (spans_it j (eq_p-true (both_l (eq_p j.b s.b) (slanted j && under x j s) t)) (both_l (slanted j) (under x j s) (both_r (eq_p j.b s.b) (slanted j && under x j s) t)))) h))

    part : (j : Segment) (w : ℤ) → (j ≡ s) ⊎ Apart j s → only (spans j x && under x j s) w ≡ only (spans j x && above j s.b) w +ℤ only (eq_p j.b s.b && (slanted j && under x j s)) w
    part j w (inl e) = subst (λ i. only (spans i x && under x i s) w ≡ only (spans i x && above i s.b) w +ℤ only (eq_p i.b s.b && (slanted i && under x i s)) w) (sym e)
        (first-only w (not_r (spans s x) (under_irrefl s x) ∙ sym (not_r (spans s x) (above_own_b s))) (not_r (eq_p s.b s.b) (not_r (slanted s) (under_irrefl s x))))
    part j w (inr k) = at j w k (dec (spans j x)) (dec (eq_p j.b s.b))

-- ---- what is under a point in the strip before it and in the strip after it
-- straight under p
unfoldable pub straight_under : Point → Point → Bool
straight_under p q = eq_z q.x p.x && lt_z q.y p.y

su_off : (p q : Point) → (q.x ≡ p.x → ⊥) → straight_under p q ≡ false
unfolding straight_under
su_off p q f = not_l (lt_z q.y p.y) (ne_eq_z f)

su_on : (p q : Point) → q.x ≡ p.x → straight_under p q ≡ lt_z q.y p.y
unfolding straight_under
su_on p q e = on (eq_eq_z e) refl

above_at : (j : Segment) (p : Point) (y : ℤ) → Wide j → side j p ≡ reach j *ℤ (p.y -ℤ y) → above j p ≡ lt_z y p.y
above_at j p y wj e = go (order y p.y)
  where
    go : (y <ℤ p.y) ⊎ (p.y ≤ℤ y) → above j p ≡ lt_z y p.y
    go (inl h) = above_on j p (up_pos (wide wj) e (sub_pos h)) ∙ sym (lt_lt_z h)
    go (inr h) = is_false (above j p) (λ t. let u = down_pos (wide wj) e (above_yes j p t) in omega (ints, of-- p.y y, of_pos 0)) ∙ sym (le_lt_z h)

-- how the parts of a segment agree
agree₁ : {a b c g g' : Bool} (w : ℤ) → a ≡ b → c ≡ false → g ≡ g' → only a w +ℤ only g w ≡ (only b w +ℤ only c w) +ℤ only g' w
agree₁ {b = b} {c = c} w p q r = ap₂ ◌+ℤ◌ (first-only {b = b} {c = c} w p q) (only_cong w r)

agree₂ : {a b c g g' : Bool} (w : ℤ) → a ≡ g' → b ≡ false → c ≡ false → g ≡ false → only a w +ℤ only g w ≡ (only b w +ℤ only c w) +ℤ only g' w
agree₂ {a = a} {b = b} {c = c} {g = g} {g' = g'} w p q r u =
    +ℤ_comm (only a w) (only g w) ∙ ap₂ ◌+ℤ◌ (first-only {a = g} {b = b} {c = c} w (u ∙ sym q) r) (only_cong w p)

agree₃ : {a b c g g' : Bool} (w : ℤ) → a ≡ false → g ≡ b → c ≡ false → g' ≡ false → only a w +ℤ only g w ≡ (only b w +ℤ only c w) +ℤ only g' w
agree₃ {a = a} {b = b} {c = c} {g = g} w p q r u = +ℤ_comm (only a w) (only g w) ∙ ap₂ ◌+ℤ◌ (first-only {b = b} {c = c} w q r) (only_cong w (p ∙ sym u))

agree₄ : {a b : Bool} (c g g' : Bool) (w : ℤ) → a ≡ false → b ≡ false → only g w ≡ only c w +ℤ only g' w → only a w +ℤ only g w ≡ (only b w +ℤ only c w) +ℤ only g' w
agree₄ {a} {b} c g g' w p q e = ap₂ ◌+ℤ◌ (only_cong w (p ∙ sym q)) e ∙ sym (+ℤ_assoc (only b w) (only c w) (only g' w))

abbrev Passing : Point → ℤ → ℤ → Segment → Type 0
Passing p x w j = only (spans j x && above j p) w +ℤ only (straight_under p j.a) w ≡ (only (spans j p.x && above j p) w +ℤ only (eq_p j.b p && not (slanted j)) w) +ℤ only (straight_under p j.b) w

module _ (s : Segment) (ws : Wide s) (x : ℤ) (q : x +ℤ pos 1 ≡ s.b.x) (w : ℤ) where
  passing : (j : Segment) → Before j.a j.b → (j ≡ s) ⊎ Apart j s → Passing s.b x w j
  passing j pr k = go (order j.a.x y) (order y j.a.x) (order j.b.x y) (order y j.b.x) (lean j pr)
    where
      p : Point
      p = s.b

      y : ℤ
      y = s.b.x

      le : j.a.x ≤ℤ j.b.x
      le = before_le pr

      xy : x <ℤ y
      xy = omega (ints, of-+ x (pos 1), of_pos 1)

      yx : (z : ℤ) → z <ℤ y → z ≤ℤ x
      yx z l = omega (ints, of-+ x (pos 1), of_pos 1)

      off_b : (j.b.x ≡ y → ⊥) → (eq_p j.b p && not (slanted j)) ≡ false
      off_b f = not_l (not (slanted j)) (ne_eq_p (λ e. f (ap (λ (r : Point). r.x) e)))

      -- p is not strictly inside a vertical one
      free : j.b.x ≡ j.a.x → j.a.x ≡ y → j.a.y <ℤ p.y → p.y <ℤ j.b.y → slanted j ≡ false → (j ≡ s) ⊎ Apart j s → ⊥
      free h e l m v (inl f) = let n = subst (λ (i : Segment). p.y <ℤ i.b.y) f m in omega ints
      free h e l m v (inr t) =
          t.on_b (side_vertical j p h ∙ ap (λ z. (j.b.y -ℤ j.a.y) *ℤ z) (omega (ints, of-- j.a.x p.x, of_pos 0)) ∙ *ℤ-zero (j.b.y -ℤ j.a.y))
          (inr (e, l), inr (sym (h ∙ e), m))

      upright-at : j.b.x ≡ j.a.x → j.a.x ≡ y → j.a.y <ℤ j.b.y → slanted j ≡ false → (j.b.y <ℤ p.y) ⊎ (p.y ≤ℤ j.b.y) → (p.y <ℤ j.b.y) ⊎ (j.b.y ≤ℤ p.y) → (j.a.y <ℤ p.y) ⊎ (p.y ≤ℤ j.a.y)
          → only (straight_under p j.a) w ≡ only (eq_p j.b p && not (slanted j)) w +ℤ only (straight_under p j.b) w
      upright-at h e l v (inl m) n o =
          second_only w (not_l (not (slanted j)) (ne_eq_p (λ f. let z = ap (λ (r : Point). r.y) f in omega ints)))
          (su_on p j.a e ∙ lt_lt_z {a = j.a.y} {b = p.y} (omega ints) ∙ sym (su_on p j.b (h ∙ e) ∙ lt_lt_z m))
      upright-at h e l v (inr m) (inl n) (inl o) = absurd (free h e o n v k)
      upright-at h e l v (inr m) (inl n) (inr o) =
          first-only w (su_on p j.a e ∙ le_lt_z o ∙ sym (not_l (not (slanted j)) (ne_eq_p (λ f. let z = ap (λ (r : Point). r.y) f in omega ints))))
          (su_on p j.b (h ∙ e) ∙ le_lt_z m)
      upright-at h e l v (inr m) (inr n) o =
          first-only w (su_on p j.a e ∙ lt_lt_z {a = j.a.y} {b = p.y} (omega ints) ∙ sym (both (eq_eq_p (point (h ∙ e) (omega ints))) (ap not v)))
          (su_on p j.b (h ∙ e) ∙ le_lt_z m)

      go : (j.a.x <ℤ y) ⊎ (y ≤ℤ j.a.x) → (y <ℤ j.a.x) ⊎ (j.a.x ≤ℤ y) → (j.b.x <ℤ y) ⊎ (y ≤ℤ j.b.x) → (y <ℤ j.b.x) ⊎ (j.b.x ≤ℤ y) → Lean j → Passing p x w j
      go (inl a) b (inl c) e v =
          agree₁ w (not_l (above j p) (spans_past j (yx j.b.x c)) ∙ sym (not_l (above j p) (spans_past j (lt_le c)))) (off_b (λ f. omega ints))
          (su_off p j.a (λ f. omega ints) ∙ sym (su_off p j.b (λ f. omega ints)))
      go (inl a) b (inr c) (inl e) v =
          agree₁ w (on (spans_on (record { from = yx j.a.x a; to = let l = xy in omega ints })) refl ∙ sym (on (spans_on (record { from = lt_le a; to = e })) refl)) (off_b (λ f. omega ints))
          (su_off p j.a (λ f. omega ints) ∙ sym (su_off p j.b (λ f. omega ints)))
      go (inl a) b (inr c) (inr e) (upright h l v) = absurd (omega ints)
      go (inl a) b (inr c) (inr e) (slant wj v) =
          let f : p.x ≡ j.b.x = omega ints in
          agree₂ w (on (spans_on (record { from = yx j.a.x a; to = let l = xy in omega ints })) refl ∙ above_at j p j.b.y wj (side-at_b j p f) ∙ sym (su_on p j.b (sym f)))
          (not_l (above j p) (spans_past j e)) (not_r (eq_p j.b p) (ap not v)) (su_off p j.a (λ z. omega ints))
      go (inr a) (inl b) c e v =
          agree₁ w (not_l (above j p) (spans_late j (let l = xy in omega ints)) ∙ sym (not_l (above j p) (spans_late j b))) (off_b (λ f. let l = le in omega ints))
          (su_off p j.a (λ f. omega ints) ∙ sym (su_off p j.b (λ f. let l = le in omega ints)))
      go (inr a) (inr b) (inl c) e v = absurd (let l = le in omega ints)
      go (inr a) (inr b) (inr c) (inl e) (upright h l v) = absurd (omega ints)
      go (inr a) (inr b) (inr c) (inl e) (slant wj v) =
          let f : p.x ≡ j.a.x = omega ints in
          agree₃ w (not_l (above j p) (spans_late j (let l = xy in omega ints))) (su_on p j.a (sym f) ∙ sym (on (spans_on (record { from = b; to = e })) (above_at j p j.a.y wj (side-at_a j p f))))
          (not_r (eq_p j.b p) (ap not v)) (su_off p j.b (λ z. omega ints))
      go (inr a) (inr b) (inr c) (inr e) (slant wj v) = absurd (let l = wj.goes in omega ints)
      go (inr a) (inr b) (inr c) (inr e) (upright h l v) =
          agree₄ (eq_p j.b p && not (slanted j)) (straight_under p j.a) (straight_under p j.b) w (not_l (above j p) (spans_late j (let m = xy in omega ints))) (not_l (above j p) (spans_past j e))
          (upright-at h (omega ints) l v (order j.b.y p.y) (order p.y j.b.y) (order j.a.y p.y))

slant_left : {d : Drawing} → Good d → (s : Segment) → s ∈ d → (x : ℤ) → x +ℤ pos 1 ≡ s.b.x → Wide s
    → total (λ j. spans j x && above j s.b) d ≡ beneath_point d s.b +ℤ total (λ j. eq_p j.b s.b && not (slanted j)) d
unfolding total beneath_point
slant_left {d} g s m x q ws =
    sum_trade (λ j. only (spans j x && above j p) j.winding) (λ j. only (straight_under p j.a) j.winding)
    (λ j. only (spans j p.x && above j p) j.winding +ℤ only (eq_p j.b p && not (slanted j)) j.winding) (λ j. only (straight_under p j.b) j.winding) d
    (λ j n. passing s ws x q j.winding j (proper g j n) (one_or_apart g j s n m)) (flow d g.balanced (straight_under p))
    ∙ sum-+ (λ j. only (spans j p.x && above j p) j.winding) (λ j. only (eq_p j.b p && not (slanted j)) j.winding) d
  where
    p : Point
    p = s.b

-- ---- the bottom counts
parted : (e ss l u : Bool) (w : ℤ) → ss ≡ true → only (e && (ss && (not l || u))) w ≡ only (e && not l) w +ℤ only (e && (l && u)) w
parted true ss true u w h = second_only {b = false} w refl (on h refl)
parted true ss false u w h = first-only {c = false} w (on h refl) refl
parted false ss l u w h = refl

module _ {d : Drawing} (g : Good d) (x : ℤ) where
  pub end_bottom : (s : Segment) → s ∈ d → x +ℤ pos 1 ≡ s.b.x → bottom d s ≡ beneath_point d s.b +ℤ total (λ t. eq_p t.b s.b && sooner x t s) d
  unfolding sooner
  end_bottom s m q = go (lean s (proper g s m))
    where
      go : Lean s → bottom d s ≡ beneath_point d s.b +ℤ total (λ t. eq_p t.b s.b && sooner x t s) d
      go (upright h l v) =
          upright-bottom g s m h l ∙ sym (+ℤ_idr (beneath_point d s.b))
          ∙ ap (λ z. beneath_point d s.b +ℤ z) (sym (total-none d (λ t. eq_p t.b s.b && sooner x t s) (λ t n. not_r (eq_p t.b s.b) (not_l (not (slanted t) || under x t s) v))))
      go (slant ws v) =
          bottom_strip g s m ws ∙ sym (invariance g s m x (before_end q ws)) ∙ slant_strip g s m x q ws ∙ ap (λ z. z +ℤ low) (slant_left g s m x q ws)
          ∙ +ℤ_assoc (beneath_point d s.b) ups low
          ∙ ap (λ z. beneath_point d s.b +ℤ z) (sym (total_split d (λ t. eq_p t.b s.b && sooner x t s) (λ t. eq_p t.b s.b && not (slanted t)) (λ t. eq_p t.b s.b && (slanted t && under x t s))
          (λ t n w. parted (eq_p t.b s.b) (slanted s) (slanted t) (under x t s) w v)))
        where
          ups : ℤ
          ups = total (λ t. eq_p t.b s.b && not (slanted t)) d

          low : ℤ
          low = total (λ t. eq_p t.b s.b && (slanted t && under x t s)) d

-- what the ends at p add up to
pub ends : {d : Drawing} → Good d → (f : ℤ → ℤ) (p : Point) → sum (λ s. only (eq_p s.b p) (change f (bottom d) s)) d ≡ f (beneath_point d p +ℤ total (λ s. eq_p s.b p) d) -ℤ f (beneath_point d p)
ends {d} g f p = telescope (sooner x) (sooner_asym x) f (bottom d) d at (beneath_point d p)
    (pairs_map {R = λ s t. meets_wrongly s t ≡ false} (keep at d) (λ s t m n e. total-at s t (keep_in at s d m) (keep_in at t d n) (apart e)) (pairs_keep at (λ s t. meets_wrongly s t ≡ false) d g.apart))
    (λ s t u m n o h k. sooner_by (sooner_trans (sooner_true h) (sooner_true k)))
    (λ s m e. subst (λ (r : Point). bottom d s ≡ beneath_point d r +ℤ total (λ t. eq_p t.b r && sooner x t s) d) (eq_p-true e) (end_bottom g x s m (step_back s.b e)))
  where
    at : Segment → Bool
    at s = eq_p s.b p

    x : ℤ
    x = p.x -ℤ pos 1

    step_back : (r : Point) → eq_p r p ≡ true → x +ℤ pos 1 ≡ r.x
    step_back r e = let h = ap (λ (i : Point). i.x) (eq_p-true e) in omega (ints, of-+ (p.x -ℤ pos 1) (pos 1), of-- p.x (pos 1), of_pos 1)

    total-at : (s t : Segment) → (s ∈ d) × (at s ≡ true) → (t ∈ d) × (at t ≡ true) → Apart s t → (sooner x s t ≡ true) ⊎ (sooner x t s ≡ true)
    total-at s t m n k = sooner_total x k (proper g s m.0) (proper g t n.0) (eq_p-true m.1 ∙ sym (eq_p-true n.1)) (step_back s.b m.1)
