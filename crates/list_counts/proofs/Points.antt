-- The count under a point by its place in the list, and the bottom count of a vertical segment, which is the count under its head.
use mathlib.Core.Path.{◌≡◌, refl, sym, ◌∙◌, ap, subst}
use mathlib.Core.List.{List, [], ◌∷◌}
use mathlib.Core.Logic.{◌⊎◌, inl, inr}
use mathlib.Core.Bool.{true, false, ◌&&◌, ◌||◌}
use Prim.Native.Nat.{ℕ, zero, suc, ◌-◌, ◌<◌, ◌≤◌}
use native.Mathlib.Omega.{arith}
use native.Mathlib.Decide.{dec_le}
use lib.ListN.{length, get_or, take, drop, take-append-drop, drop_of_length-le}
use lib.Seq.{take-suc, drop-cons}
use Rattle.integers.proofs.Booleans.{dec, both, both_r, not_l, or_l, or_r, one_of, clash, is_false, same_test}
use Rattle.integers.proofs.Linear.{ints}
use Rattle.integers.proofs.Order.{lt_le}
use Rattle.geom.specs.declared.Point.{Point}
use Rattle.geom.specs.Points.{eq_p}
use Rattle.geom.proofs.Points.{Before, before_irrefl, eq_eq_p}
use Rattle.segm.specs.declared.Segment.{Segment}
use Rattle.lists.specs.Members.{◌∈◌}
use Rattle.segm.specs.Segments.{Drawing, segment_at}
use Rattle.lists.proofs.Members.{in_at, in_take, in_drop, pairs_places, pairs_before, in-++}
use Rattle.segm.proofs.Segments.{total_cong}
use Rattle.checks.specs.Accepted.{Good}
use Rattle.strip.specs.Strip.{spans, above, clockwise, under}
use Rattle.strip.proofs.Strip.Gap.{side_own_a}
use Rattle.strip.proofs.Strip.Apart.{Apart, Over, over_wide, under_le, side_less}
use Rattle.strip.proofs.Strip.Above.{spans_on, spans-over, spans_past, above_on, above_yes}
use Rattle.strip.proofs.Strip.Tiers.{Tier}
use Rattle.scan.specs.declared.Sought.TheVariants.{At}
use Rattle.scan.specs.Scan.{Changes, is_below, below_at}
use Rattle.strip.specs.Neighbours.{LiesUnder}
use Rattle.strip.proofs.Neighbours.Upright.{Upright, side_down}
use Rattle.strip.proofs.Neighbours.Passes.{inner_a, foot_over}
use Rattle.count_up.specs.CountUp.{OpenAt, last_of}
use Rattle.count_up.proofs.CountUp.{open_over, open_tiers}
use Rattle.ray.specs.Ray.{met, bottom}
use Rattle.ray.proofs.Ray.{met_off}
use Rattle.ray.proofs.Invariance.{one_or_apart, beneath_point}
use Rattle.list_counts.specs.ListCounts.{top_at}
use Rattle.list_counts.proofs.Lowest.{total_lowest, open_lowest}

-- ---- the count under a point
-- a point above the higher of two is above the lower
above_down : (p : Point) (s t : Segment) → Over p.x s → Over p.x t → under p.x s t ≡ true → above t p ≡ true → above s p ≡ true
above_down p s t o q u h = above_on s p (side_down p (over_wide o) (over_wide q) (under_le s t p.x u) (above_yes t p h))

-- at k the list goes from those that have p above them to the others
module _ {d : Drawing} {m : ℕ} (p : Point) {l : List ℕ} (h : OpenAt d m p.x l) {k : ℕ} (c : Changes (below_at d (At p) l) 0 (length l) k) where
  down : (i j : ℕ) → i ∈ l → j ∈ l → Tier p.x (segment_at d i) (segment_at d j) → above (segment_at d j) p ≡ true → above (segment_at d i) p ≡ true
  down i j n o t a = above_down p (segment_at d i) (segment_at d j) (open_over h i n) (open_over h j o) t.lower a

  all_below : (i : ℕ) → i ∈ take k l → above (segment_at d i) p ≡ true
  unfolding is_below
  all_below i n = go k refl n
    where
      go : (j : ℕ) → k ≡ j → i ∈ take j l → above (segment_at d i) p ≡ true
      go zero e n = absurd n
      go (suc j) e n =
          let u : j < length l = omega (arith, c.till) in
          let q : k - 1 ≡ j = omega arith in
          let a = subst (λ (r : ℕ). above (segment_at d (get_or l r 0)) p ≡ true) q (c.before (omega arith)) in
          by u a (in-++ i (take j l) (get_or l j 0 ∷ []) (subst (λ (r : List ℕ). i ∈ r) (take-suc l j 0 u) n))
        where
          by : j < length l → above (segment_at d (get_or l j 0)) p ≡ true → (i ∈ take j l) ⊎ ((i ≡ get_or l j 0) ⊎ ⊥) → above (segment_at d i) p ≡ true
          by u a (inl n) = down i (get_or l j 0) (in_take j l i n) (in_at l 0 j u) (pairs_before (λ i j. Tier p.x (segment_at d i) (segment_at d j)) l 0 (open_tiers h) j u i n) a
          by u a (inr (inl e)) = ap (λ (r : ℕ). above (segment_at d r) p) e ∙ a
          by u a (inr (inr n)) = absurd n

  none_below : (i : ℕ) → i ∈ drop k l → above (segment_at d i) p ≡ false
  unfolding is_below
  none_below i n = go (dec_le (suc k) (length l))
    where
      go : Dec (k < length l) → above (segment_at d i) p ≡ false
      go (no u) = let e : length l ≤ k = omega arith in absurd (subst (λ (r : List ℕ). i ∈ r) (drop_of_length-le l e) n)
      go (yes u) = by (subst (λ (r : List ℕ). i ∈ r) (drop-cons l k 0 u) n)
        where
          by : (i ≡ get_or l k 0) ⊎ (i ∈ drop (suc k) l) → above (segment_at d i) p ≡ false
          by (inl e) = ap (λ (r : ℕ). above (segment_at d r) p) e ∙ c.after u
          by (inr n) = is_false (above (segment_at d i) p) (λ a. clash (down (get_or l k 0) i (in_at l 0 k u) (in_drop (suc k) l i n) (pairs_places (λ i j. Tier p.x (segment_at d i) (segment_at d j)) l 0 (open_tiers h) k u i n) a) (c.after u))

  -- THEOREM: the top count of the one before k, where p is not above what is still to come
  pub point_last : Good d → m ≤ length d → ((i : ℕ) → m ≤ i → i < length d → Over p.x (segment_at d i) → above (segment_at d i) p ≡ false) → beneath_point d p ≡ last_of (top_at d) (take k l)
  unfolding beneath_point
  point_last g few later = total_lowest g (open_lowest (λ s. above s p) (take k l) (drop k l) few (subst (OpenAt d m p.x) (sym (take-append-drop k l)) h) all_below none_below later (above_down p))

-- ---- vertical segments
module _ {v : Segment} (u : Upright v) where
  -- what has v's head above it has its foot above it, or starts there
  foot_under : {s : Segment} → Apart v s → Over v.a.x s → above s v.b ≡ true → LiesUnder (λ t. t.a) v.a s
  foot_under {s} k o a = foot_over u (over_wide o) k o.from (lt_le o.to) (inner_a s o.from o.to) (above_yes s v.b a)

  -- what starts after v's foot does not have v's head above it
  pub later_not_below : {s : Segment} → Apart v s → Over v.a.x s → Before v.a s.a → above s v.b ≡ false
  later_not_below {s} k o b = is_false (above s v.b) (λ a. go b (foot_under k o a))
    where
      go : Before v.a s.a → LiesUnder (λ t. t.a) v.a s → ⊥
      go (inl l) f = let r = o.from in omega ints
      go (inr l) (inl f) = let z = side_own_a s in let r = side_less s v.a s.a (over_wide o) l.0 l.1 in omega ints
      go (inr l) (inr e) = before_irrefl (subst (λ (p : Point). Before v.a p) e (inr l))

  -- of one that spans v's x the ray from v's foot counts what has v's head above it
  met_head : (j : Segment) → Apart v j → Over v.a.x j → met v j ≡ (spans j v.b.x && above j v.b)
  unfolding met clockwise
  met_head j k o = same_test (met v j) (spans j v.b.x && above j v.b)
      (λ t. both there (go_up (one_of (above j v.a) (eq_p j.a v.a && above j v.b) (both_r (spans j v.a.x) (above j v.a || (eq_p j.a v.a && above j v.b)) t))))
      (λ t. let a = both_r (spans j v.b.x) (above j v.b) t in both (spans_on o) (go_down a (foot_under k o a)))
    where
      there : spans j v.b.x ≡ true
      there = ap (spans j) u.plumb ∙ spans_on o

      go_up : (above j v.a ≡ true) ⊎ ((eq_p j.a v.a && above j v.b) ≡ true) → above j v.b ≡ true
      go_up (inl a) = above_on j v.b (let q = above_yes j v.a a in let r = side_less j v.a v.b (over_wide o) (sym u.plumb) u.rises in omega ints)
      go_up (inr a) = both_r (eq_p j.a v.a) (above j v.b) a

      go_down : above j v.b ≡ true → LiesUnder (λ t. t.a) v.a j → (above j v.a || (eq_p j.a v.a && above j v.b)) ≡ true
      go_down a (inl b) = or_l (eq_p j.a v.a && above j v.b) (above_on j v.a b)
      go_down a (inr e) = or_r (above j v.a) (both (eq_eq_p e) a)

  -- THEOREM: the bottom count of a vertical segment is the count under its head
  pub bottom_head : {d : Drawing} → Good d → v ∈ d → bottom d v ≡ beneath_point d v.b
  unfolding bottom beneath_point
  bottom_head {d} g m = total_cong d (met v) (λ j. spans j v.b.x && above j v.b) (λ j n. go j (one_or_apart g v j m n) (dec (spans j v.a.x)))
    where
      go : (j : Segment) → (v ≡ j) ⊎ Apart v j → (spans j v.a.x ≡ true) ⊎ (spans j v.a.x ≡ false) → met v j ≡ (spans j v.b.x && above j v.b)
      go j k (inr e) = met_off v j e ∙ sym (not_l (above j v.b) (ap (spans j) u.plumb ∙ e))
      go j (inl q) (inl e) = absurd (clash e (ap (λ s. spans s v.a.x) (sym q) ∙ spans_past v (let r = u.plumb in omega ints)))
      go j (inr k) (inl e) = met_head j k (spans-over e)
