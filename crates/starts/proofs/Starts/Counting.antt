-- The counts of a node: those that start at one point stand side by side in the list, so that what is counted up is all of them.
use mathlib.Core.Path.{◌≡◌, sym, ap, subst, ◌∙◌}
use mathlib.Core.List.{List, ◌++◌}
use mathlib.Core.Logic.{◌⊎◌, inl, inr}
use mathlib.Core.Bool.{true, false}
use Prim.Native.Nat.{ℕ, ◌+◌, ◌-◌, ◌<◌, ◌≤◌}
use native.Mathlib.Omega.{arith}
use native.Mathlib.Decide.{dec_lt}
use lib.ListN.{length, get_or, take, drop, length-drop, take-append-drop}
use lib.Seq.{get_or-take, get_or-drop, length-take-le}
use lib.IntN.{ℤ, pos, ◌+ℤ◌}
use Rattle.integers.proofs.Booleans.{clash, dec}
use Rattle.geom.specs.declared.Point.{Point}
use Rattle.geom.specs.Points.{lt_p}
use Rattle.geom.proofs.Points.{lt_p_irrefl, lt_p-true}
use Rattle.lists.specs.Members.{◌∈◌}
use Rattle.lists.specs.UpFrom.{up_from}
use Rattle.segm.specs.Segments.{Drawing, segment_at}
use Rattle.lists.proofs.Members.{stands, in_at, in_take, in_drop, pairs_take, pairs_drop}
use Rattle.strip.specs.Strip.{is_vertical}
use Rattle.strip.proofs.Strip.Apart.{over_wide}
use Rattle.strip.proofs.Strip.Vertical.{wide_not_vertical}
use Rattle.faults.specs.Faultless.{Faultless}
use Rattle.faults.proofs.Faultless.{proper_at}
use Rattle.strip.proofs.Neighbours.StripList.{strip_distinct}
use Rattle.strip.proofs.Neighbours.Upright.{Upright, vertical_upright}
use Rattle.count_up.specs.CountUp.{OpenAt, last_of, last_in, count_up, Counts, Tops, CountsWritten, LowEnd, HighEnd, Climbed}
use Rattle.count_up.proofs.CountUp.{open_strip_list, open_over, Climbs, count_up_lem, node_climbs, last_at, last_none, last_cong, node_places}
use Rattle.open_list.specs.OpenList.{Entered, Older, Marks}
use Rattle.verticals.specs.Verticals.{AllStand, Stood}
use Rattle.verticals.proofs.Verticals.Gaps.{in_gap_changes}
use Rattle.starts.specs.Starts.{Splits, NodeEnd, Counting}
use Rattle.starts.proofs.Starts.Entering.{entered_open}

-- ---- a stretch of a list
abbrev stretch : (low high : ℕ) → List ℕ → List ℕ
stretch low high l = take (high - low) (drop low l)

stretch_at : (low high : ℕ) (l : List ℕ) (k : ℕ) → k < high - low → get_or (stretch low high l) k 0 ≡ get_or l (low + k) 0
stretch_at low high l k h = get_or-take (high - low) (drop low l) k 0 h ∙ get_or-drop low l k 0

length_stretch : (low high : ℕ) (l : List ℕ) → high ≤ length l → length (stretch low high l) ≡ high - low
length_stretch low high l h = length-take-le (high - low) (drop low l) (omega (arith, length-drop low l))

module _ {d : Drawing} (faultless : Faultless d) {from to : ℕ} (node : NodeEnd d from to to) (few : to ≤ length d) (begins : Splits d from) where
  abbrev p : Point
  p = (segment_at d from).a

  module _ {l' : List ℕ} (h : OpenAt d to p.x l') {near : ℕ} (marks : Marks from near l') {low high : ℕ} (lo : LowEnd from near l' low) (hi : HighEnd from near l' high) where
    -- those of the stretch are of the node
    of_node : (i : ℕ) → i ∈ stretch low high l' → from ≤ i
    of_node i m =
        let s = stands (stretch low high l') 0 i m in
        let k : s.place < high - low = omega (arith, s.inside, length_stretch low high l' hi.till) in
        subst (λ (n : ℕ). from ≤ n) (sym (stretch_at low high l' s.place k) ∙ s.is) (at (low + s.place) (omega arith) (omega arith) (dec_lt (low + s.place) near))
      where
        at : (k : ℕ) → low ≤ k → k < high → Dec (k < near) → from ≤ get_or l' k 0
        at k a b (yes c) = lo.members k a c
        at k a b (no c) = hi.members k (omega arith) b

    starts_there : (i : ℕ) → i ∈ l' → from ≤ i → (segment_at d i).a ≡ p
    starts_there i m f = node.here i f (h.mine i m).0

    -- none of them stands outside
    not_outside : (j : ℕ) → j < length l' → from ≤ get_or l' j 0 → (low ≤ j) × (j < high)
    not_outside j inside member = go (dec_lt j low) (dec_lt j high)
      where
        at_mark : (0 < near) × (near ≤ length l') × (from ≤ get_or l' (near - 1) 0)
        at_mark = marks (get_or l' j 0) (in_at l' 0 j inside) member

        low_first : Dec (low < near) → low < near
        low_first (yes k) = k
        low_first (no k) = let e : low ≡ near = omega (arith, lo.till) in let m = at_mark.0 in absurd (omega (arith, subst (λ (n : ℕ). get_or l' (n - 1) 0 < from) e (lo.below (omega arith)), at_mark.2))

        first : low < near
        first = low_first (dec_lt low near)

        there : (k : ℕ) → k < length l' → from ≤ get_or l' k 0 → (segment_at d (get_or l' k 0)).a ≡ p
        there k u f = starts_there (get_or l' k 0) (in_at l' 0 k u) f

        -- what starts at the node's point is of the node
        older : (k : ℕ) → get_or l' k 0 < from → (segment_at d (get_or l' k 0)).a ≡ p → ⊥
        older k b e = clash (ap (λ (q : Point). lt_p q p) (sym e) ∙ begins (get_or l' k 0) from b (omega arith) (omega (arith, node.since))) (lt_p_irrefl p)

        under : j < low → ⊥
        under k = go_under (dec_lt j (low - 1))
          where
            out : get_or l' (low - 1) 0 < from
            out = lo.below (omega arith)

            go_under : Dec (j < low - 1) → ⊥
            go_under (yes q) = older (low - 1) out (node_places p h j (low - 1) (near - 1) q (omega (arith, first)) (omega (arith, at_mark.1, at_mark.0)) (there j inside member) (there (near - 1) (omega (arith, at_mark.1, at_mark.0)) at_mark.2))
            go_under (no q) = let e : low - 1 ≡ j = omega arith in omega (arith, subst (λ (n : ℕ). get_or l' n 0 < from) e out)

        over : high ≤ j → ⊥
        over k = go_over (dec_lt high j)
          where
            out : get_or l' high 0 < from
            out = hi.above (omega arith)

            go_over : Dec (high < j) → ⊥
            go_over (yes q) = older high out (node_places p h (near - 1) high j (omega (arith, hi.from, at_mark.0)) q inside (there (near - 1) (omega (arith, at_mark.1, at_mark.0)) at_mark.2) (there j inside member))
            go_over (no q) = let e : high ≡ j = omega arith in omega (arith, subst (λ (n : ℕ). get_or l' n 0 < from) e out)

        go : Dec (j < low) → Dec (j < high) → (low ≤ j) × (j < high)
        go (yes a) b = absurd (under a)
        go (no a) (yes b) = (omega arith, b)
        go (no a) (no b) = absurd (over (omega arith))

    in_stretch : (i : ℕ) → i ∈ l' → from ≤ i → i ∈ stretch low high l'
    in_stretch i m f =
        let s = stands l' 0 i m in
        let (a, b) = not_outside s.place s.inside (subst (λ (n : ℕ). from ≤ n) (sym s.is) f) in
        let k : low + (s.place - low) ≡ s.place = omega arith in
        subst (λ (n : ℕ). n ∈ stretch low high l') (stretch_at low high l' (s.place - low) (omega arith) ∙ ap (λ (n : ℕ). get_or l' n 0) k ∙ s.is)
        (in_at (stretch low high l') 0 (s.place - low) (omega (arith, length_stretch low high l' hi.till)))

    -- ---- the counts
    module _ {count : ℕ → ℤ} (c : Counts d count) (tops : List ℤ) (known : Tops count from tops) (room : length d ≤ length tops) where
      under_is : last_in tops (take low l') ≡ last_of count (take low l')
      under_is = go (dec_lt 0 low)
        where
          long : length (take low l') ≡ low
          long = length-take-le low l' (omega (arith, lo.till, hi.from, hi.till))

          go : Dec (0 < low) → last_in tops (take low l') ≡ last_of count (take low l')
          go (yes k) =
              let e : get_or (take low l') (length (take low l') - 1) 0 ≡ get_or l' (low - 1) 0 = ap (λ (n : ℕ). get_or (take low l') (n - 1) 0) long ∙ get_or-take low l' (low - 1) 0 (omega arith) in
              last_at (λ i. get_or tops i (pos 0)) (take low l') (omega (arith, long))
              ∙ known (get_or (take low l') (length (take low l') - 1) 0) (subst (λ (n : ℕ). n < from) (sym e) (lo.below k))
              ∙ sym (last_at count (take low l') (omega (arith, long)))
          go (no k) = last_none (λ i. get_or tops i (pos 0)) (take low l') (omega (arith, long)) ∙ sym (last_none count (take low l') (omega (arith, long)))

      counted : CountsWritten count (stretch low high l') tops (count_up d (last_in tops (take low l')) (stretch low high l') tops)
      counted = count_up_lem d count (last_in tops (take low l')) (stretch low high l') tops
          (pairs_take (λ i j. i ≡ j → ⊥) (high - low) (drop low l') (pairs_drop (λ i j. i ≡ j → ⊥) low l' (strip_distinct (segment_at d) (up_from 0 to) (open_strip_list d to h))))
          (λ i m. omega (arith, (h.mine i (in_list i m)).0, room))
          (subst (λ z. Climbs d count z (stretch low high l')) (sym under_is)
          (node_climbs d count c to p (take low l') (stretch low high l') (drop (high - low) (drop low l')) few (subst (OpenAt d to p.x) (sym parts) h)
          (λ i m. starts_there i (in_list i m) (of_node i m))
          (λ k a b. node.splits from k node.since a b)))
        where
          in_list : (i : ℕ) → i ∈ stretch low high l' → i ∈ l'
          in_list i m = in_drop low l' i (in_take (high - low) (drop low l') i m)

          parts : take low l' ++ (stretch low high l' ++ drop (high - low) (drop low l')) ≡ l'
          parts = ap (λ (r : List ℕ). take low l' ++ r) (take-append-drop (high - low) (drop low l')) ∙ take-append-drop low l'

-- THEOREM: a node is passed, and its tops are its counts
module _ {d : Drawing} (faultless : Faultless d) {from to : ℕ} (node : NodeEnd d from to to) (few : to ≤ length d) (begins : Splits d from) where
  pub node_counting : {l l' : List ℕ} {near place high : ℕ} {tops tops₁ tops₂ : List ℤ} → length d ≤ length tops → Entered d from to l l' → (Older from l → Marks from near l') → (near ≤ length l' → place ≡ near)
      → Climbed d from place l' tops tops₁ high → AllStand d from to l' tops₁ tops₂ → Counting d from to l tops tops₂
  node_counting {l} {l'} {near} {place} {high} {tops} {tops₁} {tops₂} room entered marks same climbed stand count c y held starts known i u = go (dec_lt i from) (dec (is_vertical (segment_at d i)))
    where
      x_is : (segment_at d from).a.x ≡ y
      x_is = starts from (omega arith) node.since

      h : OpenAt d to (segment_at d from).a.x l'
      h = subst (λ z. OpenAt d to z l') (sym x_is) (entered_open faultless (omega (arith, node.since)) few held starts entered)

      marked : Marks from place l'
      marked j m f = let (a, b, e) = marks (λ k n. (held.mine k n).0) j m f in subst (λ (n : ℕ). (0 < n) × (n ≤ length l') × (from ≤ get_or l' (n - 1) 0)) (sym (same b)) (a, b, e)

      wrote : CountsWritten count (stretch climbed.low high l') tops tops₁
      wrote = subst (CountsWritten count (stretch climbed.low high l') tops) (sym climbed.written) (counted faultless node few begins h marked climbed.low_end climbed.high_end c tops known room)

      -- all of the list have their counts
      listed : (j : ℕ) → j ∈ l' → Dec (j < from) → get_or tops₁ j (pos 0) ≡ count j
      listed j m (yes b) = wrote.others j (λ n. let f = of_node faultless node few begins h marked climbed.low_end climbed.high_end j n in omega arith) ∙ known j b
      listed j m (no b) = wrote.here j (in_stretch faultless node few begins h marked climbed.low_end climbed.high_end j m (omega arith))

      slanted : (j : ℕ) → j ∈ l' → is_vertical (segment_at d j) ≡ false
      slanted j m = wide_not_vertical (segment_at d j) (over_wide (open_over h j m))

      upright : from ≤ i → is_vertical (segment_at d i) ≡ true → Upright (segment_at d i)
      upright a v = vertical_upright (lt_p-true (proper_at faultless i (omega arith)).rises) v

      at_foot : from ≤ i → OpenAt d to (segment_at d i).a.x l'
      at_foot a = subst (λ (q : Point). OpenAt d to q.x l') (sym (node.here i a u)) h

      vertical : from ≤ i → is_vertical (segment_at d i) ≡ true → Stood d l' tops₁ tops₂ i → get_or tops₂ i (pos 0) ≡ count i
      vertical a v s =
          s.top slanted
          ∙ ap (λ z. z +ℤ (segment_at d i).winding) (last_cong (λ j. get_or tops₁ j (pos 0)) count (take s.place l') (λ j m. let n = in_take s.place l' j m in listed j n (dec_lt j from)))
          ∙ sym (c.vertical i to (omega arith) v few l' (at_foot a) (λ k b e. node.splits i k u b e) s.place
          (in_gap_changes d (upright a v) (open_over (at_foot a)) s.place s.in_gap))

      go : Dec (i < from) → (is_vertical (segment_at d i) ≡ true) ⊎ (is_vertical (segment_at d i) ≡ false) → get_or tops₂ i (pos 0) ≡ count i
      go (yes b) v = stand.others i (λ a _ _. omega arith) ∙ wrote.others i (λ n. let f = of_node faultless node few begins h marked climbed.low_end climbed.high_end i n in omega arith) ∙ known i b
      go (no b) (inl v) = vertical (omega arith) v (stand.each i (omega arith) u v)
      go (no b) (inr v) = stand.others i (λ _ _ f. clash f v) ∙ listed i (entered.came i (omega arith) u v) (no b)
