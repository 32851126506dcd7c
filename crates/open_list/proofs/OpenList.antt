-- The laws of what leaves the list and what enters, one by one and all together; and where the tests are passed: in a drawing in which no two segments meet
-- wrongly, of a list that spans one strip, what leaves is found and closes, and what enters fits.
use mathlib.Core.Path.{◌≡◌, sym, ◌∙◌, ap, subst, refl}
use mathlib.Core.List.{List, [], ◌∷◌, ◌++◌}
use mathlib.Core.Logic.{inl, inr, ◌⊎◌}
use mathlib.Core.Bool.{true, false}
use Prim.Native.Nat.{ℕ, ◌+◌, ◌-◌, ◌<◌, ◌≤◌, suc}
use native.Mathlib.Omega.{arith}
use native.Mathlib.Decide.{dec_lt}
use lib.ListN.{length, get_or, take, drop}
use lib.Seq.{length-take-le, get_or_at}
use lib.IntN.{ℤ}
use Rattle.integers.proofs.Booleans.{clash}
use Rattle.lists.specs.Members.{◌∈◌, Pairs}
use Rattle.lists.proofs.Members.{in_at, cases, in-++, in_left, in_right, in_after, pairs_map, pairs_places, pairs_before, Stands, stands}
use Rattle.lists.proofs.Chain.{chain_put, chain_take}
use Rattle.segm.specs.Segments.{Drawing, segment_at}
use Rattle.strip.specs.Strip.{is_vertical, LowerNeighbour, spans, under, under_by_side}
use Rattle.strip.specs.Neighbours.{PlacesOf, InOrder, Distinct}
use Rattle.strip.proofs.Strip.Apart.{Apart, apart_sym, places_apart, under_irrefl}
use Rattle.strip.proofs.Strip.Above.{spans-over}
use Rattle.strip.proofs.Strip.Compare.{under_by_side_lem, by_side_irrefl, by_side_asym, by_side_total}
use Rattle.strip.proofs.Strip.Clear.{apart_clear}
use Rattle.strip.proofs.Strip.Tiers.{Tier}
use Rattle.strip.proofs.Neighbours.StripList.{strip_tiers}
use Rattle.scan.specs.Scan.{insert_at, remove_at, is_below, below_at, Changes}
use Rattle.scan.specs.declared.Sought.TheVariants.{Along}
use Rattle.scan.proofs.Scan.{insert_in, in_insert, remove_in, in_remove, not_removed, pairs_remove}
use Rattle.open_list.specs.OpenList.{FitsAt, ClosesAt, HasLeft, Entered, Marked, Marks, Spanning, CanLeave, CanEnter}
pub mod NeighbourTest

-- ---- leaving
-- nothing leaves at a start, nor at the end of a vertical segment
pub none_leaves : {d : Drawing} {l : List ℕ} (e : ℕ) → InOrder d l → Distinct l → ((i : ℕ) → length d + i ≡ e → is_vertical (segment_at d i) ≡ false → ⊥) → HasLeft d (e ∷ []) l l
none_leaves {d} e o p f = record {
  order = o;
  distinct = p;
  kept = λ i m. m;
  gone = λ i m v n. cases (λ q. f i q v) (λ n. n) m;
  rest = λ i m. inl m;
}

pub one_leaves : {d : Drawing} {l : List ℕ} (k i : ℕ) → k < length l → get_or l k 0 ≡ i → InOrder d l → Distinct l → ClosesAt d k l → HasLeft d ((length d + i) ∷ []) l (remove_at k l)
unfolding remove_at
one_leaves {d} {l} k i h e o p c = record {
  order = chain_take (λ i j. LowerNeighbour (segment_at d i) (segment_at d j)) 0 l k h o c;
  distinct = pairs_remove (λ i j. i ≡ j → ⊥) k l p;
  kept = remove_in k l;
  gone = λ j m v n. cases (λ q. not_removed k l h p (subst (λ z. z ∈ remove_at k l) (same j q ∙ sym e) n)) (λ n. n) m;
  rest = λ j m. cases inl (λ q. inr (inl (ap (λ z. length d + z) (q ∙ e)))) (in_remove k l h j m);
}
  where
    same : (j : ℕ) → length d + j ≡ length d + i → j ≡ i
    same j q = omega arith

pub none_left : {d : Drawing} {l : List ℕ} → InOrder d l → Distinct l → HasLeft d [] l l
none_left o p = record { order = o; distinct = p; kept = λ i m. m; gone = λ i m v n. m; rest = λ i m. inl m }

pub left_more : {d : Drawing} {ends l l' l'' : List ℕ} (e : ℕ) → HasLeft d ends l l' → HasLeft d (e ∷ []) l' l'' → HasLeft d (ends ++ (e ∷ [])) l l''
left_more {d} {ends} e p q = record {
  order = q.order;
  distinct = q.distinct;
  kept = λ i m. p.kept i (q.kept i m);
  gone = λ i m v n. cases (λ o. p.gone i o v (q.kept i n)) (λ o. q.gone i o v n) (in-++ (length d + i) ends (e ∷ []) m);
  rest = λ i m. cases (λ n. cases inl (λ o. inr (in_right (length d + i) ends (e ∷ []) o)) (q.rest i n)) (λ o. inr (in_left (length d + i) ends (e ∷ []) o)) (p.rest i m);
}

-- ---- entering
pub none_entered : {d : Drawing} {l : List ℕ} (from : ℕ) → InOrder d l → Entered d from from l l
none_entered from o = record { order = o; kept = λ i m. m; came = λ i h k v. absurd (omega arith); mine = λ i m. inl m }

-- a vertical segment does not enter
pub none_enters : {d : Drawing} {l : List ℕ} (i : ℕ) → InOrder d l → is_vertical (segment_at d i) ≡ true → Entered d i (i + 1) l l
none_enters {d} i o v = record {
  order = o;
  kept = λ j m. m;
  came = λ j h k w. absurd (let e : j ≡ i = omega arith in clash (ap (λ z. is_vertical (segment_at d z)) e ∙ v) w);
  mine = λ j m. inl m;
}

pub one_enters : {d : Drawing} {l : List ℕ} (k i : ℕ) → InOrder d l → is_vertical (segment_at d i) ≡ false → FitsAt d k i l → Entered d i (i + 1) l (insert_at k i l)
unfolding insert_at
one_enters {d} {l} k i o v f = record {
  order = chain_put (λ i j. LowerNeighbour (segment_at d i) (segment_at d j)) 0 l k i f.till o f.over f.under;
  kept = λ j m. in_insert k i l j (inr m);
  came = λ j p q w. in_insert k i l j (inl (omega arith));
  mine = λ j m. cases (λ e. inr (omega arith, omega arith, ap (λ z. is_vertical (segment_at d z)) e ∙ v)) inl (insert_in k i l j m);
}

pub entered_more : {d : Drawing} {l l' l'' : List ℕ} (from i to : ℕ) → from ≤ i → i ≤ to → Entered d from i l l' → Entered d i to l' l'' → Entered d from to l l''
entered_more {d} {l'' = l''} from i to h t p q = record {
  order = q.order;
  kept = λ j m. q.kept j (p.kept j m);
  came = λ j k k' v. go j k k' v (dec_lt j i);
  mine = λ j m. cases (λ n. cases inl (λ o. inr (o.0, omega (arith, o.1), o.2)) (p.mine j n)) (λ o. inr (omega (arith, o.0), o.1, o.2)) (q.mine j m);
}
  where
    go : (j : ℕ) → from ≤ j → j < to → is_vertical (segment_at d j) ≡ false → Dec (j < i) → j ∈ l''
    go j k k' v (yes a) = q.kept j (p.came j k a v)
    go j k k' v (no a) = q.came j (omega arith) k' v

-- ---- places of the drawing
-- i stands at place k then
pub put_at : (k i : ℕ) (l : List ℕ) → k ≤ length l → get_or (insert_at k i l) (k + 1 - 1) 0 ≡ i
unfolding insert_at
put_at k i l h = let e : k + 1 - 1 ≡ k = omega arith in ap (λ (n : ℕ). get_or (take k l ++ (i ∷ drop k l)) n 0) e ∙ get_or_at (take k l) i (drop k l) 0 k (length-take-le k l h)

-- the mark moves on with each that enters
pub marks_more : {from i near near' : ℕ} {l l' : List ℕ} → from ≤ i → Marks from near l → Marked i near l near' l' → Marks from near' l'
marks_more {from} {i} {near} {near'} {l} {l'} h m (inl (e, q)) j n k = subst (λ (a : ℕ). (0 < a) × (a ≤ length l') × (from ≤ get_or l' (a - 1) 0)) (sym q) (subst (λ (a : List ℕ). Marks from near a) (sym e) m j n k)
marks_more {from} h m (inr (some, inside, is)) j n k = (some, inside, omega (arith, is))

pub left_known : {d : Drawing} {ends l l' : List ℕ} → PlacesOf d l → HasLeft d ends l l' → PlacesOf d l'
left_known k p i m = k i (p.kept i m)

pub entered_known : {d : Drawing} {from to : ℕ} {l l' : List ℕ} → to ≤ length d → PlacesOf d l → Entered d from to l l' → PlacesOf d l'
entered_known h k p i m = cases (k i) (λ o. omega (arith, o.1)) (p.mine i m)

-- ---- where every test is passed
module _ (d : Drawing) (l : List ℕ) {x : ℤ} (known : PlacesOf d l) where
  -- ---- what leaves
  module _ (order : InOrder d l) (w : Spanning d x l) where
    -- every two may stand side by side
    sorted : Pairs (λ i j. LowerNeighbour (segment_at d i) (segment_at d j)) l
    sorted = pairs_map {R = λ i j. Tier x (segment_at d i) (segment_at d j)} l each (strip_tiers (segment_at d) l {l = l} (record { chain = order; mine = λ i m. (m, spans-over (w.across i m)); every = λ i m o. m }))
      where
        each : (i j : ℕ) → i ∈ l → j ∈ l → Tier x (segment_at d i) (segment_at d j) → LowerNeighbour (segment_at d i) (segment_at d j)
        each i j m n t =
            let k = places_apart d w.apart i j (known i m) (known j n) (λ e. clash t.lower (ap (λ (k : ℕ). under x (segment_at d i) (segment_at d k)) (sym e) ∙ under_irrefl (segment_at d i) x)) in
            record { lower = sym (under_by_side_lem k (spans-over (w.across i m)) (spans-over (w.across j n))) ∙ t.lower; clear = apart_clear k }

    earlier_later : (j k : ℕ) → j < k → k < length l → LowerNeighbour (segment_at d (get_or l j 0)) (segment_at d (get_or l k 0))
    earlier_later j k h m = pairs_places (λ i j. LowerNeighbour (segment_at d i) (segment_at d j)) l 0 sorted j (omega arith) (get_or l k 0) (in_after l 0 j k h m)

    -- any place at which the list changes from below to above i is that of i
    pub changes_found : (i k : ℕ) → i ∈ l → Changes (below_at d (Along (segment_at d i)) l) 0 (length l) k → (k < length l) × (get_or l k 0 ≡ i)
    unfolding is_below
    changes_found i k m c = let same = go (dec_lt k s.place) (dec_lt s.place k) in (omega (arith, s.inside), ap (λ (n : ℕ). get_or l n 0) same ∙ s.is)
      where
        s : Stands l 0 i
        s = stands l 0 i m

        from : (j : ℕ) → s.place ≤ j → j < length l → Dec (s.place < j) → under_by_side (segment_at d (get_or l j 0)) (segment_at d i) ≡ false
        from j p q (yes r) = by_side_asym (segment_at d i) (segment_at d (get_or l j 0)) (subst (λ (n : ℕ). under_by_side (segment_at d n) (segment_at d (get_or l j 0)) ≡ true) s.is (earlier_later s.place j r q).lower)
        from j p q (no r) = let same : j ≡ s.place = omega arith in ap (λ (n : ℕ). under_by_side (segment_at d n) (segment_at d i)) (ap (λ (n : ℕ). get_or l n 0) same ∙ s.is) ∙ by_side_irrefl (segment_at d i)

        go : Dec (k < s.place) → Dec (s.place < k) → k ≡ s.place
        go (yes p) q = absurd (clash (subst (λ (n : ℕ). under_by_side (segment_at d (get_or l k 0)) (segment_at d n) ≡ true) s.is (earlier_later k s.place p s.inside).lower) (c.after (omega (arith, s.inside))))
        go (no p) (yes q) = absurd (clash (c.before (omega arith)) (from (k - 1) (omega arith) (omega (arith, c.till)) (dec_lt s.place (k - 1))))
        go (no p) (no q) = omega arith

    pub closes : (k : ℕ) → ClosesAt d k l
    closes k j e h = earlier_later j (suc k) (omega arith) h

  -- ---- what enters
  -- i fits at any place where the list changes from below to above it
  pub changes_fit : (i k : ℕ) → i < length d → (i ∈ l → ⊥) → Spanning d x (i ∷ l) → Changes (below_at d (Along (segment_at d i)) l) 0 (length l) k → FitsAt d k i l
  unfolding is_below
  changes_fit i k inside new w c = record {
    till = c.till;
    over = λ j e.
        let h : k - 1 ≡ j = omega arith in
        let m = in_at l 0 j (omega (arith, c.till)) in
        record { lower = subst (λ (n : ℕ). under_by_side (segment_at d (get_or l n 0)) (segment_at d i) ≡ true) h (c.before (omega arith)); clear = apart_clear (clear (get_or l j 0) m) };
    under = λ h.
        let m = in_at l 0 k h in
        record { lower = by_side_total (clear (get_or l k 0) m) (spans-over (w.across (get_or l k 0) (inr m))) (spans-over (w.across i (inl refl))) (c.after h); clear = apart_clear (apart_sym (clear (get_or l k 0) m)) };
  }
    where
      clear : (j : ℕ) → j ∈ l → Apart (segment_at d j) (segment_at d i)
      clear j m = places_apart d w.apart j i (known j m) inside (λ e. new (subst (λ (n : ℕ). n ∈ l) e m))

-- ---- one more that spans the strip
pub spanning_with : {d : Drawing} {x : ℤ} {l : List ℕ} → Spanning d x l → (i : ℕ) → spans (segment_at d i) x ≡ true → Spanning d x (i ∷ l)
spanning_with {d} {x} w i h = record { apart = w.apart; across = λ j m. cases (λ e. subst (λ (n : ℕ). spans (segment_at d n) x ≡ true) (sym e) h) (w.across j) m }

-- ---- from one to the next
-- the next end, after the first k of them
pub can_leave_next : (d : Drawing) (ends l l' : List ℕ) (k : ℕ) → k < length ends → CanLeave d ends l → HasLeft d (take k ends) l l' → CanLeave d (get_or ends k 0 ∷ []) l'
can_leave_next d ends l l' k h w p = record {
  x = w.x;
  spanning = record { apart = w.spanning.apart; across = λ i m. w.spanning.across i (p.kept i m) };
  distinct = (λ j m. absurd m, tt);
  in_list = still;
}
  where
    still : (i : ℕ) → (length d + i ≡ get_or ends k 0) ⊎ ⊥ → is_vertical (segment_at d i) ≡ false → i ∈ l'
    still i (inl e) v =
        cases (λ m. m) (λ m. absurd (pairs_before (λ i j. i ≡ j → ⊥) ends 0 w.distinct k h (length d + i) m e)) (p.rest i (w.in_list i (subst (λ (n : ℕ). n ∈ ends) (sym e) (in_at ends 0 k h)) v))
    still i (inr m) v = absurd m

-- the next places, after those from..i
pub can_enter_next : (d : Drawing) (from i next to : ℕ) (l l' : List ℕ) → from ≤ i → i ≤ next → next ≤ to → CanEnter d from to l → Entered d from i l l' → CanEnter d i next l'
can_enter_next d from i next to l l' h k t w p = record {
  x = w.x;
  spanning = record { apart = w.spanning.apart; across = λ j m. cases (w.spanning.across j) (λ o. w.starting j o.0 (omega (arith, o.1)) o.2) (p.mine j m) };
  earlier = λ j m. cases (λ n. omega (arith, w.earlier j n)) (λ o. o.1) (p.mine j m);
  starting = λ j a b v. w.starting j (omega arith) (omega arith) v;
}
