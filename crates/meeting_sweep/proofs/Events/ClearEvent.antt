-- Where no two segments meet wrongly, each test of each event finds what it asks for.
use mathlib.Core.Path.{◌≡◌, sym, ap, ◌∙◌, subst}
use mathlib.Core.List.{List}
use mathlib.Core.Logic.{◌⊎◌, inl, inr}
use mathlib.Core.Bool.{true, false}
use Prim.Native.Nat.{ℕ, ◌+◌, ◌-◌, ◌<◌, ◌≤◌}
use native.Mathlib.Omega.{arith}
use native.Mathlib.Decide.{dec_lt, ℕ_discrete}
use lib.ListN.{length, get_or, take, drop}
use lib.IntN.{ℤ, pos}
use lib.Signed.{◌≤ℤ◌, ◌<ℤ◌}
use Rattle.integers.proofs.Booleans.{clash}
use Rattle.integers.proofs.Linear.{ints}
use Rattle.integers.proofs.Order.{order}
use Rattle.geom.specs.declared.Point.{Point}
use Rattle.geom.proofs.Points.{before}
use Rattle.segm.specs.declared.Segment.{Segment}
use Rattle.lists.specs.Members.{◌∈◌}
use Rattle.lists.specs.UpFrom.{up_from}
use Rattle.segm.specs.Segments.{Drawing, segment_at}
use Rattle.lists.proofs.Members.{in_take, in_drop, pairs_take, pairs_drop, cases}
use Rattle.lists.proofs.UpFrom.{up_from_in}
use Rattle.ends.specs.Ends.{end_point}
use Rattle.ends.proofs.Ends.{end_a, end_b}
use Rattle.graph.proofs.Flat.{Ordered}
use Rattle.meetings.specs.Meetings.{side, NoneMeetWrongly}
use Rattle.strip.specs.Strip.{is_vertical}
use Rattle.strip.proofs.Strip.Apart.{Apart, Between, Over, places_apart}
use Rattle.strip.proofs.Strip.Vertical.{not_vertical_wide}
use Rattle.strip.proofs.Strip.Above.{spans_on}
use Rattle.faults.specs.Faultless.{Faultless}
use Rattle.strip.specs.Neighbours.{PlacesOf}
use Rattle.strip.proofs.Neighbours.Upright.{Upright, vertical_upright, in_line}
use Rattle.strip.proofs.Neighbours.Passes.{stands_on}
use Rattle.strip.proofs.Neighbours.NumberedPlaces.{Coming, event_quiet}
use Rattle.open_list.specs.OpenList.{CanLeave, CanEnter, HasLeft, Entered}
use Rattle.verticals.specs.Verticals.{Clears, VerticalStart, Unbroken}
use Rattle.verticals.proofs.Verticals.ClearOf.{clear_of_starting}
use Rattle.starts.specs.Starts.{CanStart}
use Rattle.meeting_sweep.specs.Events.{Past, ClearEvent}
use Rattle.meeting_sweep.proofs.Events.Sweeping.{Progress, rises-at, rising, end_x, coming, block_at, left_later, starts_later, earlier, column, progress_places}

module _ (d : Drawing) (flat : List ℕ) (faultless : Faultless d) (ends : Ordered d flat) (apart : NoneMeetWrongly d) where
  abbrev seg : ℕ → Segment
  seg = segment_at d

  abbrev at : ℕ → ℤ
  at t = (end_point d (get_or flat t 0)).x

  module _ {passed started passed' started' : ℕ} {l : List ℕ} (a : Progress d flat passed started l) (more : passed < length flat)
      (p : Past at passed (length flat) (at passed) passed') (q : Past (λ i. (end_point d i).x) started (length d) (at passed) started') where
    abbrev y : ℤ
    y = at passed

    abbrev block : List ℕ
    block = take (passed' - passed) (drop passed flat)

    come : Coming seg (length d) a.x y started started' l
    come = coming d flat faultless ends a more p q

    known : PlacesOf d l
    known = progress_places d flat faultless ends a

    over : (i : ℕ) → i ∈ l → Over a.x (seg i)
    over i m = (a.swept.list.mine i m).1

    inside : (v : ℕ) → v < started' → v < length d
    inside v h = omega (arith, q.till)

    upright : (v : ℕ) → v < started' → is_vertical (seg v) ≡ true → Upright (seg v)
    upright v h e = vertical_upright (rises-at d flat faultless ends v (inside v h)) e

    -- ---- what leaves
    -- what ends at y is open
    ending : (i : ℕ) → length d + i ∈ block → is_vertical (seg i) ≡ false → i ∈ l
    ending i m v = go (event_quiet seg (length d) (rises-at d flat faultless ends) come a.swept.list i known_i).0
      where
        i_inside : i < length d
        i_inside = let b = ends.below (length d + i) (in_drop passed flat (length d + i) (in_take (passed' - passed) (drop passed flat) (length d + i) m)) in omega arith

        known_i : i ∈ up_from 0 (length d)
        known_i = up_from_in i 0 (length d) (omega arith) (omega (arith, i_inside))

        ends_here : (seg i).b.x ≡ y
        ends_here = sym (end_x d flat faultless ends i) ∙ block_at d flat faultless ends a more p q (length d + i) m

        go : ((seg i).a.x ≤ℤ a.x) ⊎ (y ≤ℤ (seg i).a.x) → i ∈ l
        go (inl b) = a.swept.list.every i known_i (record { from = b; to = let r = ends_here in let g = come.later in omega ints })
        go (inr b) = absurd (let r = ends_here in let g = (not_vertical_wide (seg i) (rises-at d flat faultless ends i i_inside) v).goes in omega ints)

    leaving : CanLeave d block l
    leaving = record {
      x = a.x;
      spanning = record { apart = apart; across = λ i m. spans_on (over i m) };
      distinct = pairs_take (λ i j. i ≡ j → ⊥) (passed' - passed) (drop passed flat) (pairs_drop (λ i j. i ≡ j → ⊥) passed flat ends.distinct);
      in_list = ending;
    }

    -- ---- what starts
    module _ {between : List ℕ} (left : HasLeft d block l between) where
      stays : (i : ℕ) → i ∈ between → Over y (seg i)
      stays i m = record { from = let o = (over i (left.kept i m)).from in let g = come.later in omega ints; to = left_later d flat faultless ends a more p q left i m }

      starts : (i : ℕ) → started ≤ i → i < started' → is_vertical (seg i) ≡ false → Over y (seg i)
      starts i f t v = record { from = let s = come.here i f t in omega ints; to = starts_later d flat faultless ends a more p q i f t v }

      entering : CanEnter d started started' between
      entering = record {
        x = y;
        spanning = record { apart = apart; across = λ i m. spans_on (stays i m) };
        earlier = λ i m. earlier d flat faultless ends a more p q i (left.kept i m);
        starting = λ i f t v. spans_on (starts i f t v);
      }

      -- each list on the way is clear of the vertical segments
      clears : (m : ℕ) (l' : List ℕ) → m ≤ started' → Entered d started m between l' → Clears d started m l'
      clears m l' upto entered v f t e i n =
          let o = cases (stays i) (λ r. starts i r.0 (omega (arith, r.1)) r.2) (entered.mine i n) in
          let h = cases (λ k. known i (left.kept i k)) (λ r. inside i (omega (arith, r.1))) (entered.mine i n) in
          let s = come.here v f (omega arith) in let b = o.from in let c = o.to in let u = upright v (omega arith) e in
          clear_of_starting u (places_apart d apart v i (inside v (omega arith)) h (λ same. let g = (subst (λ (j : ℕ). Over y (seg j)) (sym same) o).to in let w = u.plumb in omega ints)) (omega ints) (omega ints)

      starting : CanStart d started started' between
      starting = record { entering = entering; clears = λ m l' f t e. clears m l' t e }

    -- ---- vertical segments on each other
    stack : (v w : ℕ) → started ≤ v → v < w → w < started' → is_vertical (seg v) ≡ true → is_vertical (seg w) ≡ true → (seg v).b.y ≤ℤ (seg w).a.y
    stack v w f h t e g =
        stands_on (upright v (omega arith) e) (upright w t g) level (places_apart d apart v w (omega (arith, q.till)) (inside w t) (λ same. omega arith)) (go (order (seg w).a.y (seg v).a.y))
      where
        level : (seg w).a.x ≡ (seg v).a.x
        level = come.here w (omega arith) t ∙ sym (come.here v f (omega arith))

        go : ((seg w).a.y <ℤ (seg v).a.y) ⊎ ((seg v).a.y ≤ℤ (seg w).a.y) → (seg v).a.y ≤ℤ (seg w).a.y
        go (inl l) = absurd (clash (before (inr (level, l))) (rising d flat faultless ends v w h (inside w t)))
        go (inr l) = l

    -- ---- vertical segments and the ends there
    starts_at : (v : ℕ) → v ∈ block → VerticalStart d v → (started ≤ v) × (v < started')
    starts_at v m s = go (dec_lt v started) (dec_lt v started')
      where
        at : (seg v).a.x ≡ y
        at = ap (λ (r : Point). r.x) (sym (end_a d v s.inside)) ∙ block_at d flat faultless ends a more p q v m

        go : Dec (v < started) → Dec (v < started') → (started ≤ v) × (v < started')
        go (yes b) c = absurd (let r = at in let g = come.later in let k = come.begun v b in omega ints)
        go (no b) (yes c) = (omega arith, c)
        go (no b) (no c) = absurd (let r = at in let k = come.after v (omega arith) s.inside in omega ints)

    -- an end of another segment is not strictly between v's
    not_within : (v : ℕ) → Upright (seg v) → v < length d → (i : ℕ) → i < length d → (o : Segment → Point) → ((k : Apart (seg v) (seg i)) → side (seg v) (o (seg i)) ≡ pos 0 → Between (seg v) (o (seg i)) → ⊥)
        → (o (seg i)).x ≡ (seg v).a.x → (((o (seg i)).y ≡ (seg v).a.y) ⊎ ((seg v).b.y ≡ (o (seg i)).y)) ⊎ (v ≡ i → ⊥) → ((o (seg i)).y ≤ℤ (seg v).a.y) ⊎ ((seg v).b.y ≤ℤ (o (seg i)).y)
    not_within v u hv i hi o on at (inl (inl e)) = inl (omega ints)
    not_within v u hv i hi o on at (inl (inr e)) = inr (omega ints)
    not_within v u hv i hi o on at (inr ne) = go (order (seg v).a.y (o (seg i)).y) (order (o (seg i)).y (seg v).b.y)
      where
        go : ((seg v).a.y <ℤ (o (seg i)).y) ⊎ ((o (seg i)).y ≤ℤ (seg v).a.y) → ((o (seg i)).y <ℤ (seg v).b.y) ⊎ ((seg v).b.y ≤ℤ (o (seg i)).y) → ((o (seg i)).y ≤ℤ (seg v).a.y) ⊎ ((seg v).b.y ≤ℤ (o (seg i)).y)
        go (inr h) k = inl h
        go (inl h) (inr k) = inr k
        go (inl h) (inl k) = absurd (on (places_apart d apart v i hv hi ne) (in_line u (o (seg i)) at) (inr (sym at, h), inr (at ∙ sym u.plumb, k)))

    unbroken : Unbroken d block
    unbroken = record {
      beside = λ v m s e n. let (f, t) = starts_at v m s in beside v f t s.vertical e n (dec_lt e (length d)) (ℕ_discrete v e);
      stack = λ v w m n s t ne. let (f, g) = starts_at v m s in let (f', g') = starts_at w n t in over v w f g f' g' s.vertical t.vertical ne (dec_lt v w);
    }
      where
        beside : (v : ℕ) → started ≤ v → v < started' → is_vertical (seg v) ≡ true → (e : ℕ) → e ∈ block → Dec (e < length d) → Dec (v ≡ e)
            → ((end_point d e).y ≤ℤ (seg v).a.y) ⊎ ((seg v).b.y ≤ℤ (end_point d e).y)
        beside v f t w e m (yes h) same =
            let is = end_a d e h in
            let at = ap (λ (r : Point). r.x) (sym is) ∙ block_at d flat faultless ends a more p q e m ∙ sym (come.here v f t) in
            subst (λ (r : Point). (r.y ≤ℤ (seg v).a.y) ⊎ ((seg v).b.y ≤ℤ r.y)) (sym is) (not_within v (upright v t w) (inside v t) e h (λ s. s.a) (λ k. k.on_a) at (own same))
          where
            own : Dec (v ≡ e) → (((seg e).a.y ≡ (seg v).a.y) ⊎ ((seg v).b.y ≡ (seg e).a.y)) ⊎ (v ≡ e → ⊥)
            own (yes r) = inl (inl (ap (λ (k : ℕ). (seg k).a.y) (sym r)))
            own (no r) = inr r
        beside v f t w e m (no h) same =
            let i = e - length d in
            let is = end_b d e (omega arith) in
            let known : i < length d = let b = (column d flat faultless ends a more p q).known e m in omega arith in
            let at = ap (λ (r : Point). r.x) (sym is) ∙ block_at d flat faultless ends a more p q e m ∙ sym (come.here v f t) in
            subst (λ (r : Point). (r.y ≤ℤ (seg v).a.y) ⊎ ((seg v).b.y ≤ℤ r.y)) (sym is) (not_within v (upright v t w) (inside v t) i known (λ s. s.b) (λ k. k.on_b) at (own (ℕ_discrete v i)))
          where
            own : Dec (v ≡ e - length d) → (((seg (e - length d)).b.y ≡ (seg v).a.y) ⊎ ((seg v).b.y ≡ (seg (e - length d)).b.y)) ⊎ (v ≡ e - length d → ⊥)
            own (yes r) = inl (inr (ap (λ (k : ℕ). (seg k).b.y) r))
            own (no r) = inr r

        over : (v w : ℕ) → started ≤ v → v < started' → started ≤ w → w < started' → is_vertical (seg v) ≡ true → is_vertical (seg w) ≡ true → (v ≡ w → ⊥) → Dec (v < w)
            → ((seg v).b.y ≤ℤ (seg w).a.y) ⊎ ((seg w).b.y ≤ℤ (seg v).a.y)
        over v w f g f' g' s t ne (yes h) = inl (stack v w f h g' s t)
        over v w f g f' g' s t ne (no h) = inr (stack w v f' (omega arith) g t s)

    pub clear_event : ClearEvent d block started started' l
    clear_event = record { unbroken = unbroken; leaving = leaving; starting = λ between left. starting left }
