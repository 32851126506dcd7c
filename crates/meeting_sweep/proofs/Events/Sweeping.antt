-- The sweep from event to event: what the code tests at an x carries what is known of the strips and the vertical segments before it over to the strips after it.
use mathlib.Core.Path.{◌≡◌, sym, ◌∙◌, ap, subst}
use mathlib.Core.List.{List, []}
use mathlib.Core.Logic.{◌⊎◌, inl, inr}
use mathlib.Core.Bool.{true, false}
use Prim.Native.Nat.{ℕ, suc, ◌+◌, ◌-◌, ◌≤◌, ◌<◌}
use native.Mathlib.Omega.{arith}
use native.Mathlib.Decide.{dec_lt}
use lib.ListN.{length, get_or, take, drop, length-drop}
use lib.Seq.{get_or-take, get_or-drop, length-take-le}
use lib.IntN.{ℤ, pos, neg_ℤ}
use lib.Signed.{◌≤ℤ◌, ◌<ℤ◌, ≤ℤ_refl}
use Rattle.integers.proofs.Booleans.{clash}
use Rattle.integers.proofs.Linear.{ints, of_pos, of_neg, of_abs}
use Rattle.integers.proofs.Order.{order}
use Rattle.geom.specs.declared.Point.{Point}
use Rattle.geom.specs.Points.{lt_p, in_range}
use Rattle.geom.proofs.Points.{near_x, Before, before, not_before, before_le, lt_p-true, not_less_x}
use Rattle.segm.specs.declared.Segment.{Segment}
use Rattle.lists.specs.Members.{◌∈◌}
use Rattle.lists.specs.UpFrom.{up_from}
use Rattle.segm.specs.Segments.{Drawing, segment_at, nowhere}
use Rattle.lists.proofs.Members.{Stands, stands, pairs_of, pairs_places, pairs_map, pairs_take, pairs_drop, in_after, in_at, in_take, in_drop, cases}
use Rattle.lists.proofs.UpFrom.{in_up_from, up_from_in}
use Rattle.ends.specs.Ends.{end_point}
use Rattle.ends.proofs.Ends.{end_a, end_b, end_near}
use Rattle.graph.proofs.Flat.{Ordered}
use Rattle.meetings.specs.Meetings.{meets_wrongly, NoneMeetWrongly}
use Rattle.strip.specs.Strip.{is_vertical}
use Rattle.strip.proofs.Strip.Apart.{Over, over_wide}
use Rattle.strip.proofs.Strip.Gap.{side-at_a, side-at_b}
use Rattle.strip.proofs.Strip.Above.{spans_on, spans-over}
use Rattle.strip.proofs.Strip.Vertical.{vertical_by, not_vertical_by, not_vertical_wide, not_vertical_ends, wide_not_vertical}
use Rattle.faults.specs.Faultless.{Faultless}
use Rattle.faults.proofs.Faultless.{proper_at}
use Rattle.strip.specs.Neighbours.{PlacesOf, Distinct, Passes}
use Rattle.strip.proofs.Neighbours.StripList.{StripList, strip_distinct}
use Rattle.strip.proofs.Neighbours.Event.{SweptTo, gap_passes_after}
use Rattle.strip.proofs.Neighbours.NumberedPlaces.{Coming, Tested, first_event, event_list, next_event, last_event}
use Rattle.strip.proofs.Neighbours.Upright.{Upright}
use Rattle.strip.proofs.Neighbours.Passes.{passes_under, passes_above, passes_through}
use Rattle.count_up.specs.CountUp.{OpenAt}
use Rattle.count_up.proofs.CountUp.{open_strip_list}
use Rattle.open_list.specs.OpenList.{HasLeft}
use Rattle.verticals.specs.Verticals.{VerticalStart, Column}
use Rattle.starts.specs.Starts.{Splits, Gapped}
use Rattle.starts.proofs.Starts.Nodes.{rise}
use Rattle.starts.proofs.Starts.Entering.{entered_open}
use Rattle.meeting_sweep.specs.Events.{Past, Happened}

-- of two points at one x the later is the higher
not_higher : {p q : Point} → q.x ≡ p.x → Before p q → q.y ≤ℤ p.y → ⊥
not_higher e (inl b) k = omega ints
not_higher e (inr (b, c)) k = omega ints

-- ---- a drawing with its ordered ends
module _ (d : Drawing) (flat : List ℕ) where
  abbrev seg : ℕ → Segment
  seg = segment_at d

  -- the x of the end at a place of the ordered ends
  abbrev at : ℕ → ℤ
  at t = (end_point d (get_or flat t 0)).x

  -- how far the sweep is: x is the last event, so many ends were passed and so many segments have started, and l are open
  pub record Progress (passed started : ℕ) (l : List ℕ) : Type 0 where
    pub x : ℤ
    pub swept : SweptTo seg (up_from 0 (length d)) x l
    pub begun : (i : ℕ) → i < started → (seg i).a.x ≤ℤ x
    pub waiting : (i : ℕ) → started ≤ i → i < length d → x <ℤ (seg i).a.x
    pub behind : (t : ℕ) → t < passed → at t ≤ℤ x
    pub ahead : (t : ℕ) → passed ≤ t → t < length flat → x <ℤ at t

  module _ (faultless : Faultless d) (ends : Ordered d flat) where
    pub rises-at : (i : ℕ) → i < length d → Before (seg i).a (seg i).b
    rises-at i h = lt_p-true (proper_at faultless i h).rises

    rises : (t u : ℕ) → t ≤ u → u < length flat → at t ≤ℤ at u
    rises t u h k = go (dec_lt t u)
      where
        go : Dec (t < u) → at t ≤ℤ at u
        go (yes l) = not_less_x _ _ (pairs_places (λ x y. lt_p (end_point d y) (end_point d x) ≡ false) flat 0 ends.rise t (omega arith) (get_or flat u 0) (in_after flat 0 t u l k))
        go (no l) = let e : t ≡ u = omega arith in subst (λ (v : ℕ). at t ≤ℤ at v) e (≤ℤ_refl (at t))

    pub rising : (i j : ℕ) → i < j → j < length d → lt_p (seg j).a (seg i).a ≡ false
    rising i j h k = rise faultless i j (omega arith) k

    starts_rise : (i j : ℕ) → i ≤ j → j < length d → (seg i).a.x ≤ℤ (seg j).a.x
    starts_rise i j h k = go (dec_lt i j)
      where
        go : Dec (i < j) → (seg i).a.x ≤ℤ (seg j).a.x
        go (yes l) = not_less_x _ _ (rising i j l k)
        go (no l) = let e : i ≡ j = omega arith in subst (λ (m : ℕ). (seg i).a.x ≤ℤ (seg m).a.x) e (≤ℤ_refl (seg i).a.x)

    -- where the ends of a segment stand among the ordered ends
    start_stands : (i : ℕ) → i < length d → Stands flat 0 i
    start_stands i h = stands flat 0 i (ends.has i (omega arith))

    end_stands : (i : ℕ) → i < length d → Stands flat 0 (length d + i)
    end_stands i h = stands flat 0 (length d + i) (ends.has (length d + i) (omega arith))

    at_start : (i : ℕ) (h : i < length d) → at (start_stands i h).place ≡ (seg i).a.x
    at_start i h = ap (λ (e : ℕ). (end_point d e).x) (start_stands i h).is ∙ ap (λ (p : Point). p.x) (end_a d i h)

    end_y : (i : ℕ) → (end_point d (length d + i)).y ≡ (seg i).b.y
    end_y i = let e : length d + i - length d ≡ i = omega arith in ap (λ (p : Point). p.y) (end_b d (length d + i) (omega arith)) ∙ ap (λ (k : ℕ). (seg k).b.y) e

    pub end_x : (i : ℕ) → (end_point d (length d + i)).x ≡ (seg i).b.x
    end_x i = let e : length d + i - length d ≡ i = omega arith in ap (λ (p : Point). p.x) (end_b d (length d + i) (omega arith)) ∙ ap (λ (k : ℕ). (seg k).b.x) e

    at_end : (i : ℕ) (h : i < length d) → at (end_stands i h).place ≡ (seg i).b.x
    at_end i h = ap (λ (e : ℕ). (end_point d e).x) (end_stands i h).is ∙ end_x i

    -- ---- before the first event
    far : ℤ
    far = neg_ℤ (pos 16777217)

    beyond : (p : Point) → in_range p ≡ true → far <ℤ p.x
    unfolding far
    beyond p e = omega (ints, near_x p e, of_abs p.x, of_neg (pos 16777217), of_pos 16777217)

    pub progress_first : Progress 0 0 []
    progress_first = record {
      x = far;
      swept = first_event seg (length d) rises-at (λ i h. beyond (seg i).a (proper_at faultless i h).near_a);
      begun = λ i h. absurd (omega arith);
      waiting = λ i h k. beyond (seg i).a (proper_at faultless i k).near_a;
      behind = λ t h. absurd (omega arith);
      ahead = λ t h k. beyond (end_point d (get_or flat t 0)) (end_near d faultless (get_or flat t 0) (ends.below (get_or flat t 0) (in_at flat 0 t k)));
    }

    -- ---- one event
    module _ {passed started passed' started' : ℕ} {l : List ℕ} (a : Progress passed started l) (more : passed < length flat)
        (p : Past at passed (length flat) (at passed) passed') (q : Past (λ i. (end_point d i).x) started (length d) (at passed) started') where
      abbrev y : ℤ
      y = at passed

      later : a.x <ℤ y
      later = a.ahead passed (omega arith) more

      -- an end after x is at y or after it
      not_behind : (t : ℕ) → t < length flat → a.x <ℤ at t → passed ≤ t
      not_behind t k g = go (dec_lt t passed)
        where
          go : Dec (t < passed) → passed ≤ t
          go (yes m) = absurd (let b = a.behind t m in omega ints)
          go (no m) = omega arith

      next : (t : ℕ) → t < length flat → a.x <ℤ at t → y ≤ℤ at t
      next t k g = rises passed t (not_behind t k g) k

      next_start : (i : ℕ) → i < length d → a.x <ℤ (seg i).a.x → y ≤ℤ (seg i).a.x
      next_start i k g = let s = start_stands i k in let e = at_start i k in let m = next s.place s.inside (omega ints) in omega ints

      next_end_lem : (i : ℕ) → i < length d → a.x <ℤ (seg i).b.x → y ≤ℤ (seg i).b.x
      next_end_lem i k g = let s = end_stands i k in let e = at_end i k in let m = next s.place s.inside (omega ints) in omega ints

      here_starts : (i : ℕ) → started ≤ i → i < started' → (seg i).a.x ≡ y
      here_starts i k m = ap (λ (r : Point). r.x) (sym (end_a d i (omega (arith, q.till)))) ∙ q.here i k m

      after_starts : (i : ℕ) → started' ≤ i → i < length d → y <ℤ (seg i).a.x
      after_starts i k m = go (order y (seg started').a.x)
        where
          first : started' < length d
          first = omega arith

          go : (y <ℤ (seg started').a.x) ⊎ ((seg started').a.x ≤ℤ y) → y <ℤ (seg i).a.x
          go (inl g) = let r = starts_rise started' i k m in omega ints
          go (inr g) =
              let n = next_start started' first (a.waiting started' q.from first) in
              let e : (seg started').a.x ≡ y = omega ints in
              absurd (q.past first (ap (λ (r : Point). r.x) (end_a d started' first) ∙ e))

      after_ends : (t : ℕ) → passed' ≤ t → t < length flat → y <ℤ at t
      after_ends t k m = go (order y (at passed'))
        where
          go : (y <ℤ at passed') ⊎ (at passed' ≤ℤ y) → y <ℤ at t
          go (inl g) = let r = rises passed' t k m in omega ints
          go (inr g) = let n = rises passed passed' p.from (omega arith) in let e : at passed' ≡ y = omega ints in absurd (p.past (omega arith) e)

      mine : (i : ℕ) → i ∈ l → i < length d
      mine i m = let k = (in_up_from i 0 (length d) (a.swept.list.mine i m).0).1 in omega arith

      pub coming : Coming seg (length d) a.x y started started' l
      coming = record {
        later = later;
        fits = q.till;
        begun = a.begun;
        here = here_starts;
        after = after_starts;
        ends = λ i m. next_end_lem i (mine i m) (a.swept.list.mine i m).1.to;
      }

      -- the ends at y
      abbrev block : List ℕ
      block = take (passed' - passed) (drop passed flat)

      length_block : length block ≡ passed' - passed
      length_block = length-take-le (passed' - passed) (drop passed flat) (omega (arith, length-drop passed flat, p.till))

      block_is : (k : ℕ) → k < passed' - passed → get_or block k 0 ≡ get_or flat (passed + k) 0
      block_is k g = get_or-take (passed' - passed) (drop passed flat) k 0 g ∙ get_or-drop passed flat k 0

      pub block_at : (e : ℕ) → e ∈ block → (end_point d e).x ≡ y
      block_at e m =
          let s = stands block 0 e m in
          let k : s.place < passed' - passed = omega (arith, s.inside, length_block) in
          ap (λ (f : ℕ). (end_point d f).x) (sym s.is ∙ block_is s.place k) ∙ p.here (passed + s.place) (omega arith) (omega arith)

      -- an end at y is one of them
      in_block : (t : ℕ) → t < length flat → at t ≡ y → get_or flat t 0 ∈ block
      in_block t inside there = go (dec_lt t passed')
        where
          from : passed ≤ t
          from = let r = there in let g = later in not_behind t inside (omega ints)

          is : passed + (t - passed) ≡ t
          is = omega (arith, from)

          go : Dec (t < passed') → get_or flat t 0 ∈ block
          go (no g) = absurd (let r = there in let f = after_ends t (omega arith) inside in omega ints)
          go (yes g) =
              let u : t - passed < passed' - passed = omega (arith, from) in
              subst (λ (f : ℕ). f ∈ block) (block_is (t - passed) u ∙ ap (λ (v : ℕ). get_or flat v 0) is) (in_at block 0 (t - passed) (omega (arith, length_block)))

      pub end_in : (i : ℕ) → i < length d → (seg i).b.x ≡ y → length d + i ∈ block
      end_in i k e = let s = end_stands i k in subst (λ (f : ℕ). f ∈ block) s.is (in_block s.place s.inside (at_end i k ∙ e))

      -- ---- the list after it
      -- what was open and is left ends later
      pub left_later : {m : List ℕ} → HasLeft d block l m → (i : ℕ) → i ∈ m → y <ℤ (seg i).b.x
      left_later left i n = go (order y (seg i).b.x)
        where
          k : i ∈ l
          k = left.kept i n

          over : Over a.x (seg i)
          over = (a.swept.list.mine i k).1

          go : (y <ℤ (seg i).b.x) ⊎ ((seg i).b.x ≤ℤ y) → y <ℤ (seg i).b.x
          go (inl g) = g
          go (inr g) =
              let e : (seg i).b.x ≡ y = let f = next_end_lem i (mine i k) over.to in omega ints in
              absurd (left.gone i (end_in i (mine i k) e) (wide_not_vertical (seg i) (over_wide over)) n)

      -- so does what starts there and is not vertical
      pub starts_later : (i : ℕ) → started ≤ i → i < started' → is_vertical (seg i) ≡ false → y <ℤ (seg i).b.x
      starts_later i f t v = go (order y (seg i).b.x)
        where
          go : (y <ℤ (seg i).b.x) ⊎ ((seg i).b.x ≤ℤ y) → y <ℤ (seg i).b.x
          go (inl g) = g
          go (inr g) = absurd (not_vertical_ends (seg i) v (let b = before_le (rises-at i (omega (arith, t, q.till))) in let r = here_starts i f t in omega ints))

      -- what is open started before
      pub earlier : (i : ℕ) → i ∈ l → i < started
      earlier i m = go (dec_lt i started)
        where
          go : Dec (i < started) → i < started
          go (yes u) = u
          go (no u) = absurd (let w = a.waiting i (omega arith) (mine i m) in let f = (a.swept.list.mine i m).1.from in omega ints)

      -- the list of strip y, before any has started there
      pub left_open : {m : List ℕ} → HasLeft d block l m → OpenAt d started y m
      left_open {m} left = record {
        order = left.order;
        mine = λ i n. (earlier i (left.kept i n), spans_on (record { from = let o = (a.swept.list.mine i (left.kept i n)).1.from in let g = later in omega ints; to = left_later left i n }));
        every = λ i u s. stays i (spans-over s) (left.rest i (open_before i u (spans-over s)));
      }
        where
          open_before : (i : ℕ) → i < started → Over y (seg i) → i ∈ l
          open_before i u o =
              let f = q.from in let t = q.till in
              a.swept.list.every i (up_from_in i 0 (length d) (omega arith) (omega arith)) (record { from = a.begun i u; to = let g = later in let t = o.to in omega ints })

          stays : (i : ℕ) → Over y (seg i) → (i ∈ m) ⊎ (length d + i ∈ block) → i ∈ m
          stays i o (inl n) = n
          stays i o (inr n) = absurd (let e = end_x i in let r = block_at (length d + i) n in let t = o.to in omega ints)

      -- those that have started, and those that start at y, start before those that come later
      pub splits_before : Splits d started
      splits_before i j h k m = before (inl (let b = a.begun i h in let w = a.waiting j k m in omega ints))

      pub splits_after : Splits d started'
      splits_after i j h k m = before (inl (let w = after_starts j k m in go_start i h w (dec_lt i started)))
        where
          go_start : (i : ℕ) → i < started' → y <ℤ (seg j).a.x → Dec (i < started) → (seg i).a.x <ℤ (seg j).a.x
          go_start i h w (yes u) = let b = a.begun i u in let g = later in omega ints
          go_start i h w (no u) = let e = here_starts i (omega arith) h in omega ints

      -- the ends at y, in order of their height
      pub column : Column d block
      column = record {
        known = λ e m. ends.below e (in_drop passed flat e (in_take (passed' - passed) (drop passed flat) e m));
        rise = pairs_map {R = λ e f. lt_p (end_point d f) (end_point d e) ≡ false} block (λ e f m n h. not_lower (block_at e m ∙ sym (block_at f n)) h) (pairs_take (λ e f. lt_p (end_point d f) (end_point d e) ≡ false) (passed' - passed) (drop passed flat) (pairs_drop (λ e f. lt_p (end_point d f) (end_point d e) ≡ false) passed flat ends.rise));
        distinct = pairs_take (λ e f. e ≡ f → ⊥) (passed' - passed) (drop passed flat) (pairs_drop (λ e f. e ≡ f → ⊥) passed flat ends.distinct);
      }
        where
          not_lower : {p r : Point} → p.x ≡ r.x → lt_p r p ≡ false → p.y ≤ℤ r.y
          not_lower {p} {r} e h = go (order r.y p.y)
            where
              go : (r.y <ℤ p.y) ⊎ (p.y ≤ℤ r.y) → p.y ≤ℤ r.y
              go (inl l) = absurd (clash (before (inr (sym e, l))) h)
              go (inr l) = l

      pub start_in : (i : ℕ) → i < length d → (seg i).a.x ≡ y → i ∈ block
      start_in i k e = let s = start_stands i k in subst (λ (f : ℕ). f ∈ block) s.is (in_block s.place s.inside (at_start i k ∙ e))

      module _ {l' : List ℕ} {tops tops' : List ℤ} (h : Happened d (take (passed' - passed) (drop passed flat)) started started' l l' tops tops') where
        stays : (i : ℕ) → i ∈ l' → (y <ℤ (seg i).b.x) × ((i ∈ l) ⊎ ((started ≤ i) × (i < started')))
        stays i m = cases (λ n. (left_later h.left i n, inl (h.left.kept i n))) (λ o. (starts_later i o.0 o.1 o.2, inr (o.0, o.1))) (h.started.entered.mine i m)

        comes : (i : ℕ) → y <ℤ (seg i).b.x → (i ∈ l) ⊎ ((started ≤ i) × (i < started')) → i ∈ l'
        comes i g (inl m) = cases (h.started.entered.kept i) (λ n. absurd (let e = end_x i in let r = block_at (length d + i) n in omega ints)) (h.left.rest i m)
        comes i g (inr (f, t)) = h.started.entered.came i f t (not_vertical_by (seg i) (λ e. let r = here_starts i f t in omega ints))

        strip_list : StripList seg (up_from 0 (length d)) y l'
        strip_list = event_list seg (length d) rises-at coming a.swept.list h.started.entered.order stays comes

        -- ---- the vertical ones
        module _ (v : ℕ) (f : started ≤ v) (t : v < started') (u : Upright (seg v)) where
          inside : v < length d
          inside = omega (arith, q.till)

          at_y : (seg v).a.x ≡ y
          at_y = here_starts v f t

          foot : VerticalStart d v
          foot = record { inside = inside; vertical = vertical_by (seg v) (sym u.plumb) }

          gap : Gapped d started started' h.between v
          gap = h.started.gaps v f t foot.vertical

          -- the list as it was when v's node was complete: all of it pass v with their starts
          partly : OpenAt d gap.m y gap.between
          partly = entered_open faultless (omega (arith, gap.own)) (omega (arith, gap.till, q.till)) (left_open h.left) (λ i g k. here_starts i g (omega (arith, gap.till))) gap.entered

          passed_by : (i : ℕ) → i ∈ gap.between → Passes (λ s. s.a) (seg v) (seg i)
          passed_by = gap_passes_after seg (up_from 0 gap.m) u (open_strip_list d gap.m (subst (λ z. OpenAt d gap.m z gap.between) (sym at_y) partly)) 0 gap.in_gap

          beside : (e : ℕ) → e ∈ block → ((end_point d e).y ≤ℤ (seg v).a.y) ⊎ ((seg v).b.y ≤ℤ (end_point d e).y)
          beside = h.unbroken.beside v (start_in v inside at_y) foot

          before_passes : (i : ℕ) → i ∈ l → Passes (λ s. s.b) (seg v) (seg i)
          before_passes i m = cases stays_on ends_here (h.left.rest i m)
            where
              over : Over a.x (seg i)
              over = (a.swept.list.mine i m).1

              stays_on : i ∈ h.between → Passes (λ s. s.b) (seg v) (seg i)
              stays_on n = passes_through (λ s. s.b) u (let g = later in let o = over.from in let r = at_y in omega ints) (passed_by i (gap.entered.kept i n))

              ends_here : length d + i ∈ block → Passes (λ s. s.b) (seg v) (seg i)
              ends_here n =
                  let at : (seg i).b.x ≡ (seg v).a.x = sym (end_x i) ∙ block_at (length d + i) n ∙ sym at_y in
                  let height : (end_point d (length d + i)).y ≡ (seg i).b.y = end_y i in
                  cases (λ k. inl (passes_under (λ s. s.b) u (over_wide over) at (side-at_b (seg i)) (omega ints))) (λ k. inr (passes_above (λ s. s.b) u (over_wide over) at (side-at_b (seg i)) (omega ints))) (beside (length d + i) n)

          after_passes : (i : ℕ) → i ∈ l' → Passes (λ s. s.a) (seg v) (seg i)
          after_passes i m = cases (λ n. passed_by i (gap.entered.kept i n)) (λ o. came_later o.0 o.1 o.2 (dec_lt i gap.m)) (h.started.entered.mine i m)
            where
              came_later : started ≤ i → i < started' → is_vertical (seg i) ≡ false → Dec (i < gap.m) → Passes (λ s. s.a) (seg v) (seg i)
              came_later g k s (yes b) = passed_by i (gap.entered.came i g b s)
              came_later g k s (no b) =
                  let known : i < length d = omega (arith, q.till) in
                  let at : (seg i).a.x ≡ (seg v).a.x = here_starts i g k ∙ sym at_y in
                  let height : (end_point d i).y ≡ (seg i).a.y = ap (λ (p : Point). p.y) (end_a d i known) in
                  let wide = not_vertical_wide (seg i) (rises-at i known) s in
                  let higher = gap.splits v i gap.own (omega arith) known in
                  cases (λ r. absurd (clash (higher) (not_before (λ b. not_higher at b (omega ints))))) (λ r. inr (passes_above (λ s. s.a) u wide at (side-at_a (seg i)) (omega ints))) (beside i (start_in i known (here_starts i g k)))

        tested : Tested seg y started started' l l'
        tested = record {
          before = before_passes;
          after = after_passes;
          stack = λ v w f t f' t' u o ne. h.unbroken.stack v w (start_in v (inside v f t u) (at_y v f t u)) (start_in w (inside w f' t' o) (at_y w f' t' o)) (foot v f t u) (foot w f' t' o) ne;
        }

        pub progress_next : Progress passed' started' l'
        progress_next = record {
          x = y;
          swept = next_event seg (length d) rises-at coming a.swept strip_list tested;
          begun = λ i k. go_begun i k (dec_lt i started);
          waiting = after_starts;
          behind = λ t k. go_behind t k (dec_lt t passed);
          ahead = after_ends;
        }
          where
            go_begun : (i : ℕ) → i < started' → Dec (i < started) → (seg i).a.x ≤ℤ y
            go_begun i k (yes g) = let b = a.begun i g in let m = later in omega ints
            go_begun i k (no g) = let e = here_starts i (omega arith) k in omega ints

            go_behind : (t : ℕ) → t < passed' → Dec (t < passed) → at t ≤ℤ y
            go_behind t k (yes g) = let b = a.behind t g in let m = later in omega ints
            go_behind t k (no g) = let e = p.here t (omega arith) k in omega ints

    -- ---- what is known of the list
    module _ {passed started : ℕ} {l : List ℕ} (a : Progress passed started l) where
      pub progress_places : PlacesOf d l
      progress_places i m = let k = (in_up_from i 0 (length d) (a.swept.list.mine i m).0).1 in omega arith

      pub progress_distinct : Distinct l
      progress_distinct = strip_distinct seg (up_from 0 (length d)) a.swept.list

      -- all ends were passed: so all have started, and none meet wrongly
      pub all_started : length flat ≤ passed → (i : ℕ) → i < length d → i < started
      all_started h i u = go (dec_lt i started)
        where
          go : Dec (i < started) → i < started
          go (yes n) = n
          go (no n) = let s = start_stands i u in let e = at_start i u in let b = a.behind s.place (omega (arith, s.inside)) in let w = a.waiting i (omega arith) u in absurd (omega ints)

      pub progress_last : length flat ≤ passed → NoneMeetWrongly d
      unfolding segment_at
      progress_last h = pairs_of (λ s t. meets_wrongly s t ≡ false) d nowhere each
        where
          done : (i : ℕ) → i < length d → (seg i).b.x ≤ℤ a.x
          done i k = let s = end_stands i k in subst (λ z. z ≤ℤ a.x) (at_end i k) (a.behind s.place (omega (arith, s.inside)))

          each : (i : ℕ) → i < length d → (t : Segment) → t ∈ drop (suc i) d → meets_wrongly (get_or d i nowhere) t ≡ false
          each i k t m =
              let s = stands (drop (suc i) d) nowhere t m in
              let j = suc i + s.place in
              let e : get_or d j nowhere ≡ t = sym (get_or-drop (suc i) d s.place nowhere) ∙ s.is in
              let g : j < length d = omega (arith, s.inside, length-drop (suc i) d) in
              subst (λ (u : Segment). meets_wrongly (get_or d i nowhere) u ≡ false) e (last_event seg (length d) rises-at a.swept done i j k g (λ f. omega arith))
