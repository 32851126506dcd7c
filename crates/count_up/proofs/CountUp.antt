-- The laws of counts by the lists: the list of a strip as the neighbours' laws have it; those that start at one point stand side by side in it; and counts
-- written up a stretch.
use mathlib.Core.List.{List, [], ◌∷◌, ◌++◌, append_assoc, append-nil}
use mathlib.Core.Path.{◌≡◌, refl, sym, ◌∙◌, subst, ap}
use mathlib.Core.Logic.{inl, ◌⊎◌, inr}
use mathlib.Core.Bool.{true}
use Prim.Native.Nat.{ℕ, ◌<◌, suc, ◌+◌, ◌-◌, ◌*◌, ◌≤◌}
use native.Mathlib.Omega.{arith}
use native.Mathlib.Decide.{dec_lt, ℕ_discrete}
use native.Mathlib.Numerals.{add-one}
use lib.IntN.{ℤ, pos, nat_abs, ◌+ℤ◌}
use lib.ListN.{length, get_or, take, drop, set, length-set, length-take, length-drop}
use lib.Seq.{drop-cons, get_or-set_same, get_or-set_other, set_out}
use Rattle.integers.proofs.Linear.{ints}
use Rattle.integers.proofs.Order.{abs-+}
use Rattle.lists.specs.Members.{◌∈◌, Pairs}
use Rattle.lists.specs.UpFrom.{up_from}
use Rattle.lists.proofs.UpFrom.{in_up_from, up_from_in}
use Rattle.lists.proofs.Members.{in_at, in_after, pairs_places, in_take, in_drop, in_right}
use Rattle.geom.specs.declared.Point.{Point}
use Rattle.geom.specs.Points.{lt_p}
use Rattle.segm.specs.Segments.{Drawing, segment_at}
use Rattle.segm.specs.declared.Segment.{Segment}
use Rattle.faults.specs.Faultless.{Faultless}
use Rattle.faults.proofs.Faultless.{winding_at}
use Rattle.meetings.specs.Meetings.{side}
use Rattle.strip.specs.Strip.{gap}
use Rattle.strip.specs.Neighbours.{PlacesOf, Distinct}
use Rattle.strip.proofs.Strip.Apart.{Over, Wide, wide, over_wide}
use Rattle.strip.proofs.Strip.Above.{spans_on, spans-over}
use Rattle.strip.proofs.Strip.Tiers.{Tier}
use Rattle.strip.proofs.Neighbours.StripList.{StripList, strip_tiers}
use Rattle.strip.proofs.Strip.Signs.{Sign, minus, nil, plus, sign, up_nil, down_nil, join_both, join_l}
use Rattle.strip.proofs.Strip.Gap.{gap-at_a, gap_trans, side_own_a}
use Rattle.strip.proofs.Neighbours.Upright.{end_at}
use Rattle.count_up.specs.CountUp.{OpenAt, last_of, last_in, count_up, Counts, BoundedBy, CountsWritten, Climbed}

-- ---- the list of a strip
pub open_strip_list : (d : Drawing) (m : ℕ) {x : ℤ} {l : List ℕ} → OpenAt d m x l → StripList (segment_at d) (up_from 0 m) x l
open_strip_list d m h = record {
  chain = h.order;
  mine = λ i n. (up_from_in i 0 m (omega arith) (let b = (h.mine i n).0 in omega arith), spans-over (h.mine i n).1);
  every = λ i n o. h.every i (let b = (in_up_from i 0 m n).1 in omega arith) (spans_on o);
}

module _ {d : Drawing} {m : ℕ} {x : ℤ} {l : List ℕ} (h : OpenAt d m x l) where
  pub open_over : (i : ℕ) → i ∈ l → Over x (segment_at d i)
  open_over i n = spans-over (h.mine i n).1

  pub open_tiers : Pairs (λ i j. Tier x (segment_at d i) (segment_at d j)) l
  open_tiers = strip_tiers (segment_at d) (up_from 0 m) (open_strip_list d m h)

-- ---- those that start at one point stand side by side in the list: what stands between two of them starts there too
module _ (p : Point) {s t u : Segment} (ws : Wide s) (wt : Wide t) (wu : Wide u) (lo : Tier p.x s t) (hi : Tier p.x t u) (es : s.a ≡ p) (eu : u.a ≡ p) where
  meet : gap s u p.x ≡ pos 0
  meet = subst (λ (q : Point). gap s u q.x ≡ pos 0) es (up_nil (wide ws) (gap-at_a s u) (subst (λ (q : Point). side u q ≡ pos 0) (eu ∙ sym es) (side_own_a u)))

  pub starts_between : t.a ≡ p
  starts_between = go (sign (gap s t p.x)) (sign (gap t u p.x))
    where
      go : Sign (gap s t p.x) → Sign (gap t u p.x) → t.a ≡ p
      go (nil m) n = end_at (λ i. i.a) (λ i. inl refl) wt (lo.left.level m).1
          (subst (λ (q : Point). side t q ≡ pos 0) es (down_nil (wide ws) (gap-at_a s t) (subst (λ (q : Point). gap s t q.x ≡ pos 0) (sym es) m)))
      go (minus m) (minus n) = absurd (let k = join_both (wide wt) (wide wu) (wide ws) (gap_trans s t u p.x) m n in let e = meet in omega ints)
      go (minus m) (nil n) = absurd (let k = join_l (wide wt) (wide wu) (wide ws) (gap_trans s t u p.x) m n in let e = meet in omega ints)
      go (minus m) (plus n) = absurd (let k = hi.left.low in omega ints)
      go (plus m) n = absurd (let k = lo.left.low in omega ints)

-- by place
pub node_places : {d : Drawing} {m : ℕ} (p : Point) {l : List ℕ} → OpenAt d m p.x l → (i j k : ℕ) → i < j → j < k → k < length l
    → (segment_at d (get_or l i 0)).a ≡ p → (segment_at d (get_or l k 0)).a ≡ p → (segment_at d (get_or l j 0)).a ≡ p
node_places {d} p {l} h i j k ij jk kl ei ek = starts_between p (wide_at i (omega arith)) (wide_at j (omega arith)) (wide_at k kl) (tier i j ij (omega arith)) (tier j k jk kl) ei ek
  where
    wide_at : (a : ℕ) → a < length l → Wide (segment_at d (get_or l a 0))
    wide_at a u = over_wide (open_over h (get_or l a 0) (in_at l 0 a u))

    tier : (a b : ℕ) → a < b → b < length l → Tier p.x (segment_at d (get_or l a 0)) (segment_at d (get_or l b 0))
    tier a b ab bl = pairs_places (λ a b. Tier p.x (segment_at d a) (segment_at d b)) l 0 (open_tiers h) a (omega arith) (get_or l b 0) (in_after l 0 a b ab bl)

-- ---- counts written up a stretch of the list: every one there gets its own, and no other place changes
-- what holds at all places but one, and at that
pub but_one : (P : ℕ → Type 0) (k n : ℕ) → Dec (k ≡ n) → ((k ≡ n → ⊥) → P k) → P n → P k
but_one P k n (yes e) rest new = subst P (sym e) new
but_one P k n (no e) rest new = rest e

pub last_of_lem : (count : ℕ → ℤ) (l : List ℕ) (h : ℕ) → last_of count (l ++ (h ∷ [])) ≡ count h
unfolding last_of
last_of_lem count [] h = refl
last_of_lem count (i ∷ []) h = refl
last_of_lem count (i ∷ (j ∷ l)) h = last_of_lem count (j ∷ l) h

pub last_none : (count : ℕ → ℤ) (l : List ℕ) → length l ≡ 0 → last_of count l ≡ pos 0
unfolding last_of
last_none count [] h = refl
last_none count (i ∷ l) h = absurd (omega arith)

pub last_cong : (f g : ℕ → ℤ) (l : List ℕ) → ((i : ℕ) → i ∈ l → f i ≡ g i) → last_of f l ≡ last_of g l
unfolding last_of
last_cong f g [] e = refl
last_cong f g (i ∷ []) e = e i (inl refl)
last_cong f g (i ∷ (j ∷ l)) e = last_cong f g (j ∷ l) (λ k m. e k (inr m))

-- the last, by its place
pub last_at : (count : ℕ → ℤ) (l : List ℕ) → 0 < length l → last_of count l ≡ count (get_or l (length l - 1) 0)
unfolding last_of
last_at count [] h = absurd (omega arith)
last_at count (i ∷ []) h = refl
last_at count (i ∷ (j ∷ l)) h = last_at count (j ∷ l) (omega arith) ∙ ap (λ (n : ℕ). count (get_or (i ∷ (j ∷ l)) n 0)) (let e : suc (length (j ∷ l) - 1) ≡ length (i ∷ (j ∷ l)) - 1 = omega arith in e)

-- one place more of the stretch
pub count_more : (d : Drawing) (under : ℤ) (l : List ℕ) (k : ℕ) (tops : List ℤ) → k < length l
    → count_up d under (drop k l) tops ≡ count_up d (under +ℤ (segment_at d (get_or l k 0)).winding) (drop (k + 1) l) (set tops (get_or l k 0) (under +ℤ (segment_at d (get_or l k 0)).winding))
unfolding count_up
count_more d under l k tops h = rw (drop-cons l k 0 h, add-one k)

-- none more
pub count_none : (d : Drawing) (under : ℤ) (l : List ℕ) (tops : List ℤ) → length l ≡ 0 → count_up d under l tops ≡ tops
unfolding count_up
count_none d under [] tops h = refl
count_none d under (i ∷ l) tops h = absurd (omega arith)

-- ---- how great entries get
pub set-within : {b : ℕ} (tops : List ℤ) (i : ℕ) (t : ℤ) → nat_abs t ≤ b → BoundedBy b tops → BoundedBy b (set tops i t)
set-within {b} tops i t small w j = go (ℕ_discrete j i) (dec_lt i (length tops))
  where
    go : Dec (j ≡ i) → Dec (i < length tops) → nat_abs (get_or (set tops i t) j (pos 0)) ≤ b
    go (no e) h = subst (λ z. nat_abs z ≤ b) (sym (get_or-set_other tops i j t (pos 0) e)) (w j)
    go (yes e) (yes h) = subst (λ z. nat_abs z ≤ b) (sym (ap (λ (n : ℕ). get_or (set tops i t) n (pos 0)) e ∙ get_or-set_same tops i t (pos 0) h)) small
    go (yes e) (no h) = subst (λ (l : List ℤ). nat_abs (get_or l j (pos 0)) ≤ b) (sym (set_out tops i t (omega arith))) (w j)

-- each step adds a winding
pub count-within : {d : Drawing} {b : ℕ} (under : ℤ) (l : List ℕ) (tops : List ℤ) → Faultless d → PlacesOf d l → nat_abs under ≤ b → BoundedBy (b + 1000 * length l) tops
    → BoundedBy (b + 1000 * length l) (count_up d under l tops)
unfolding count_up
count-within under [] tops r k u w = w
count-within {d} {b} under (i ∷ l) tops r k u w =
    let t = under +ℤ (segment_at d i).winding in
    let small : nat_abs t ≤ b + 1000 = omega (arith, abs-+ under (segment_at d i).winding, u, winding_at r i (k i (inl refl))) in
    let more = count-within {b = b + 1000} t l (set tops i t) r (λ j m. k j (inr m)) small (set-within tops i t (omega arith) (λ j. let h = w j in omega arith)) in
    λ j. let h = more j in omega arith

pub last_within : {b : ℕ} (tops : List ℤ) (l : List ℕ) → BoundedBy b tops → nat_abs (last_in tops l) ≤ b
unfolding last_of
last_within tops [] w = omega arith
last_within tops (i ∷ []) w = w i
last_within tops (i ∷ (j ∷ l)) w = last_within tops (j ∷ l) w

-- a stretch of at most 1,024
pub climbed_within : {d : Drawing} {first place high b : ℕ} {l : List ℕ} {tops tops' : List ℤ} → Climbed d first place l tops tops' high → Faultless d → PlacesOf d l → length l ≤ 1024 → BoundedBy b tops → BoundedBy (b + 1024000) tops'
climbed_within {d} {first} {place} {high} {b} {l} {tops} {tops'} c r k few w i =
    let part = take (high - c.low) (drop c.low l) in
    let short : length part ≤ 1024 = omega (arith, length-take (high - c.low) (drop c.low l), length-drop c.low l) in
    let h = count-within {b = b} (last_in tops (take c.low l)) part tops r (λ j m. k j (in_drop c.low l j (in_take (high - c.low) (drop c.low l) j m))) (last_within tops (take c.low l) w) (λ j. let u = w j in omega arith) i in
    subst (λ (t : List ℤ). nat_abs (get_or t i (pos 0)) ≤ b + 1024000) (sym c.written) (omega (arith, h, short))

module _ (d : Drawing) (count : ℕ → ℤ) where
  -- each count is that of the one before it and its own winding, the first's that under the stretch
  abbrev pub Climbs : ℤ → List ℕ → Type 0
  Climbs under [] = Unit {0}
  Climbs under (i ∷ l) = (count i ≡ under +ℤ (segment_at d i).winding) × Climbs (count i) l

  pub count_up_lem : (under : ℤ) (l : List ℕ) (tops : List ℤ) → Distinct l → ((i : ℕ) → i ∈ l → i < length tops) → Climbs under l → CountsWritten count l tops (count_up d under l tops)
  unfolding count_up
  count_up_lem under [] tops distinct room c = record { size = refl; here = λ k m. absurd m; others = λ k n. refl }
  count_up_lem under (i ∷ l) tops distinct room c =
      more (count_up_lem t l (set tops i t) distinct.1 (λ k m. subst (λ (n : ℕ). k < n) (sym (length-set tops i t)) (room k (inr m))) (subst (λ z. Climbs z l) c.0 c.1))
    where
      t : ℤ
      t = under +ℤ (segment_at d i).winding

      more : {new : List ℤ} → CountsWritten count l (set tops i t) new → CountsWritten count (i ∷ l) tops new
      more {new} r = record { size = r.size ∙ length-set tops i t; here = here; others = λ k n. r.others k (λ m. n (inr m)) ∙ get_or-set_other tops i k t (pos 0) (λ e. n (inl e)) }
        where
          here : (k : ℕ) → (k ≡ i) ⊎ (k ∈ l) → get_or new k (pos 0) ≡ count k
          here k (inl e) = subst (λ (n : ℕ). get_or new n (pos 0) ≡ count n) (sym e) (r.others i (λ m. distinct.0 i m refl) ∙ get_or-set_same tops i t (pos 0) (room i (inl refl)) ∙ sym c.0)
          here k (inr m) = r.here k m

  -- where each is so by what stands before it in the list
  climbs : (below l : List ℕ) → ((first : List ℕ) (i : ℕ) (rest : List ℕ) → l ≡ first ++ (i ∷ rest) → count i ≡ last_of count (below ++ first) +ℤ (segment_at d i).winding) → Climbs (last_of count below) l
  climbs below [] f = tt
  climbs below (i ∷ l) f = (
    f [] i l refl ∙ ap (λ (k : List ℕ). last_of count k +ℤ (segment_at d i).winding) (append-nil below),
    subst (λ z. Climbs z l) (last_of_lem count below i) (climbs (below ++ (i ∷ [])) l (λ first k rest e.
        f (i ∷ first) k rest (ap (λ (m : List ℕ). i ∷ m) e) ∙ ap (λ (m : List ℕ). last_of count m +ℤ (segment_at d k).winding) (sym (append_assoc below (i ∷ []) first)))),
  )

  -- a node's stretch of the list, once all that start at its point p have entered: m places have, and all others start after p
  pub node_climbs : Counts d count → (m : ℕ) (p : Point) (below l more : List ℕ) → m ≤ length d → OpenAt d m p.x (below ++ (l ++ more)) → ((i : ℕ) → i ∈ l → (segment_at d i).a ≡ p)
      → ((k : ℕ) → m ≤ k → k < length d → lt_p p (segment_at d k).a ≡ true) → Climbs (last_of count below) l
  node_climbs c m p below l more few h start after = climbs below l (λ first i rest e.
      let q = start i (subst (λ (k : List ℕ). i ∈ k) (sym e) (in_right i first (i ∷ rest) (inl refl))) in
      let stands : below ++ (l ++ more) ≡ (below ++ first) ++ (i ∷ (rest ++ more)) =
      ap (λ (k : List ℕ). below ++ (k ++ more)) e ∙ ap (λ (k : List ℕ). below ++ k) (append_assoc first (i ∷ rest) more) ∙ sym (append_assoc below first (i ∷ (rest ++ more))) in
      c.entered m (below ++ first) i (rest ++ more) few (subst (λ (r : Point). OpenAt d m r.x ((below ++ first) ++ (i ∷ (rest ++ more)))) (sym q) (subst (OpenAt d m p.x) stands h))
      (λ k n u. subst (λ (r : Point). lt_p r (segment_at d k).a ≡ true) (sym q) (after k n u)))
