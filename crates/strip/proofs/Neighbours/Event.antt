-- The sweep's invariant, from event to event: strips before are in order, and verticals met so far meet nothing wrongly.
use mathlib.Core.Path.{◌≡◌, refl, sym, ◌∙◌}
use mathlib.Core.List.{List, []}
use mathlib.Core.Logic.{◌⊎◌, inl, inr}
use lib.IntN.{ℤ, pos, ◌-ℤ◌}
use lib.Signed.{◌≤ℤ◌, ◌<ℤ◌}
use Rattle.integers.proofs.Linear.{ints, of_pos, of--}
use Rattle.integers.proofs.Order.{order, lt_le}
use Rattle.geom.proofs.Points.{Before, before_le}
use Rattle.segm.specs.declared.Segment.{Segment}
use Rattle.lists.specs.Members.{◌∈◌, Pairs}
use Rattle.lists.proofs.Members.{pairs_map}
use Rattle.strip.proofs.Strip.Apart.{Apart, apart_sym, Wide, over_wide}
use Rattle.strip.proofs.Strip.Tiers.{OrderAt, Tier}
use Rattle.strip.specs.Neighbours.{Passes, InGap}
use Rattle.strip.proofs.Neighbours.StripList.{StripList, Fine, Quiet, strip_tiers, strip_on, fine_apart, fine_start, fine_onward, fine_finish}
use Rattle.strip.proofs.Neighbours.Upright.{Upright, wide_or_upright, beside, stacked, passes_apart, gap_passes_all}

module _ {A : Type 0} (seg : A → Segment) (d : List A) where
  -- heights at the left edge of the list's strip
  starts_at : {y : ℤ} {l : List A} → StripList seg d y l → Pairs (λ i j. OrderAt (λ s. s.a) y (seg i) (seg j)) l
  starts_at {y} {l} h = pairs_map {R = λ i j. Tier y (seg i) (seg j)} l (λ i j m n t. t.left) (strip_tiers seg d h)

  -- the gap of a vertical one after its event: all pass it
  pub gap_passes_after : {v : Segment} {l : List A} → Upright v → StripList seg d v.a.x l → (z : A) → InGap (λ s. s.a) seg z v l → (i : A) → i ∈ l → Passes (λ s. s.a) v (seg i)
  gap_passes_after {v} {l} u h z c = gap_passes_all (λ s. s.a) (λ s. inl refl) seg z u l (starts_at h) (λ i m. over_wide (h.mine i m).1) c

  module _ {x y : ℤ} {l : List A} (q : Quiet seg d x y) (h : StripList seg d x l) (xy : x <ℤ y) where
    -- the strip before y
    pub strip_before : StripList seg d (y -ℤ pos 1) l
    strip_before = strip_on seg d q h (omega (ints, of-- y (pos 1), of_pos 1)) (omega (ints, of-- y (pos 1), of_pos 1))

-- at y the list l becomes l': everything passes v, before and after, and the other verticals there are over or under it
pub record Clearance {A : Type 0} (seg : A → Segment) (d : List A) (y : ℤ) (l l' : List A) (v : A) : Type 0 where
  pub ends : (i : A) → i ∈ l → Passes (λ s. s.b) (seg v) (seg i)
  pub starts : (i : A) → i ∈ l' → Passes (λ s. s.a) (seg v) (seg i)
  pub stack : (w : A) → w ∈ d → Upright (seg w) → (seg w).a.x ≡ y → (v ≡ w → ⊥) → ((seg v).b.y ≤ℤ (seg w).a.y) ⊎ ((seg w).b.y ≤ℤ (seg v).a.y)

-- all before strip x, the verticals to x, and the list of strip x
pub record SweptTo {A : Type 0} (seg : A → Segment) (d : List A) (x : ℤ) (l : List A) : Type 0 where
  pub fine : (z : ℤ) → z <ℤ x → Fine seg d z
  pub free : (v : A) → v ∈ d → Upright (seg v) → (seg v).a.x ≤ℤ x → (i : A) → i ∈ d → (v ≡ i → ⊥) → Apart (seg v) (seg i)
  pub list : StripList seg d x l

module _ {A : Type 0} (seg : A → Segment) (d : List A) (proper : (i : A) → i ∈ d → Before (seg i).a (seg i).b) where
  pub upright_apart : {x y : ℤ} {l l' : List A} → Quiet seg d x y → StripList seg d x l → x <ℤ y → StripList seg d y l' → (v : A) → Upright (seg v) → (seg v).a.x ≡ y → Clearance seg d y l l' v
      → (i : A) → i ∈ d → (v ≡ i → ⊥) → Apart (seg v) (seg i)
  upright_apart {x} {y} {l} {l'} q h xy h' v u at c i m ne = go (order (seg i).b.x y) (order y (seg i).a.x) (wide_or_upright (proper i m))
    where
      near : Wide (seg i) → (seg i).a.x ≤ℤ y → (y <ℤ (seg i).b.x) ⊎ ((seg i).b.x ≤ℤ y) → y ≤ℤ (seg i).b.x → Apart (seg v) (seg i)
      near w a (inl b) k = passes_apart (λ s. s.a) (λ s. inl refl) u w (c.starts i (h'.every i m (record { from = a; to = b })))
      near w a (inr b) k = passes_apart (λ s. s.b) (λ s. inr refl) u w (c.ends i ((strip_before seg d q h xy).every i m
          (record { from = omega (ints, w, of-- y (pos 1), of_pos 1); to = omega (ints, of-- y (pos 1), of_pos 1) })))

      same : Upright (seg i) → (seg i).a.x ≡ y → ((seg v).b.y ≤ℤ (seg i).a.y) ⊎ ((seg i).b.y ≤ℤ (seg v).a.y) → Apart (seg v) (seg i)
      same o e (inl k) = stacked u o (e ∙ sym at) k
      same o e (inr k) = apart_sym (stacked o u (at ∙ sym e) k)

      go : ((seg i).b.x <ℤ y) ⊎ (y ≤ℤ (seg i).b.x) → (y <ℤ (seg i).a.x) ⊎ ((seg i).a.x ≤ℤ y) → Wide (seg i) ⊎ Upright (seg i) → Apart (seg v) (seg i)
      go (inl b) a w = beside u (proper i m) (inl (omega ints))
      go (inr b) (inl a) w = beside u (proper i m) (inr (omega ints))
      go (inr b) (inr a) (inl w) = near w a (order y (seg i).b.x) b
      go (inr b) (inr a) (inr o) = let e : (seg i).a.x ≡ y = omega (ints, o) in same o e (c.stack i m o e ne)

  -- ---- the three steps of a sweep
  pub swept_start : {x : ℤ} → ((i : A) → i ∈ d → x <ℤ (seg i).a.x) → SweptTo seg d x []
  swept_start f = record {
    fine = fine_start seg d (λ i m. lt_le (f i m));
    free = λ v m u k. absurd (let a = f v m in omega ints);
    list = record { chain = tt; mine = λ i m. absurd m; every = λ i m o. absurd (let a = f i m in let b = o.from in omega ints) };
  }

  -- y is the next event: nothing that has not started starts before it, and nothing of the list ends before it
  pub quiet_by : {x y : ℤ} {l : List A} → StripList seg d x l → x <ℤ y → ((i : A) → i ∈ d → ((seg i).a.x ≤ℤ x) ⊎ (y ≤ℤ (seg i).a.x)) → ((i : A) → i ∈ l → y ≤ℤ (seg i).b.x) → Quiet seg d x y
  quiet_by {x} {y} h xy f g i m = (f i m, go (f i m) (order x (seg i).b.x))
    where
      go : ((seg i).a.x ≤ℤ x) ⊎ (y ≤ℤ (seg i).a.x) → (x <ℤ (seg i).b.x) ⊎ ((seg i).b.x ≤ℤ x) → ((seg i).b.x ≤ℤ x) ⊎ (y ≤ℤ (seg i).b.x)
      go (inl a) (inl b) = inr (g i (h.every i m (record { from = a; to = b })))
      go (inr a) b = inr (let l = before_le (proper i m) in omega ints)
      go (inl a) (inr b) = inl b

  pub swept_next : {x y : ℤ} {l l' : List A} → SweptTo seg d x l → x <ℤ y → Quiet seg d x y → StripList seg d y l'
      → ((v : A) → v ∈ d → Upright (seg v) → (seg v).a.x ≡ y → Clearance seg d y l l' v) → SweptTo seg d y l'
  swept_next {x} {y} s xy q h' c = record { fine = fine_onward seg d s.fine s.list q; free = λ v m u k. free v m u k (q v m).0; list = h' }
    where
      free : (v : A) → v ∈ d → Upright (seg v) → (seg v).a.x ≤ℤ y → ((seg v).a.x ≤ℤ x) ⊎ (y ≤ℤ (seg v).a.x) → (i : A) → i ∈ d → (v ≡ i → ⊥) → Apart (seg v) (seg i)
      free v m u k (inl o) = s.free v m u o
      free v m u k (inr o) = let e : (seg v).a.x ≡ y = omega ints in upright_apart q s.list xy h' v u e (c v m u e)

  -- all has ended
  pub swept_done : {x : ℤ} {l : List A} → SweptTo seg d x l → ((i : A) → i ∈ d → (seg i).b.x ≤ℤ x) → (i j : A) → i ∈ d → j ∈ d → (i ≡ j → ⊥) → Apart (seg i) (seg j)
  swept_done {x} s f i j m n ne = go (wide_or_upright (proper i m)) (wide_or_upright (proper j n))
    where
      free : (v : A) → v ∈ d → Upright (seg v) → (i : A) → i ∈ d → (v ≡ i → ⊥) → Apart (seg v) (seg i)
      free v m u = s.free v m u (let k = f v m in omega (ints, u))

      go : Wide (seg i) ⊎ Upright (seg i) → Wide (seg j) ⊎ Upright (seg j) → Apart (seg i) (seg j)
      go (inl wi) (inl wj) = fine_apart seg d (fine_finish seg d s.fine f) i j m n ne wi wj
      go (inr ui) w = free i m ui j n ne
      go (inl wi) (inr uj) = apart_sym (free j n uj i m (λ q. ne (sym q)))
