-- One event of the sweep, as code has it: places are numbers, k of them have started.
use mathlib.Core.Path.{◌≡◌}
use mathlib.Core.List.{List, []}
use mathlib.Core.Logic.{◌⊎◌, inl, inr, ⊎_elim}
use mathlib.Core.Bool.{false}
use Prim.Native.Nat.{ℕ, ◌≤◌, ◌<◌}
use native.Mathlib.Omega.{arith}
use native.Mathlib.Decide.{dec_lt}
use lib.IntN.{ℤ}
use lib.Signed.{◌≤ℤ◌, ◌<ℤ◌}
use Rattle.integers.proofs.Linear.{ints}
use Rattle.geom.proofs.Points.{Before}
use Rattle.segm.specs.declared.Segment.{Segment}
use Rattle.lists.specs.Members.{◌∈◌}
use Rattle.lists.specs.UpFrom.{up_from}
use Rattle.lists.proofs.UpFrom.{in_up_from, up_from_in}
use Rattle.meetings.specs.Meetings.{meets_wrongly}
use Rattle.strip.specs.Strip.{LowerNeighbour}
use Rattle.strip.proofs.Strip.Clear.{apart_clear}
use Rattle.lists.specs.Chain.{Chain}
use Rattle.strip.specs.Neighbours.{Passes}
use Rattle.strip.proofs.Neighbours.StripList.{StripList, Quiet, strip_next}
use Rattle.strip.proofs.Neighbours.Upright.{Upright}
use Rattle.strip.proofs.Neighbours.Event.{SweptTo, quiet_by, swept_start, swept_next, swept_done}

-- y is the next event: places k to k' start there
pub record Coming (seg : ℕ → Segment) (n : ℕ) (x y : ℤ) (k k' : ℕ) (l : List ℕ) : Type 0 where
  pub later : x <ℤ y
  pub fits : k' ≤ n
  pub begun : (i : ℕ) → i < k → (seg i).a.x ≤ℤ x
  pub here : (i : ℕ) → k ≤ i → i < k' → (seg i).a.x ≡ y
  pub after : (i : ℕ) → k' ≤ i → i < n → y <ℤ (seg i).a.x
  pub ends : (i : ℕ) → i ∈ l → y ≤ℤ (seg i).b.x

-- what was tested there of the vertical ones: all of the lists before and after pass them, and they stand on each other
pub record Tested (seg : ℕ → Segment) (y : ℤ) (k k' : ℕ) (l l' : List ℕ) : Type 0 where
  pub before : (v : ℕ) → k ≤ v → v < k' → Upright (seg v) → (i : ℕ) → i ∈ l → Passes (λ s. s.b) (seg v) (seg i)
  pub after : (v : ℕ) → k ≤ v → v < k' → Upright (seg v) → (i : ℕ) → i ∈ l' → Passes (λ s. s.a) (seg v) (seg i)
  pub stack : (v w : ℕ) → k ≤ v → v < k' → k ≤ w → w < k' → Upright (seg v) → Upright (seg w) → (v ≡ w → ⊥) → ((seg v).b.y ≤ℤ (seg w).a.y) ⊎ ((seg w).b.y ≤ℤ (seg v).a.y)

-- the places of n segments
placed : (i n : ℕ) → i ∈ up_from 0 n → i < n
placed i n m = let h = (in_up_from i 0 n m).1 in omega arith

place_in : (i n : ℕ) → i < n → i ∈ up_from 0 n
place_in i n h = up_from_in i 0 n (omega arith) (omega arith)

module _ (seg : ℕ → Segment) (n : ℕ) (proper : (i : ℕ) → i < n → Before (seg i).a (seg i).b) where
  proper' : (i : ℕ) → i ∈ up_from 0 n → Before (seg i).a (seg i).b
  proper' i m = proper i (placed i n m)

  pub first_event : {x : ℤ} → ((i : ℕ) → i < n → x <ℤ (seg i).a.x) → SweptTo seg (up_from 0 n) x []
  first_event f = swept_start seg (up_from 0 n) proper' (λ i m. f i (placed i n m))

  module _ {x y : ℤ} {k k' : ℕ} {l : List ℕ} (c : Coming seg n x y k k' l) where
    -- before, at or after y
    when : (i : ℕ) → i < n → ((seg i).a.x ≤ℤ x) ⊎ (((k ≤ i) × (i < k')) ⊎ (y <ℤ (seg i).a.x))
    when i h = go (dec_lt i k) (dec_lt i k')
      where
        go : Dec (i < k) → Dec (i < k') → ((seg i).a.x ≤ℤ x) ⊎ (((k ≤ i) × (i < k')) ⊎ (y <ℤ (seg i).a.x))
        go (yes a) b = inl (c.begun i a)
        go (no a) (yes b) = inr (inl (omega arith, b))
        go (no a) (no b) = inr (inr (c.after i (omega arith) h))

    starts : (i : ℕ) → i ∈ up_from 0 n → (seg i).a.x ≡ y → (k ≤ i) × (i < k')
    starts i m e = let t = c.later in ⊎_elim (λ a. absurd (omega ints)) (⊎_elim (λ a. a) (λ a. absurd (omega ints))) (when i (placed i n m))

    pub event_quiet : StripList seg (up_from 0 n) x l → Quiet seg (up_from 0 n) x y
    event_quiet h = quiet_by seg (up_from 0 n) proper' h c.later (λ i m. ⊎_elim inl (λ r. inr (⊎_elim (λ a. let e = c.here i a.0 a.1 in omega ints) (λ a. omega ints) r)) (when i (placed i n m))) c.ends

    pub event_list : {l' : List ℕ} → StripList seg (up_from 0 n) x l → Chain (λ i j. LowerNeighbour (seg i) (seg j)) l'
        → ((i : ℕ) → i ∈ l' → (y <ℤ (seg i).b.x) × ((i ∈ l) ⊎ ((k ≤ i) × (i < k')))) → ((i : ℕ) → y <ℤ (seg i).b.x → (i ∈ l) ⊎ ((k ≤ i) × (i < k')) → i ∈ l') → StripList seg (up_from 0 n) y l'
    event_list h ch f g = strip_next seg (up_from 0 n) (event_quiet h) h c.later ch
        (λ i m. let (t, o) = f i m in (t, ⊎_elim inl (λ a. inr (place_in i n (let b = a.1 in let e = c.fits in omega arith), c.here i a.0 a.1)) o))
        (λ i t o. g i t (⊎_elim inl (λ a. inr (starts i a.0 a.1)) o))

    pub next_event : {l' : List ℕ} → SweptTo seg (up_from 0 n) x l → StripList seg (up_from 0 n) y l' → Tested seg y k k' l l' → SweptTo seg (up_from 0 n) y l'
    next_event s h t = swept_next seg (up_from 0 n) proper' s c.later (event_quiet s.list) h (λ v m u e. let (a, b) = starts v m e in record {
      ends = t.before v a b u;
      starts = t.after v a b u;
      stack = λ w o r f ne. let (a', b') = starts w o f in t.stack v w a b a' b' u r ne;
    })

  -- all has ended
  pub last_event : {x : ℤ} {l : List ℕ} → SweptTo seg (up_from 0 n) x l → ((i : ℕ) → i < n → (seg i).b.x ≤ℤ x) → (i j : ℕ) → i < n → j < n → (i ≡ j → ⊥) → meets_wrongly (seg i) (seg j) ≡ false
  last_event s f i j a b ne = apart_clear (swept_done seg (up_from 0 n) proper' s (λ i m. f i (placed i n m)) i j (place_in i n a) (place_in j n b) ne)
