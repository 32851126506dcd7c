-- Counts by the ordered lists of the open segments alone: what a sweep that leaves them promises.
use Rattle.std.specs.Prelude.{◌≡◌, List, [], ◌∷◌, ◌++◌, true, ℕ, ◌-◌, ◌<◌, ◌≤◌, length, get_or, take, drop, set, ℤ, pos, nat_abs, ◌+ℤ◌}
use Rattle.geom.specs.Points.{lt_p}
use Rattle.lists.specs.Members.{◌∈◌}
use Rattle.segm.specs.Segments.{Drawing, segment_at}
use Rattle.strip.specs.Strip.{is_vertical, spans}
use Rattle.strip.specs.Neighbours.{InOrder}
use Rattle.scan.specs.declared.Sought.TheVariants.{At}
use Rattle.scan.specs.Scan.{Changes, below_at}

-- l: in order, those of the first m places that span strip x. With all places it is the list after the event at x; while segments enter, m have
pub record OpenAt (d : Drawing) (m : ℕ) (x : ℤ) (l : List ℕ) : Type 0 where
  pub order : InOrder d l
  pub mine : (i : ℕ) → i ∈ l → (i < m) × (spans (segment_at d i) x ≡ true)
  pub every : (i : ℕ) → i < m → spans (segment_at d i) x ≡ true → i ∈ l

-- the count of the last of some places, 0 if there is none
unfoldable pub last_of : (ℕ → ℤ) → List ℕ → ℤ
last_of count [] = pos 0
last_of count (i ∷ []) = count i
last_of count (i ∷ (j ∷ l)) = last_of count (j ∷ l)

-- the counts written up a stretch of the list, from the count under it: each is that of the one before it and its own winding
unfoldable pub count_up : Drawing → ℤ → List ℕ → List ℤ → List ℤ
count_up d count [] tops = tops
count_up d count (i ∷ l) tops = let top = count +ℤ (segment_at d i).winding in count_up d top l (set tops i top)

-- count is, of each segment, that of the one before it in the list where it starts, and its own winding: once all that start at its point have entered;
-- of a vertical one it is that of the one before the place of its head
pub record Counts (d : Drawing) (count : ℕ → ℤ) : Type 0 where
  pub entered : (m : ℕ) (below : List ℕ) (i : ℕ) (more : List ℕ) → m ≤ length d → OpenAt d m (segment_at d i).a.x (below ++ (i ∷ more))
      → ((k : ℕ) → m ≤ k → k < length d → lt_p (segment_at d i).a (segment_at d k).a ≡ true) → count i ≡ last_of count below +ℤ (segment_at d i).winding
  pub vertical : (v m : ℕ) → v < length d → is_vertical (segment_at d v) ≡ true → m ≤ length d → (l : List ℕ) → OpenAt d m (segment_at d v).a.x l
      → ((k : ℕ) → m ≤ k → k < length d → lt_p (segment_at d v).a (segment_at d k).a ≡ true)
      → (k : ℕ) → Changes (below_at d (At (segment_at d v).b) l) 0 (length l) k → count v ≡ last_of count (take k l) +ℤ (segment_at d v).winding

-- at the first so many places stand the counts
abbrev pub Tops : (ℕ → ℤ) → ℕ → List ℤ → Type 0
Tops count many tops = (i : ℕ) → i < many → get_or tops i (pos 0) ≡ count i

-- the tops are the counts of all segments, whatever counts there are
abbrev pub Counted : Drawing → List ℤ → Type 0
Counted d tops = (count : ℕ → ℤ) → Counts d count → Tops count (length d) tops

-- the counts of some places are written, and nothing else
pub record CountsWritten (count : ℕ → ℤ) (places : List ℕ) (old new : List ℤ) : Type 0 where
  pub size : length new ≡ length old
  pub here : (k : ℕ) → k ∈ places → get_or new k (pos 0) ≡ count k
  pub others : (k : ℕ) → (k ∈ places → ⊥) → get_or new k (pos 0) ≡ get_or old k (pos 0)

-- ---- a node in the list
-- the entry of the last of some places, 0 if there is none
abbrev pub last_in : List ℤ → List ℕ → ℤ
last_in tops l = last_of (λ i. get_or tops i (pos 0)) l

-- no entry is greater than b, by its absolute value
abbrev pub BoundedBy : ℕ → List ℤ → Type 0
BoundedBy b tops = (i : ℕ) → nat_abs (get_or tops i (pos 0)) ≤ b

-- from low on, down from a place, stand places of the drawing that are `first` or more, and none such before it
pub record LowEnd (first place : ℕ) (l : List ℕ) (low : ℕ) : Type 0 where
  pub till : low ≤ place
  pub members : (k : ℕ) → low ≤ k → k < place → first ≤ get_or l k 0
  pub below : 0 < low → get_or l (low - 1) 0 < first

-- the same up from a place
pub record HighEnd (first place : ℕ) (l : List ℕ) (high : ℕ) : Type 0 where
  pub from : place ≤ high
  pub till : high ≤ length l
  pub members : (k : ℕ) → place ≤ k → k < high → first ≤ get_or l k 0
  pub above : high < length l → get_or l high 0 < first

-- the stretch of the list about a place in which they stand is counted up
pub record Climbed (d : Drawing) (first place : ℕ) (l : List ℕ) (tops tops' : List ℤ) (high : ℕ) : Type 0 where
  pub low : ℕ
  pub low_end : LowEnd first place l low
  pub high_end : HighEnd first place l high
  pub written : tops' ≡ count_up d (last_in tops (take low l)) (take (high - low) (drop low l)) tops
