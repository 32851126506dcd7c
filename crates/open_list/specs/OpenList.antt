-- What is tested of neighbours in the list of the open segments, what leaves it and what enters. The contracts of `open_list` cite these.
use Rattle.std.specs.Prelude.{◌≡◌, List, ◌⊎◌, true, false, ℕ, suc, ◌+◌, ◌-◌, ◌<◌, ◌≤◌, length, get_or, ℤ}
use Rattle.lists.specs.Members.{◌∈◌}
use Rattle.segm.specs.Segments.{Drawing, segment_at}
use Rattle.meetings.specs.Meetings.{NoneMeetWrongly}
use Rattle.strip.specs.Strip.{is_vertical, spans, LowerNeighbour}
use Rattle.strip.specs.Neighbours.{InOrder, Distinct}

-- ---- neighbours
-- i may stand right over the one before place k, if there is one
abbrev pub StandsOver : Drawing → ℕ → ℕ → List ℕ → Type 0
StandsOver d k i l = (j : ℕ) → suc j ≡ k → LowerNeighbour (segment_at d (get_or l j 0)) (segment_at d i)

-- i may stand right under the one at place k, if there is one
abbrev pub StandsUnder : Drawing → ℕ → ℕ → List ℕ → Type 0
StandsUnder d k i l = k < length l → LowerNeighbour (segment_at d i) (segment_at d (get_or l k 0))

-- both, of a place in the list or at its end
pub record FitsAt (d : Drawing) (k i : ℕ) (l : List ℕ) : Type 0 where
  pub till : k ≤ length l
  pub over : StandsOver d k i l
  pub under : StandsUnder d k i l

-- the two beside place k may become neighbours
abbrev pub ClosesAt : Drawing → ℕ → List ℕ → Type 0
ClosesAt d k l = (j : ℕ) → suc j ≡ k → suc k < length l → LowerNeighbour (segment_at d (get_or l j 0)) (segment_at d (get_or l (suc k) 0))

-- ---- where every test is passed
-- no two segments meet wrongly, and those of the list span strip x
pub record Spanning (d : Drawing) (x : ℤ) (l : List ℕ) : Type 0 where
  pub apart : NoneMeetWrongly d
  pub across : (i : ℕ) → i ∈ l → spans (segment_at d i) x ≡ true

-- all that leaves at these ends is in the list: what is not vertical and ends there (end length d + i is the b of the segment at place i). No end stands there twice
pub record CanLeave (d : Drawing) (ends l : List ℕ) : Type 0 where
  pub x : ℤ
  pub spanning : Spanning d x l
  pub distinct : Distinct ends
  pub in_list : (i : ℕ) → length d + i ∈ ends → is_vertical (segment_at d i) ≡ false → i ∈ l

-- what enters of places from..to, all that is not vertical, spans the strip of the list too. All of the list are places before these
pub record CanEnter (d : Drawing) (from to : ℕ) (l : List ℕ) : Type 0 where
  pub x : ℤ
  pub spanning : Spanning d x l
  pub earlier : (i : ℕ) → i ∈ l → i < from
  pub starting : (i : ℕ) → from ≤ i → i < to → is_vertical (segment_at d i) ≡ false → spans (segment_at d i) x ≡ true

-- ---- what happens to the list
-- l' is l without the segments that are not vertical and end at one of the ends
pub record HasLeft (d : Drawing) (ends l l' : List ℕ) : Type 0 where
  pub order : InOrder d l'
  pub distinct : Distinct l'
  pub kept : (i : ℕ) → i ∈ l' → i ∈ l
  pub gone : (i : ℕ) → length d + i ∈ ends → is_vertical (segment_at d i) ≡ false → i ∈ l' → ⊥
  pub rest : (i : ℕ) → i ∈ l → (i ∈ l') ⊎ (length d + i ∈ ends)

-- l' is l with the segments of places from..to that are not vertical
pub record Entered (d : Drawing) (from to : ℕ) (l l' : List ℕ) : Type 0 where
  pub order : InOrder d l'
  pub kept : (i : ℕ) → i ∈ l → i ∈ l'
  pub came : (i : ℕ) → from ≤ i → i < to → is_vertical (segment_at d i) ≡ false → i ∈ l'
  pub mine : (i : ℕ) → i ∈ l' → (i ∈ l) ⊎ ((from ≤ i) × (i < to) × (is_vertical (segment_at d i) ≡ false))

-- ---- where they stand
-- all are places before this one
abbrev pub Older : ℕ → List ℕ → Type 0
Older from l = (i : ℕ) → i ∈ l → i < from

-- l became l' and the place near became near': nothing changed, or i stands right before near'
abbrev pub Marked : (i near : ℕ) (l : List ℕ) (near' : ℕ) (l' : List ℕ) → Type 0
Marked i near l near' l' = ((l' ≡ l) × (near' ≡ near)) ⊎ ((0 < near') × (near' ≤ length l') × (get_or l' (near' - 1) 0 ≡ i))

-- where the list has places from `from` on, one of them stands right before near
abbrev pub Marks : (from near : ℕ) → List ℕ → Type 0
Marks from near l = (i : ℕ) → i ∈ l → from ≤ i → (0 < near) × (near ≤ length l) × (from ≤ get_or l (near - 1) 0)
