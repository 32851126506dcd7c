-- What is tested of vertical segments. The contracts of `verticals` cite these.
use Rattle.std.specs.Prelude.{◌≡◌, List, ◌⊎◌, Bool, true, false, ◌||◌, ℕ, ◌-◌, ◌*◌, ◌<◌, ◌≤◌, length, get_or, take, ℤ, pos, ◌+ℤ◌, ◌≤ℤ◌}
use Rattle.std.specs.Int.Signed.{lt_z}
use Rattle.geom.specs.declared.Point.{Point}
use Rattle.geom.specs.Points.{eq_p}
use Rattle.segm.specs.declared.Segment.{Segment}
use Rattle.lists.specs.Members.{◌∈◌, Pairs}
use Rattle.segm.specs.Segments.{Drawing, segment_at}
use Rattle.ends.specs.Ends.{end_point}
use Rattle.meetings.specs.Meetings.{side}
use Rattle.strip.specs.Strip.{is_vertical, above}
use Rattle.strip.specs.Neighbours.{InGap, Distinct}
use Rattle.count_up.specs.CountUp.{last_in}

-- t lies under p: strictly, or with its start there
unfoldable pub lies_under : Point → Segment → Bool
lies_under p t = above t p || eq_p t.a p

-- t lies above p: strictly, or with its start there
unfoldable pub lies_above : Point → Segment → Bool
lies_above p t = lt_z (side t p) (pos 0) || eq_p t.a p

-- ---- beside the list
-- the one before place k of the list lies under v's foot, and the one at it above v's head, if there is one
pub record InGapAt (d : Drawing) (v : Segment) (k : ℕ) (l : List ℕ) : Type 0 where
  pub till : k ≤ length l
  pub under : 0 < k → lies_under v.a (segment_at d (get_or l (k - 1) 0)) ≡ true
  pub over : k < length l → lies_above v.b (segment_at d (get_or l k 0)) ≡ true

-- v stands in a gap of the list
abbrev pub StandsInGap : Drawing → Segment → List ℕ → Type 0
StandsInGap d v l = InGap (λ s. s.a) (segment_at d) 0 v l

-- the vertical segment at place v stands in a gap of the list, and its top count is written: that of the one below the gap, and its own winding
pub record Stood (d : Drawing) (l : List ℕ) (tops tops' : List ℤ) (v : ℕ) : Type 0 where
  pub place : ℕ
  pub in_gap : InGapAt d (segment_at d v) place l
  pub top : ((i : ℕ) → i ∈ l → is_vertical (segment_at d i) ≡ false) → get_or tops' v (pos 0) ≡ last_in tops (take place l) +ℤ (segment_at d v).winding

-- the vertical segments of places from..to stand in gaps of the list, and nothing else is written
pub record AllStand (d : Drawing) (from to : ℕ) (l : List ℕ) (tops tops' : List ℤ) : Type 0 where
  pub each : (v : ℕ) → from ≤ v → v < to → is_vertical (segment_at d v) ≡ true → Stood d l tops tops' v
  pub others : (i : ℕ) → (from ≤ i → i < to → is_vertical (segment_at d i) ≡ true → ⊥) → get_or tops' i (pos 0) ≡ get_or tops i (pos 0)

-- ---- beside the ends at their x
-- ends in order of their height, none of them twice
pub record Column (d : Drawing) (ends : List ℕ) : Type 0 where
  pub known : (e : ℕ) → e ∈ ends → e < 2 * length d
  pub rise : Pairs (λ e f. (end_point d e).y ≤ℤ (end_point d f).y) ends
  pub distinct : Distinct ends

-- a vertical segment starts at end v
pub record VerticalStart (d : Drawing) (v : ℕ) : Type 0 where
  pub inside : v < length d
  pub vertical : is_vertical (segment_at d v) ≡ true

-- end e is passed, the last vertical segment going from foot to top: e does not lie strictly between, and if a vertical one starts there, not below the top, it is the last
pub record Beyond (d : Drawing) (e : ℕ) (foot top foot' top' : ℤ) : Type 0 where
  pub out : ((end_point d e).y ≤ℤ foot) ⊎ (top ≤ℤ (end_point d e).y)
  pub on : VerticalStart d e → (top ≤ℤ (end_point d e).y) × (foot' ≡ (end_point d e).y) × (top' ≡ (segment_at d e).b.y)
  pub by : (VerticalStart d e → ⊥) → (foot' ≡ foot) × (top' ≡ top)

-- no end lies strictly between the ends of a vertical segment that starts among them, and no two of these overlap
pub record Unbroken (d : Drawing) (ends : List ℕ) : Type 0 where
  pub beside : (v : ℕ) → v ∈ ends → VerticalStart d v → (e : ℕ) → e ∈ ends
      → ((end_point d e).y ≤ℤ (segment_at d v).a.y) ⊎ ((segment_at d v).b.y ≤ℤ (end_point d e).y)
  pub stack : (v w : ℕ) → v ∈ ends → w ∈ ends → VerticalStart d v → VerticalStart d w → (v ≡ w → ⊥)
      → ((segment_at d v).b.y ≤ℤ (segment_at d w).a.y) ⊎ ((segment_at d w).b.y ≤ℤ (segment_at d v).a.y)

-- ---- where the tests are passed
-- t is clear of v: it lies under v's foot if v's head is above it, else above v's head
pub record ClearOf (v t : Segment) : Type 0 where
  pub under : above t v.b ≡ true → lies_under v.a t ≡ true
  pub over : above t v.b ≡ false → lies_above v.b t ≡ true

-- all of the list are clear of v
abbrev pub ClearIn : Drawing → Segment → List ℕ → Type 0
ClearIn d v l = (i : ℕ) → i ∈ l → ClearOf v (segment_at d i)

-- all of the list are clear of each vertical segment of places from..to
abbrev pub Clears : Drawing → ℕ → ℕ → List ℕ → Type 0
Clears d from to l = (v : ℕ) → from ≤ v → v < to → is_vertical (segment_at d v) ≡ true → ClearIn d (segment_at d v) l
