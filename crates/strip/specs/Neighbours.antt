-- What is asked of neighbours in a list of open segments, and of the vertical segments beside it.
use Rattle.std.specs.Prelude.{◌≡◌, List, ◌⊎◌, ℕ, suc, ◌≤◌, ◌<◌, length, get_or, pos, ◌<ℤ◌}
use Rattle.geom.specs.declared.Point.{Point}
use Rattle.segm.specs.declared.Segment.{Segment}
use Rattle.lists.specs.Members.{◌∈◌, Pairs}
use Rattle.lists.specs.Chain.{Chain}
use Rattle.segm.specs.Segments.{Drawing, segment_at}
use Rattle.meetings.specs.Meetings.{side}
use Rattle.strip.specs.Strip.{LowerNeighbour}

-- ---- a vertical segment and the list, e being one of the two ends
-- s lies under p: strictly, or with its end at p
abbrev pub LiesUnder : (Segment → Point) → Point → Segment → Type 0
LiesUnder e p s = (pos 0 <ℤ side s p) ⊎ (e s ≡ p)

-- s lies above p: strictly, or with its end at p
abbrev pub LiesAbove : (Segment → Point) → Point → Segment → Type 0
LiesAbove e p s = (side s p <ℤ pos 0) ⊎ (e s ≡ p)

-- s passes v: it lies under v's foot or above its head
abbrev pub Passes : (Segment → Point) → Segment → Segment → Type 0
Passes e v s = LiesUnder e v.a s ⊎ LiesAbove e v.b s

-- v stands in a gap of the list: the one before the gap lies under v's foot, the one after it above its head
pub record InGap {A : Type 0} (e : Segment → Point) (seg : A → Segment) (z : A) (v : Segment) (l : List A) : Type 0 where
  pub place : ℕ
  pub till : place ≤ length l
  pub below : (k : ℕ) → suc k ≡ place → LiesUnder e v.a (seg (get_or l k z))
  pub above : place < length l → LiesAbove e v.b (seg (get_or l place z))

-- ---- a drawing and lists of its places
-- all are places of the drawing
abbrev pub PlacesOf : Drawing → List ℕ → Type 0
PlacesOf d l = (i : ℕ) → i ∈ l → i < length d

-- every one may stand right under the next
abbrev pub InOrder : Drawing → List ℕ → Type 0
InOrder d l = Chain (λ i j. LowerNeighbour (segment_at d i) (segment_at d j)) l

-- no place stands there twice
abbrev pub Distinct : List ℕ → Type 0
Distinct l = Pairs (λ i j. i ≡ j → ⊥) l
