-- The ordered list of the open segments: places of segments, the lowest first. Where a point or a segment stands in it, what enters and what is taken out.
-- The contracts of `scan` cite these.
use Rattle.std.specs.Prelude.{List, ◌∷◌, ◌++◌, ◌≡◌, Bool, true, false, ℕ, suc, ◌+◌, ◌-◌, ◌≤◌, ◌<◌, length, get_or, take, drop}
use Rattle.geom.specs.Points.{in_range}
use Rattle.lists.specs.Members.{◌∈◌}
use Rattle.segm.specs.Segments.{Drawing, segment_at}
use Rattle.faults.specs.Faultless.{Proper}
use Rattle.strip.specs.Strip.{above, under_by_side}
use Rattle.scan.specs.declared.Sought.{Sought}
use Rattle.scan.specs.declared.Sought.TheVariants.{At, Along}

-- r lies from low to high, and the test changes there from true to false
pub record Changes (test : ℕ → Bool) (low high r : ℕ) : Type 0 where
  pub from : low ≤ r
  pub till : r ≤ high
  pub before : low < r → test (r - 1) ≡ true
  pub after : r < high → test r ≡ false

-- the segment at place i is below a point, or below another segment
unfoldable pub is_below : Drawing → Sought → ℕ → Bool
is_below d (At p) i = above (segment_at d i) p
is_below d (Along t) i = under_by_side (segment_at d i) t

-- the same of what stands at place k of a list
abbrev pub below_at : Drawing → Sought → List ℕ → ℕ → Bool
below_at d sought l k = is_below d sought (get_or l k 0)

-- i stands at place k, and those from there on one place further
unfoldable pub insert_at : ℕ → ℕ → List ℕ → List ℕ
insert_at k i l = take k l ++ (i ∷ drop k l)

-- the one at place k is gone
unfoldable pub remove_at : ℕ → List ℕ → List ℕ
remove_at k l = take k l ++ drop (suc k) l

-- memory for a list of so many, and for a block more that moves with it
abbrev pub RoomFor : ℕ → List ℕ → Type 0
RoomFor n list = n + 16 ≤ length list

-- i is a place of the drawing, and its segment is proper
pub record ProperAt (d : Drawing) (i : ℕ) : Type 0 where
  pub inside : i < length d
  pub proper : Proper (segment_at d i)

-- all are
abbrev pub AllProper : Drawing → List ℕ → Type 0
AllProper d l = (i : ℕ) → i ∈ l → ProperAt d i

-- what is sought is in range
abbrev pub SoughtInRange : Sought → Type 0
SoughtInRange (At p) = in_range p ≡ true
SoughtInRange (Along t) = Proper t
