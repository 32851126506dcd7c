-- Segments in a strip, the band between x and x + 1: which ones span it, which points are above them, and which of two is the lower.
use Rattle.std.specs.Prelude.{◌≡◌, Bool, true, false, ◌&&◌, ◌||◌, cond, ℤ, pos, ◌+ℤ◌, ◌-ℤ◌, ◌*ℤ◌}
use Rattle.std.specs.Int.Signed.{lt_z, le_z}
use Rattle.geom.specs.declared.Point.{Point}
use Rattle.geom.specs.Points.{eq_z, lt_p}
use Rattle.segm.specs.declared.Segment.{Segment}
use Rattle.meetings.specs.Meetings.{side, meets_wrongly}

-- both ends have one x
unfoldable pub is_vertical : Segment → Bool
is_vertical s = eq_z s.a.x s.b.x

-- aj.x ≤ x < bj.x: no vertical segment does that
unfoldable pub spans : Segment → ℤ → Bool
spans j x = le_z j.a.x x && lt_z x j.b.x

-- p is strictly above j's line
unfoldable pub above : Segment → Point → Bool
above j p = lt_z (pos 0) (side j p)

-- the direction of j is clockwise of that of i, which has the same start
unfoldable pub clockwise : Segment → Segment → Bool
clockwise j i = above j i.b

-- ---- heights, as fractions
-- how far s reaches to the right
unfoldable pub reach : Segment → ℤ
reach s = s.b.x -ℤ s.a.x

-- the height of s's line at x, times its reach
unfoldable pub height : Segment → ℤ → ℤ
height s x = s.a.y *ℤ reach s +ℤ (x -ℤ s.a.x) *ℤ (s.b.y -ℤ s.a.y)

-- how much higher j is than h at x, times the reach of both
unfoldable pub gap : Segment → Segment → ℤ → ℤ
gap j h x = height j x *ℤ reach h -ℤ height h x *ℤ reach j

-- g, or if that is 0 then g', is negative
unfoldable pub falls : ℤ → ℤ → Bool
falls g g' = lt_z g (pos 0) || (le_z g (pos 0) && lt_z g' (pos 0))

-- j is lower than h just right of x: lower at x, or as high there and lower at x + 1
unfoldable pub under : ℤ → Segment → Segment → Bool
under x j h = falls (gap j h x) (gap j h (x +ℤ pos 1))

-- the same by sides alone, as the Rust's `is_under_segment` has it: the later start is seen from the other segment. Its products fit 64 bits, those of `gap` do not.
-- (`Compare` proves that they agree for two that do not meet wrongly)
unfoldable pub under_by_side : Segment → Segment → Bool
under_by_side j h = cond (lt_p j.a h.a) (above j h.a) (cond (lt_p h.a j.a) (lt_z (side h j.a) (pos 0)) (clockwise j h))

-- s may stand right under t in the list: it is the lower, and the two do not meet wrongly. Nothing in it speaks of x
pub record LowerNeighbour (s t : Segment) : Type 0 where
  pub lower : under_by_side s t ≡ true
  pub clear : meets_wrongly s t ≡ false
