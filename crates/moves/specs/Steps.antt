-- Steps over a link: in the direction of a bit or against it, and the bit that fits a step from a point.
use Rattle.std.specs.Prelude.{◌≡◌, Bool, true, false, cond}
use Rattle.std.specs.Bool.{beq}
use Rattle.geom.specs.declared.Point.{Point}
use Rattle.geom.specs.Points.{lt_p, eq_p}
use Rattle.lists.specs.Members.{◌∈◌}
use Rattle.segm.specs.declared.Segment.{Segment}
use Rattle.segm.specs.Segments.{Drawing}

-- a step, from a point to the next
pub record Step : Type 0 where
  pub start : Point
  pub end : Point

-- the step from p to q
abbrev pub step : Point → Point → Step
step p q = record { start = p; end = q }

-- over s in the direction of the bit: as a line bit is drawn
unfoldable pub as_drawn : Bool → Segment → Step
as_drawn true s = step s.a s.b
as_drawn false s = step s.b s.a

-- a walk goes outward, each step in the direction of its bit, or backward, each against it
unfoldable pub way : Bool → Step → Step
way true σ = σ
way false σ = step σ.end σ.start

-- the end of s that is not p
unfoldable pub other : Segment → Point → Point
other s p = cond (eq_p s.a p) s.b s.a

-- the bit that fits on the way from p over s: outward, bit 1 to a greater point and bit 2 to a lesser; backward the other bit
unfoldable pub fitting : Bool → Point → Segment → Bool
fitting out p s = beq out (lt_p p (other s p))

-- each a less than b
abbrev pub AllRise : Drawing → Type 0
AllRise links = (s : Segment) → s ∈ links → lt_p s.a s.b ≡ true
