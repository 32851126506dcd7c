-- What can be wrong with one segment: refusals 3 to 7 and 13, each at the segment's place. A place with nothing wrong has none.
use Rattle.std.specs.Prelude.{◌≡◌, Bool, false, not, ◌&&◌, cond, ℕ, ◌-◌, ◌<◌, length, pos, neg_ℤ, Option, Some, None}
use Rattle.geom.specs.declared.Point.{Point}
use Rattle.geom.specs.Points.{within, lt_p, in_range}
use Rattle.refusal.specs.declared.Kind.{Kind}
use Rattle.refusal.specs.declared.Kind.TheVariants.{OutOfRange, NotRising, BadWinding, BadBits, OutOfOrder, BadLot}
use Rattle.refusal.specs.Order.{Verdict, refused, first}
use Rattle.segm.specs.declared.Segment.{Segment}
use Rattle.segm.specs.Segments.{Drawing, segment_at}

-- both ends are in the coordinate range
unfoldable pub ends_in_range : Segment → Bool
ends_in_range s = in_range s.a && in_range s.b

-- a is less than b
unfoldable pub rises : Segment → Bool
rises s = lt_p s.a s.b

-- winding is -1,000 to 1,000
unfoldable pub winding_in_range : Segment → Bool
winding_in_range s = within (neg_ℤ (pos 1000)) (pos 1000) s.winding

-- line bits are 0 to 3
unfoldable pub bits_in_range : Segment → Bool
bits_in_range s = within (pos 0) (pos 3) s.bits

-- lot is 0 to 9,999
unfoldable pub lot_in_range : Segment → Bool
lot_in_range s = within (pos 0) (pos 9999) s.lot

-- the first of refusals 3, 4, 5, 6, 13, 7 that fits s, where the segment before it starts at p
unfoldable pub fault : Point → Segment → Option Kind
fault p s =
    cond (not (ends_in_range s)) (Some OutOfRange)
    (cond (not (rises s)) (Some NotRising)
    (cond (not (winding_in_range s)) (Some BadWinding)
    (cond (not (bits_in_range s)) (Some BadBits)
    (cond (not (lot_in_range s)) (Some BadLot)
    (cond (lt_p s.a p) (Some OutOfOrder) None)))))

-- 3 to 7 and 13, at place i. (No segment is before the first one: it stands there itself, and is not less)
unfoldable pub fault_at : Drawing → ℕ → Option Kind
fault_at d i = fault (segment_at d (i - 1)).a (segment_at d i)

-- 3 to 7 and 13 by place, in that order within one
unfoldable pub faults_of : Drawing → Verdict
faults_of d = first (fault_at d) (length d)

-- a verdict that is 13, at a lot out of range. (Laws cite it, no contract does)
pub record LotOut (d : Drawing) (v : Verdict) : Type 0 where
  pub place : ℕ
  pub inside : place < length d
  pub out : lot_in_range (segment_at d place) ≡ false
  pub thirteen : v ≡ refused BadLot place
