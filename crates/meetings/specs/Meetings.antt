-- When two segments meet wrongly. The contracts of `meetings` cite this.
use Rattle.std.specs.Prelude.{◌≡◌, Bool, false, ◌&&◌, ◌||◌, ℤ, pos}
use Rattle.std.specs.Int.Signed.{lt_z}
use Rattle.geom.specs.declared.Point.{Point}
use Rattle.geom.specs.Points.{eq_p, cross, between}
use Rattle.segm.specs.declared.Segment.{Segment}
use Rattle.lists.specs.Members.{Pairs}
use Rattle.segm.specs.Segments.{Drawing}

-- the side of s on which p lies: positive left of a to b (the top side), negative right of it (the bottom side)
unfoldable pub side : Segment → Point → ℤ
side s p = cross s.a s.b p

-- t's ends lie strictly on opposite sides of s
unfoldable pub parts : Segment → Segment → Bool
parts s t =
    (lt_z (side s t.a) (pos 0) && lt_z (pos 0) (side s t.b))
    || (lt_z (pos 0) (side s t.a) && lt_z (side s t.b) (pos 0))

-- p lies in the interior of s: on it, strictly between its ends
unfoldable pub in_interior : Segment → Point → Bool
in_interior s p = between s.a s.b p

-- both ends are equal
unfoldable pub same_ends : Segment → Segment → Bool
same_ends s t = eq_p s.a t.a && eq_p s.b t.b

-- the ends of each lie strictly on opposite sides of the other, or an end of one lies on the other strictly between its ends, or both ends are equal
unfoldable pub meets_wrongly : Segment → Segment → Bool
meets_wrongly s t =
    (parts s t && parts t s)
    || ((in_interior s t.a || in_interior s t.b)
    || ((in_interior t s.a || in_interior t s.b)
    || same_ends s t))

-- no two segments of a drawing meet wrongly
abbrev pub NoneMeetWrongly : Drawing → Type 0
NoneMeetWrongly d = Pairs (λ s t. meets_wrongly s t ≡ false) d
