-- The shoelace sum of a contour, and what it decides: which way round the contour goes, and whether it is large enough.
use Rattle.std.specs.Prelude.{List, [], ◌∷◌, Bool, not, ℕ, ◌/◌, ltb, ℤ, pos, nat_abs, ◌+ℤ◌, ◌-ℤ◌, ◌*ℤ◌}
use Rattle.std.specs.Int.Signed.{lt_z}
use Rattle.geom.specs.declared.Point.{Point}

-- a cross product is x1·y2 - x2·y1
unfoldable pub cross_product : Point → Point → ℤ
cross_product p q = p.x *ℤ q.y -ℤ q.x *ℤ p.y

-- its sum from p on over neighbouring points, the last to the first included
unfoldable pub around : Point → Point → List Point → ℤ
around first p [] = cross_product p first
around first p (q ∷ l) = cross_product p q +ℤ around first q l

-- `unsafe_area`, the shoelace sum
unfoldable pub shoelace : List Point → ℤ
shoelace [] = pos 0
shoelace (p ∷ l) = around p p l

-- clockwise means a negative shoelace sum; zero counts as counter-clockwise
unfoldable pub is_clockwise : List Point → Bool
is_clockwise contour = lt_z (shoelace contour) (pos 0)

-- the minimum area, any u64: 0 takes all; else the absolute shoelace sum, halved downward, must reach it
unfoldable pub is_large : ℕ → List Point → Bool
is_large least contour = not (ltb (nat_abs (shoelace contour) / 2) least)
