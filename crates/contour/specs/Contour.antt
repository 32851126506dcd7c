-- One contour of a slice: a loop with its role, turned round where it must be.
use Rattle.std.specs.Prelude.{List, reverse, Bool, cond, ℕ}
use Rattle.std.specs.Bool.{beq}
use Rattle.geom.specs.declared.Point.{Point}
use Rattle.contour.specs.Area.{is_clockwise}

-- a contour: its points, and its role, 1 for a hole
pub record Contour : Type 0 where
  pub points : List Point
  pub role : ℕ

abbrev pub contour : List Point → ℕ → Contour
contour points role = record { points = points; role = role }

-- role 1 (hole) if clockwise equals the walk's direction, else 0. A hole is turned round where it goes as the output direction says, another contour where
-- it does not (`extract_shapes_custom`); clockwise: the output direction is 1
unfoldable pub contour_of : (clockwise direction : Bool) → List Point → Contour
contour_of clockwise direction loop =
    let order = is_clockwise loop in
    let isHole = beq order direction in
    contour (cond (beq isHole (beq clockwise order)) (reverse loop) loop) (cond isHole 1 0)
