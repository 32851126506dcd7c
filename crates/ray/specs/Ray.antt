-- Sides by a ray: which sides of each segment are filled.
use Rattle.std.specs.Prelude.{List, map, Bool, ◌&&◌, ◌||◌, ℕ, ℤ, ◌+ℤ◌}
use Rattle.geom.specs.Points.{eq_p}
use Rattle.segm.specs.declared.Segment.{Segment}
use Rattle.segm.specs.Segments.{Drawing, total}
use Rattle.fill_rule.specs.declared.Rule.{Rule}
use Rattle.fill_rule.specs.FillRule.{fill_of}
use Rattle.strip.specs.Strip.{spans, above, clockwise}

-- ---- the ray straight down from where i starts
-- j is counted: it spans ai.x, and has ai strictly above its line or starts at ai with a direction clockwise of i's
unfoldable pub met : Segment → Segment → Bool
met i j = spans j i.a.x && (above j i.a || (eq_p j.a i.a && clockwise j i))

-- the bottom count, of the side right of a to b: the sum of the windings counted
unfoldable pub bottom : Drawing → Segment → ℤ
bottom d i = total (met i) d

-- the top count, of the side left of a to b: bottom plus i's winding
unfoldable pub top : Drawing → Segment → ℤ
top d i = bottom d i +ℤ i.winding

-- ---- the fills
-- the fill of a segment, by its two counts and its line bits
unfoldable pub fill : Rule → Drawing → Segment → ℕ
fill rule d i = fill_of rule (top d i) (bottom d i) i.bits

-- the fills of a drawing, one entry a segment
unfoldable pub fills : Rule → Drawing → List ℕ
fills rule d = map (fill rule d) d
