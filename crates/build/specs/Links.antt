-- Kept links: which segments a clip run keeps. The contracts of `build` cite these.
use Rattle.std.specs.Prelude.{List, map, Bool, not, ◌&&◌, cond, ℕ, ◌+◌, ◌/◌, ◌%◌, eqb, ltb, ℤ, pos, nat_abs}
use Rattle.geom.specs.Points.{eq_z}
use Rattle.segm.specs.declared.Segment.{Segment}
use Rattle.lists.specs.Members.{keep}
use Rattle.segm.specs.Segments.{Drawing, with_bits}
use Rattle.fill_rule.specs.declared.Rule.{Rule}
use Rattle.build.specs.declared.filter.Filter.{Filter}
use Rattle.build.specs.declared.filter.Filter.TheVariants.{InsideIncluded, InsideExcluded, OutsideIncluded, OutsideExcluded}
use Rattle.ray.specs.Ray.{fill}

-- how many of the two side bits of a fill are set
unfoldable pub sides_set : ℕ → ℕ
sides_set f = f % 2 + f / 2 % 2

-- by that number: inside included 1 or 2; inside excluded 2; outside included 0; outside excluded 0 or 1
unfoldable pub keeps_sides : Filter → ℕ → Bool
keeps_sides InsideIncluded n = ltb 0 n
keeps_sides InsideExcluded n = eqb n 2
keeps_sides OutsideIncluded n = eqb n 0
keeps_sides OutsideExcluded n = ltb n 2

-- a segment of this fill is kept: it has line bits, and its sides pass
unfoldable pub keeps : Filter → ℕ → Bool
keeps filter f = not (eqb (f / 4) 0) && keeps_sides filter (sides_set f)

-- invert: 0 inside, 1 outside; boundary: 0 excluded, 1 included
unfoldable pub filter_of : (invert boundary : ℤ) → Filter
filter_of invert boundary =
    cond (eq_z invert (pos 0)) (cond (eq_z boundary (pos 0)) InsideExcluded InsideIncluded) (cond (eq_z boundary (pos 0)) OutsideExcluded OutsideIncluded)

-- the links that a clip run keeps; order stays
unfoldable pub kept_links : Rule → Filter → Drawing → Drawing
kept_links rule filter d = keep (λ s. keeps filter (fill rule d s)) d

-- a segment, without its line bits if it is not kept
abbrev pub lines_if : Bool → Segment → Segment
lines_if kept s = cond kept s (with_bits (pos 0) s)

-- the segments of a drawing, those that a run does not keep without their line bits. (The walk over these has the paths of the kept links)
unfoldable pub masked : Rule → Filter → Drawing → Drawing
masked rule filter d = map (λ s. lines_if (keeps filter (fill rule d s)) s) d

-- their line bits: all that the walk needs of them beside the drawing itself
abbrev pub masked_bits : Rule → Filter → Drawing → List ℕ
masked_bits rule filter d = map (λ (s : Segment). nat_abs s.bits) (masked rule filter d)
