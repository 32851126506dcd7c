-- Worked cases of the sweep, by computing: with either scan it fills as the ray does, document 01's case A and three triangles about one point, by each rule.
use mathlib.Core.Path.{◌≡◌, refl}
use mathlib.Core.List.{List, [], ◌∷◌, ◌++◌, map}
use Prim.Native.Nat.{ℕ}
use lib.IntN.{ℤ, pos, negsuc}
use Rattle.geom.specs.Points.{eq_z, lt_p, eq_p, cross}
use Rattle.lists.specs.Sums.{sum}
use Rattle.lists.specs.Members.{keep}
use Rattle.lists.specs.Written.{written}
use Rattle.lists.specs.UpFrom.{up_from}
use Rattle.segm.specs.Segments.{front, segments_of, count, segments, segment_at, total}
use Rattle.segm.specs.CaseA.{segment, A}
use Rattle.ends.specs.Ordering.{insert, ordering}
use Rattle.meetings.specs.Meetings.{side}
use Rattle.strip.specs.Strip.{is_vertical, spans, above, clockwise, reach, height, gap, falls, under}
use Rattle.scan.specs.Scan.{is_below, insert_at}
use Rattle.fill_rule.specs.FillRule.{filled, rule_of, fill_of}
use Rattle.ray.specs.Ray.{met, bottom, top, fill, fills}
use Rattle.sweep.specs.Sweep.{starting_at, node_size, node_from, turn_before, visit, visit_node, sweep_from, sweep_with}
use Rattle.sweep.specs.Stored.{is_under, higher, highest, count_of, stored_count, store_top, sweep_into, sweep}
use Rattle.sweep.specs.Open.{still_open, bisect, place_by, place_of, seek_open, count_open, store_open, open_sweep}

-- three triangles about the origin, with counts -1, 1 and 2 from the lowest; its four segments do not stand in turn
abbrev triangles : List ℤ
triangles =
    segment (pos 0) (pos 0) (pos 0) (pos 4) (negsuc 1) (pos 0)
    ++ segment (pos 0) (pos 0) (pos 4) (pos 4) (pos 1) (pos 0)
    ++ segment (pos 0) (pos 0) (pos 4) (negsuc 3) (negsuc 0) (pos 2)
    ++ segment (pos 0) (pos 0) (pos 4) (pos 0) (pos 2) (pos 0)
    ++ segment (pos 0) (pos 4) (pos 4) (pos 4) (negsuc 1) (pos 0)
    ++ segment (pos 4) (negsuc 3) (pos 4) (pos 0) (negsuc 0) (pos 0)
    ++ segment (pos 4) (pos 0) (pos 4) (pos 4) (pos 1) (pos 3)

-- lent lists that held something
abbrev noise : List ℕ
noise = 21 ∷ 22 ∷ 23 ∷ 24 ∷ 25 ∷ 26 ∷ 27 ∷ 28 ∷ 29 ∷ 30 ∷ 31 ∷ []

abbrev noise_tops : List ℤ
noise_tops = map pos noise

-- the ray's answer, and the sweep's with either scan
pub record Alike (numbers : List ℤ) (rule : ℤ) (answer : List ℕ) : Type 0 where
  pub by_ray : fills (rule_of rule) (segments numbers) ≡ answer
  pub by_sweep : sweep (rule_of rule) (segments numbers) ≡ answer
  pub by_open : open_sweep (rule_of rule) (segments numbers) noise_tops noise ≡ written answer noise

pub record Cases : Type 0 where
  pub A-even-odd : Alike A (pos 0) (4 ∷ 2 ∷ 1 ∷ 2 ∷ 7 ∷ 2 ∷ 1 ∷ 1 ∷ 4 ∷ [])
  pub A-nonzero : Alike A (pos 1) (4 ∷ 2 ∷ 1 ∷ 2 ∷ 7 ∷ 2 ∷ 1 ∷ 1 ∷ 4 ∷ [])
  pub A-positive : Alike A (pos 2) (4 ∷ 2 ∷ 1 ∷ 2 ∷ 7 ∷ 2 ∷ 1 ∷ 1 ∷ 4 ∷ [])
  pub A-negative : Alike A (pos 3) (4 ∷ 0 ∷ 0 ∷ 0 ∷ 4 ∷ 0 ∷ 0 ∷ 0 ∷ 4 ∷ [])
  -- no two rules fill the same
  pub triangles_even_odd : Alike triangles (pos 0) (0 ∷ 2 ∷ 9 ∷ 3 ∷ 0 ∷ 1 ∷ 13 ∷ [])
  pub triangles_nonzero : Alike triangles (pos 1) (2 ∷ 3 ∷ 9 ∷ 3 ∷ 2 ∷ 1 ∷ 13 ∷ [])
  pub triangles_positive : Alike triangles (pos 2) (2 ∷ 3 ∷ 8 ∷ 1 ∷ 2 ∷ 0 ∷ 13 ∷ [])
  pub triangles_negative : Alike triangles (pos 3) (0 ∷ 0 ∷ 9 ∷ 2 ∷ 0 ∷ 1 ∷ 12 ∷ [])

pub cases : Cases
unfolding eq_z lt_p eq_p cross sum keep written up_from front segments_of count segments segment_at total turn_before insert ordering side spans above clockwise reach height gap falls under still_open bisect place_by is_below place_of insert_at filled rule_of fill_of met bottom top fill fills is_vertical starting_at node_size node_from visit visit_node sweep_from sweep_with is_under higher highest count_of stored_count store_top sweep_into sweep seek_open count_open store_open open_sweep
cases = record {
  A-even-odd = record { by_ray = refl; by_sweep = refl; by_open = refl };
  A-nonzero = record { by_ray = refl; by_sweep = refl; by_open = refl };
  A-positive = record { by_ray = refl; by_sweep = refl; by_open = refl };
  A-negative = record { by_ray = refl; by_sweep = refl; by_open = refl };
  triangles_even_odd = record { by_ray = refl; by_sweep = refl; by_open = refl };
  triangles_nonzero = record { by_ray = refl; by_sweep = refl; by_open = refl };
  triangles_positive = record { by_ray = refl; by_sweep = refl; by_open = refl };
  triangles_negative = record { by_ray = refl; by_sweep = refl; by_open = refl };
}
