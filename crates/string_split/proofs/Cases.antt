-- Worked cases of splits, by computing: sightings are never forgotten or renewed, one point is dropped, the minimum area, and refusals in their order.
use mathlib.Core.Path.{◌≡◌, refl}
use mathlib.Core.List.{[], ◌∷◌, flatten}
use mathlib.Core.Bool.{true, false}
use lib.IntN.{pos, negsuc}
use Rattle.geom.specs.declared.Point.{Point}
use Rattle.geom.specs.Points.{eq_z, within, eq_p, coordinate, in_range}
use Rattle.lists.specs.Members.{any, keep}
use Rattle.lists.specs.Written.{written}
use Rattle.contour.specs.Points.{coordinates, pair_up}
use Rattle.contour.specs.Area.{cross_product, around, shoelace, is_clockwise, is_large}
use Rattle.refusal.specs.Order.{first_from, first}
use Rattle.refusal.specs.Asked.{wrong_length, too_short}
use Rattle.bin_store.specs.Sightings.{is_sighted, number_of, sight}
use Rattle.refusal.specs.declared.Kind.TheVariants.{WrongLength, OutOfRange, TooShort}
use Rattle.refusal.specs.Order.{refusal}
use Rattle.std.specs.Prelude.{Ok, Err}
use Rattle.split_loops.specs.Loops.{closed, buffer_point, buffer_points, rest, all_loops, split_loops}
use Rattle.string_split.specs.Run.{out_of_range_at, split_verdict, lists, outcome, split_outcome}

abbrev A : Point
A = record { x = pos 0; y = pos 0 }

abbrev B : Point
B = record { x = pos 4; y = pos 0 }

abbrev C : Point
C = record { x = pos 4; y = pos 4 }

abbrev D : Point
D = record { x = pos 1; y = pos 3 }

abbrev E : Point
E = record { x = pos 2; y = pos 3 }

pub record Cases : Type 0 where
  -- B's first sighting still counts after B was cut off
  pub not_forgotten : all_loops (A ∷ B ∷ C ∷ A ∷ D ∷ E ∷ B ∷ C ∷ []) ≡ (B ∷ C ∷ A ∷ []) ∷ (A ∷ D ∷ C ∷ []) ∷ []
  -- equal neighbours
  pub twice : all_loops (A ∷ A ∷ []) ≡ []
  pub at_the_end : all_loops (A ∷ B ∷ B ∷ []) ≡ (A ∷ B ∷ B ∷ []) ∷ []
  pub at_the_start : all_loops (A ∷ A ∷ B ∷ []) ≡ (A ∷ A ∷ B ∷ []) ∷ []
  -- a loop in a loop
  pub inner_first : all_loops (A ∷ B ∷ C ∷ D ∷ B ∷ E ∷ A ∷ []) ≡ (C ∷ D ∷ B ∷ []) ∷ (B ∷ E ∷ A ∷ []) ∷ []
  -- (4,0),(4,4),(0,0) has area 8: minimum 8 keeps, 9 drops
  pub large : split_loops 8 (B ∷ C ∷ A ∷ []) ≡ (B ∷ C ∷ A ∷ []) ∷ []
  pub small : split_loops 9 (B ∷ C ∷ A ∷ []) ≡ []
  -- the way round does not matter for the area; counter-clockwise is not clockwise
  pub other_way : split_loops 8 (A ∷ C ∷ B ∷ []) ≡ (A ∷ C ∷ B ∷ []) ∷ []
  pub clockwise : is_clockwise (A ∷ C ∷ B ∷ []) ≡ true
  pub counter_clockwise : is_clockwise (B ∷ C ∷ A ∷ []) ≡ false
  pub flat : is_clockwise (A ∷ B ∷ A ∷ []) ≡ false
  -- whole runs: what lists hold past the answer stays; 2 before 11 before 3
  pub done : split_outcome (coordinates (B ∷ C ∷ A ∷ [])) 0 (lists (pos 11 ∷ pos 12 ∷ pos 13 ∷ pos 14 ∷ pos 15 ∷ pos 16 ∷ pos 17 ∷ []) (21 ∷ 22 ∷ 23 ∷ []))
      ≡ outcome (Ok (record { loops = 1; points = 3 })) (lists (pos 4 ∷ pos 0 ∷ pos 4 ∷ pos 4 ∷ pos 0 ∷ pos 0 ∷ pos 17 ∷ []) (3 ∷ 22 ∷ 23 ∷ []))
  pub nothing : split_outcome [] 5 (lists (pos 11 ∷ []) []) ≡ outcome (Ok (record { loops = 0; points = 0 })) (lists (pos 11 ∷ []) [])
  pub odd : split_outcome (pos 16777217 ∷ []) 0 (lists [] []) ≡ outcome (Err (refusal WrongLength 0)) (lists [] [])
  pub out_short : split_outcome (pos 16777217 ∷ pos 0 ∷ []) 0 (lists (pos 11 ∷ []) (21 ∷ [])) ≡ outcome (Err (refusal TooShort 0)) (lists (pos 11 ∷ []) (21 ∷ []))
  pub lengths_short : split_outcome (pos 16777217 ∷ pos 0 ∷ []) 0 (lists (pos 11 ∷ pos 12 ∷ []) []) ≡ outcome (Err (refusal TooShort 0)) (lists (pos 11 ∷ pos 12 ∷ []) [])
  pub out_of_range : split_outcome (pos 16777216 ∷ pos 0 ∷ pos 0 ∷ negsuc 16777216 ∷ []) 0 (lists (pos 11 ∷ pos 12 ∷ pos 13 ∷ pos 14 ∷ []) (21 ∷ 22 ∷ [])) ≡ outcome (Err (refusal OutOfRange 1)) (lists (pos 11 ∷ pos 12 ∷ pos 13 ∷ pos 14 ∷ []) (21 ∷ 22 ∷ []))

pub cases : Cases
unfolding eq_z within eq_p coordinate in_range any keep written coordinates pair_up cross_product around shoelace is_clockwise is_large first_from first wrong_length too_short is_sighted number_of sight closed buffer_point buffer_points rest all_loops split_loops out_of_range_at split_verdict split_outcome flatten
cases = record {
  not_forgotten = refl;
  twice = refl;
  at_the_end = refl;
  at_the_start = refl;
  inner_first = refl;
  large = refl;
  small = refl;
  other_way = refl;
  clockwise = refl;
  counter_clockwise = refl;
  flat = refl;
  done = refl;
  nothing = refl;
  odd = refl;
  out_short = refl;
  lengths_short = refl;
  out_of_range = refl;
}
