-- Worked cases of slices, by computing: document 01's case A as a whole run, and a square with a hole in both output directions.
use mathlib.Core.Path.{◌≡◌, refl}
use mathlib.Core.List.{List, [], ◌∷◌, ◌++◌, map, flatten}
use mathlib.Core.Option.{some}
use mathlib.Core.Bool.{true, false}
use Prim.Native.Nat.{ℕ}
use lib.ListN.{drop}
use lib.IntN.{ℤ, pos, negsuc}
use Rattle.geom.specs.declared.Point.{Point}
use Rattle.geom.specs.Points.{eq_z, within, lt_p, eq_p, coordinate, in_range, cross, between}
use Rattle.lists.specs.Members.{any, keep}
use Rattle.lists.specs.Sums.{sum, tally}
use Rattle.lists.specs.Written.{written}
use Rattle.lists.specs.UpFrom.{up_from}
use Rattle.segm.specs.Segments.{front, segments_of, count, whole, segments, segment_at, total}
use Rattle.contour.specs.Points.{coordinates}
use Rattle.contour.specs.Area.{cross_product, around, shoelace, is_clockwise, is_large}
use Rattle.meetings.specs.Meetings.{side, parts, in_interior, same_ends, meets_wrongly}
use Rattle.balance.specs.Balance.{balance, balances}
use Rattle.faults.specs.Faults.{ends_in_range, rises, winding_in_range, bits_in_range, lot_in_range, fault, fault_at, faults_of}
use Rattle.drawing_check.specs.Drawing.{meeting_at, unbalanced_at, meetings_of, unbalanced_of, drawing_verdict}
use Rattle.refusal.specs.Asked.{wrong_length, unknown_choice, too_short, asked_first}
use Rattle.refusal.specs.Order.{first_from, first}
use Rattle.checks.specs.Runs.{asked, verdict, slice_run}
use Rattle.segm.specs.CaseA.{segment, A}
use Rattle.fill_rule.specs.declared.Rule.TheVariants.{NonZero}
use Rattle.fill_rule.specs.FillRule.{filled, rule_of, fill_of}
use Rattle.strip.specs.Strip.{spans, above, clockwise}
use Rattle.ray.specs.Ray.{met, bottom, top, fill, fills}
use Rattle.graph.specs.Nodes.{node}
use Rattle.moves.specs.Bits.{has, clear}
use Rattle.moves.specs.Steps.{as_drawn, way, other, fitting}
use Rattle.moves.specs.Moves.{remains, taken, taken_all, bits_remaining, over}
use Rattle.moves.specs.Begins.{first_remaining, both_moves, begins}
use Rattle.bin_store.specs.Sightings.{is_sighted, number_of, sight}
use Rattle.split_loops.specs.Loops.{closed, buffer_point, buffer_points, rest, all_loops, split_loops}
use Rattle.slice_walk.specs.Walk.{rotated, is_wide, is_nearer, move_from, nearest, find_nearest, till, walk_from, walks_from, walks, direction_of, walk_points}
use Rattle.std.specs.Prelude.{Ok, Err}
use Rattle.refusal.specs.Order.{refusal}
use Rattle.refusal.specs.declared.Kind.TheVariants.{TooShort}
use Rattle.contour.specs.Contour.{contour, contour_of}
use Rattle.slice_cut.specs.Cutting.{walk_contours}
use Rattle.string_slice.specs.Contours.{side_bits, all_contours, slice_contours}
use Rattle.string_slice.specs.Run.{lists, outcome, slice_outcome}

abbrev at : ℕ → ℕ → Point
at x y = record { x = pos x; y = pos y }

-- a square and a hole in it
abbrev holed : List ℤ
holed =
    segment (pos 0) (pos 0) (pos 0) (pos 9) (negsuc 0) (pos 0)
    ++ segment (pos 0) (pos 0) (pos 9) (pos 0) (pos 1) (pos 0)
    ++ segment (pos 0) (pos 9) (pos 9) (pos 9) (negsuc 0) (pos 0)
    ++ segment (pos 3) (pos 3) (pos 3) (pos 6) (pos 1) (pos 0)
    ++ segment (pos 3) (pos 3) (pos 6) (pos 3) (negsuc 0) (pos 0)
    ++ segment (pos 3) (pos 6) (pos 6) (pos 6) (pos 1) (pos 0)
    ++ segment (pos 6) (pos 3) (pos 6) (pos 6) (negsuc 0) (pos 0)
    ++ segment (pos 9) (pos 0) (pos 9) (pos 9) (pos 1) (pos 0)

abbrev outer : List Point
outer = at 0 0 ∷ at 0 9 ∷ at 9 9 ∷ at 9 0 ∷ []

abbrev outer_round : List Point
outer_round = at 9 0 ∷ at 9 9 ∷ at 0 9 ∷ at 0 0 ∷ []

abbrev hole : List Point
hole = at 3 3 ∷ at 3 6 ∷ at 6 6 ∷ at 6 3 ∷ []

abbrev hole_round : List Point
hole_round = at 6 3 ∷ at 6 6 ∷ at 3 6 ∷ at 3 3 ∷ []

pub record Cases : Type 0 where
  pub case-A : (
      let points = map pos (up_from 101 37) in
      slice_outcome A (pos 1) (pos 0) 0 (lists points (up_from 201 18) (up_from 1 18))
      ≡ outcome (Ok (record { contours = 2; points = 8 }))
      (lists (coordinates (at 10 0 ∷ at 10 5 ∷ at 0 5 ∷ at 0 0 ∷ at 10 5 ∷ at 10 10 ∷ at 0 10 ∷ at 0 5 ∷ []) ++ drop 16 points) (4 ∷ 4 ∷ up_from 203 16) (0 ∷ 0 ∷ up_from 3 16))
      )
  pub roles_short : (
      let ls = lists (map pos (up_from 101 36)) (up_from 201 18) (up_from 1 17) in
      slice_outcome A (pos 1) (pos 0) 0 ls ≡ outcome (Err (refusal TooShort 0)) ls
      )
  -- counter-clockwise and clockwise; a hole goes the other way
  pub counter_clockwise : slice_contours NonZero false 0 (segments holed) ≡ some (contour outer_round 0 ∷ contour hole 1 ∷ [])
  pub clockwise_out : slice_contours NonZero true 0 (segments holed) ≡ some (contour outer 0 ∷ contour hole_round 1 ∷ [])
  -- areas 81 and 9
  pub hole_dropped : slice_contours NonZero true 10 (segments holed) ≡ some (contour outer 0 ∷ [])
  pub all_dropped : slice_contours NonZero true 82 (segments holed) ≡ some []

pub cases : Cases
unfolding any sum tally keep written up_from front segments_of count whole segments segment_at total eq_z within lt_p eq_p coordinate in_range cross between ends_in_range rises winding_in_range bits_in_range lot_in_range fault fault_at meeting_at balance balances unbalanced_at meets_wrongly parts in_interior same_ends side wrong_length unknown_choice too_short first_from first asked asked_first drawing_verdict faults_of meetings_of unbalanced_of verdict slice_run spans above clockwise met bottom top filled rule_of fill_of fill fills coordinates cross_product around shoelace is_clockwise is_large node has clear as_drawn remains taken taken_all bits_remaining first_remaining both_moves begins way over other fitting is_sighted number_of sight closed buffer_point buffer_points rest all_loops split_loops rotated is_wide is_nearer move_from nearest find_nearest till walk_from walks_from walks direction_of walk_points side_bits contour_of walk_contours all_contours slice_contours slice_outcome flatten
cases = record {
  case-A = refl;
  roles_short = refl;
  counter_clockwise = refl;
  clockwise_out = refl;
  hole_dropped = refl;
  all_dropped = refl;
}
