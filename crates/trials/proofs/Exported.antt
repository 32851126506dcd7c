-- What C is handed, by computing.
use mathlib.Core.Path.{refl}
use mathlib.Core.List.{flatten}
use Rattle.geom.specs.Points.{eq_z, within, lt_p, eq_p, coordinate, in_range, cross, between, travel}
use Rattle.lists.specs.Members.{any, keep}
use Rattle.lists.specs.Sums.{sum, tally}
use Rattle.lists.specs.Written.{written}
use Rattle.lists.specs.UpFrom.{up_from}
use Rattle.segm.specs.Segments.{front, segments_of, count, whole, segments, segment_at, numbers_of, laid, total}
use Rattle.contour.specs.Points.{coordinates, pair_up}
use Rattle.contour.specs.Area.{cross_product, around, shoelace, is_large, is_clockwise}
use Rattle.meetings.specs.Meetings.{side, parts, in_interior, same_ends, meets_wrongly}
use Rattle.balance.specs.Balance.{balance, balances}
use Rattle.faults.specs.Faults.{ends_in_range, rises, winding_in_range, bits_in_range, lot_in_range, fault, fault_at, faults_of}
use Rattle.drawing_check.specs.Drawing.{meeting_at, unbalanced_at, meetings_of, unbalanced_of, drawing_verdict}
use Rattle.refusal.specs.Asked.{wrong_length, unknown_choice, too_short, asked_first}
use Rattle.refusal.specs.Order.{first_from, first}
use Rattle.checks.specs.Runs.{asked, verdict, fills_run, clip_run, slice_run}
use Rattle.fill_rule.specs.FillRule.{filled, rule_of, fill_of}
use Rattle.strip.specs.Strip.{spans, above, clockwise}
use Rattle.ray.specs.Ray.{met, bottom, top, fill, fills}
use Rattle.build.specs.Fills.{fills_outcome}
use Rattle.build.specs.Links.{sides_set, keeps_sides, keeps, filter_of, kept_links}
use Rattle.graph.specs.Nodes.{node}
use Rattle.moves.specs.Bits.{has, clear}
use Rattle.moves.specs.Steps.{as_drawn, way, other, fitting}
use Rattle.moves.specs.Moves.{remains, taken, taken_all, bits_remaining, over}
use Rattle.moves.specs.Begins.{first_remaining, both_moves, begins}
use Rattle.clip_walk.specs.Walk.{goes_on, follow, path_from, paths_from, walk}
use Rattle.clip_paths.specs.Paths.{through, finished, path_points, clip_paths, steps_from, steps_of_path, steps_of, travel_of, totals}
use Rattle.string_clip.specs.Run.{clip_outcome}
use Rattle.bin_store.specs.Sightings.{is_sighted, number_of, sight}
use Rattle.split_loops.specs.Loops.{closed, buffer_point, buffer_points, rest, all_loops, split_loops}
use Rattle.string_split.specs.Run as split
use Rattle.slice_walk.specs.Walk.{rotated, is_wide, is_nearer, move_from, nearest, find_nearest, till, walk_from, walks_from, walks, direction_of, walk_points}
use Rattle.contour.specs.Contour.{contour_of}
use Rattle.slice_cut.specs.Cutting.{walk_contours}
use Rattle.string_slice.specs.Contours.{side_bits, all_contours, slice_contours}
use Rattle.string_slice.specs.Run.{slice_outcome}
use Rattle.decimal.specs.Decimal.{worth, positive, field_of, digits, decimal, signed}
use Rattle.writing.specs.Lines.{joined, line_of, text_of}
use Rattle.text.specs.Grammar.{pieces, row, fields_in, rows_from, choices_of, parsed}
use Rattle.text.specs.Storing as text
use Rattle.text.specs.Writing.{choice_numbers}
use Rattle.text_forms.specs.Forms.{row_of, writing}
use Rattle.text_forms.specs.Reading.{old_segments_of, old_segments, parsed_in}
use Rattle.stored_text.specs.Outcome.{lot_at, lots_of, written_unless, write_outcome, move_outcome}
use Rattle.overlay.specs.Numbers.{fills_numbers, clip_numbers, slice_numbers, split_numbers, read_numbers, write_numbers, move_numbers}
use Rattle.trials.specs.Exported.{Exported}

pub exported : Exported
unfolding eq_z within lt_p eq_p coordinate in_range cross between any sum tally keep written up_from front segments_of count whole segments segment_at total coordinates pair_up cross_product around shoelace is_large side parts in_interior same_ends meets_wrongly ends_in_range rises winding_in_range bits_in_range lot_in_range fault fault_at meeting_at balance balances unbalanced_at wrong_length unknown_choice too_short first_from first asked asked_first drawing_verdict faults_of meetings_of unbalanced_of verdict fills_run clip_run spans above clockwise met bottom top filled rule_of fill_of fill fills fills_outcome sides_set keeps_sides keeps filter_of kept_links node has clear as_drawn remains taken taken_all bits_remaining first_remaining both_moves begins way over other fitting goes_on follow path_from paths_from walk through finished path_points clip_paths steps_from steps_of_path steps_of travel_of travel totals clip_outcome flatten is_sighted number_of sight closed buffer_point buffer_points rest all_loops split_loops split.out_of_range_at split.split_verdict split.split_outcome slice_run is_clockwise rotated is_wide is_nearer move_from nearest find_nearest till walk_from walks_from walks direction_of walk_points side_bits contour_of walk_contours all_contours slice_contours slice_outcome worth positive field_of pieces row fields_in rows_from choices_of parsed text.read_verdict text.read_outcome fills_numbers clip_numbers slice_numbers split_numbers read_numbers numbers_of laid digits decimal signed joined line_of text_of choice_numbers row_of writing old_segments_of old_segments parsed_in lot_at lots_of written_unless write_outcome move_outcome write_numbers move_numbers
exported = record {
  fills_refused = refl;
  fills_done = refl;
  clip_refused = refl;
  clip_done = refl;
  slice_refused = refl;
  slice_done = refl;
  split_refused = refl;
  split_done = refl;
  read_refused = refl;
  read_done = refl;
  write_refused = refl;
  write_done = refl;
  move_refused = refl;
  moved_up_lem = refl;
  moved_down_lem = refl;
}
