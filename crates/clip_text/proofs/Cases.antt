-- Texts and what is printed for them, by computing: document 01's case A, inside and outside, and refusals in their order.
use mathlib.Core.Path.{◌≡◌, refl}
use mathlib.Core.List.{flatten}
use Prim.Native.String.{String}
use Rattle.geom.specs.Points.{eq_z, within, lt_p, eq_p, coordinate, in_range, cross, between, travel}
use Rattle.lists.specs.Members.{any, keep}
use Rattle.lists.specs.Sums.{sum, tally}
use Rattle.lists.specs.Written.{written}
use Rattle.lists.specs.UpFrom.{up_from}
use Rattle.segm.specs.Segments.{front, segments_of, count, whole, segments, segment_at, total}
use Rattle.meetings.specs.Meetings.{side, parts, in_interior, same_ends, meets_wrongly}
use Rattle.balance.specs.Balance.{balance, balances}
use Rattle.faults.specs.Faults.{ends_in_range, rises, winding_in_range, bits_in_range, lot_in_range, fault, fault_at, faults_of}
use Rattle.drawing_check.specs.Drawing.{meeting_at, unbalanced_at, meetings_of, unbalanced_of, drawing_verdict}
use Rattle.refusal.specs.Asked.{wrong_length, unknown_choice, too_short, asked_first}
use Rattle.refusal.specs.Order.{first_from, first}
use Rattle.checks.specs.Runs.{asked, verdict, clip_run}
use Rattle.fill_rule.specs.FillRule.{filled, rule_of, fill_of}
use Rattle.strip.specs.Strip.{spans, above, clockwise}
use Rattle.ray.specs.Ray.{met, bottom, top, fill}
use Rattle.build.specs.Links.{sides_set, keeps_sides, keeps, filter_of, kept_links}
use Rattle.graph.specs.Nodes.{node}
use Rattle.moves.specs.Bits.{has, clear}
use Rattle.moves.specs.Steps.{as_drawn, way, other, fitting}
use Rattle.moves.specs.Moves.{remains, taken, taken_all, bits_remaining, over}
use Rattle.moves.specs.Begins.{first_remaining, both_moves, begins}
use Rattle.clip_walk.specs.Walk.{goes_on, follow, path_from, paths_from, walk}
use Rattle.clip_paths.specs.Paths.{through, finished, path_points, clip_paths, steps_from, steps_of_path, steps_of, travel_of, totals}
use Rattle.contour.specs.Points.{coordinates, pair_up, cut}
use Rattle.string_clip.specs.Run.{clip_outcome, output}
use Rattle.decimal.specs.Decimal.{worth, positive, field_of, digits, decimal, signed}
use Rattle.text.specs.Grammar.{pieces, row, fields_in, rows_from, choices_of, parsed}
use Rattle.text_forms.specs.Reading.{parsed_in}
use Rattle.writing.specs.Lines.{joined, line_of, refused_line}
use Rattle.decimal.proofs.Spelled.{bytes}
use Rattle.clip_print.specs.Printed.{point_line, path_lines, paths_lines, total_line, printed}
use Rattle.clip_text.specs.Answer.{text_outcome, answer_to}

-- this text has this answer
abbrev Prints : String → String → Type 0
Prints text answer = answer_to (bytes text) ≡ bytes answer

pub record Cases : Type 0 where
  pub inside-A : Prints "1,0,1\n-5,5,0,5,0,1,0\n0,0,0,5,-1,0,0\n0,0,10,0,1,0,0\n0,5,0,10,-1,0,0\n0,5,10,5,0,1,0\n0,10,10,10,-1,0,0\n10,0,10,5,1,0,0\n10,5,10,10,1,0,0\n10,5,15,5,0,1,0\n"
      "0,0,0,5\n0,1,10,5\ntotal,1,2,1,10\n"
  pub outside-A : Prints "1,1,1\n-5,5,0,5,0,1,0\n0,0,0,5,-1,0,0\n0,0,10,0,1,0,0\n0,5,0,10,-1,0,0\n0,5,10,5,0,1,0\n0,10,10,10,-1,0,0\n10,0,10,5,1,0,0\n10,5,10,10,1,0,0\n10,5,15,5,0,1,0\n"
      "0,0,-5,5\n0,1,0,5\n1,0,10,5\n1,1,15,5\ntotal,2,4,2,10\n"
  pub no_segments : Prints "1,0,1\n" "total,0,0,0,0\n"
  pub malformed : Prints "1,0,1\n0,0,2,0,0,01,0\n" "refused,1,2\n"
  -- a bad line before an unknown choice before a coordinate out of range
  pub text_first : Prints "4,0,1\n16777217,0,16777218,0,0,1,0\n0\n" "refused,1,3\n"
  pub choice_next : Prints "4,0,1\n16777217,0,16777218,0,0,1,0\n" "refused,10,0\n"
  pub drawing_last : Prints "3,0,1\n16777217,0,16777218,0,0,1,0\n" "refused,3,0\n"
  -- a lot out of range, and one in range, which is not printed
  pub lot_out : Prints "1,1,1\n0,0,2,0,0,1,10000\n" "refused,13,0\n"
  pub lot_taken : Prints "1,1,1\n0,0,2,0,0,1,9999\n" "0,0,0,0\n0,1,2,0\ntotal,1,2,1,2\n"
  pub meeting : Prints "1,0,1\n0,0,2,0,0,1,0\n1,0,1,1,0,1,0\n" "refused,8,0\n"

pub cases : Cases
unfolding clip_run verdict asked asked_first drawing_verdict faults_of meetings_of unbalanced_of wrong_length unknown_choice too_short first first_from fault_at meeting_at unbalanced_at fault ends_in_range rises winding_in_range bits_in_range lot_in_range balance balances meets_wrongly parts in_interior same_ends side total any sum tally keep written up_from front segments_of count whole segments segment_at eq_z within lt_p eq_p coordinate in_range cross between spans above clockwise met bottom top filled rule_of fill_of fill sides_set keeps_sides keeps filter_of kept_links node has clear as_drawn remains taken taken_all bits_remaining first_remaining both_moves begins way over other fitting goes_on follow path_from paths_from walk through finished path_points clip_paths steps_from steps_of_path steps_of travel_of travel totals coordinates flatten clip_outcome worth positive field_of digits decimal signed pieces row fields_in rows_from choices_of parsed parsed_in joined line_of point_line path_lines paths_lines total_line refused_line printed pair_up cut output text_outcome answer_to
cases = record { inside-A = refl; outside-A = refl; no_segments = refl; malformed = refl; text_first = refl; choice_next = refl; drawing_last = refl; lot_out = refl; lot_taken = refl; meeting = refl }
