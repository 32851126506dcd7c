-- The worked cases of the mistakes near at hand, by computing.
use mathlib.Core.Path.{refl, ap}
use mathlib.Core.List.{flatten}
use native.Mathlib.Omega.{arith}
use lib.ListN.{length, get_or}
use Rattle.geom.specs.Points.{eq_z, lt_p, eq_p, cross}
use Rattle.lists.specs.Members.{any, keep}
use Rattle.lists.specs.Sums.{sum, tally}
use Rattle.lists.specs.UpFrom.{up_from}
use Rattle.segm.specs.Segments.{front, segments_of, count, whole, segments, segment_at, total}
use Rattle.meetings.specs.Meetings.{side}
use Rattle.fill_rule.specs.FillRule.{filled, fill_of}
use Rattle.strip.specs.Strip.{spans, above, clockwise}
use Rattle.ray.specs.Ray.{met, bottom, top, fill, fills}
use Rattle.build.specs.Links.{sides_set, keeps_sides, keeps, kept_links}
use Rattle.graph.specs.Nodes.{node}
use Rattle.moves.specs.Bits.{has, clear}
use Rattle.moves.specs.Steps.{as_drawn, way, other, fitting}
use Rattle.moves.specs.Moves.{remains, taken, taken_all, bits_remaining, over}
use Rattle.moves.specs.Begins.{first_remaining, both_moves, begins}
use Rattle.clip_walk.specs.Walk.{goes_on, follow, path_from, paths_from, walk}
use Rattle.clip_paths.specs.Paths.{through, finished, path_points, clip_paths}
use Rattle.bin_store.specs.Sightings.{is_sighted, number_of, sight}
use Rattle.split_loops.specs.Loops.{closed, buffer_point, buffer_points, rest, all_loops}
use Rattle.trials.specs.Mistakes.{forgetful, met_too, fills_too, Mistakes}

pub mistakes : Mistakes
unfolding eq_z lt_p eq_p cross any keep sum tally up_from front segments_of count whole segments segment_at total side filled fill_of spans above clockwise met bottom top fill fills sides_set keeps_sides keeps kept_links node has clear as_drawn way other fitting remains taken taken_all bits_remaining over first_remaining both_moves begins goes_on follow path_from paths_from walk through finished path_points clip_paths is_sighted number_of sight closed buffer_point buffer_points rest all_loops forgetful met_too fills_too flatten
mistakes = record {
  edge_not_kept = refl;
  edge_kept = refl;
  not_extended = refl;
  extended = λ e. omega (arith, ap length e);
  remembered = refl;
  forgotten = λ e. omega (arith, ap (λ loops. length (flatten loops)) e);
  left_out = refl;
  added_in = λ e. omega (arith, ap (λ l. get_or l 7 0) e);
}
