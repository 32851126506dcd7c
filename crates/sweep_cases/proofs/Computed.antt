-- The sweep, as it is defined, has the unchanged Rust's fills on small drawings: with document 01's scan and with the ordered list of the open segments.
-- By computing.
use mathlib.Core.Path.{◌≡◌, refl}
use mathlib.Core.List.{List, map}
use Prim.Native.Nat.{ℕ}
use lib.IntN.{pos}
use Rattle.geom.specs.Points.{eq_z, eq_p, cross}
use Rattle.lists.specs.UpFrom.{up_from}
use Rattle.lists.specs.Members.{keep}
use Rattle.segm.specs.Segments.{front, segments_of, count, segments, segment_at}
use Rattle.meetings.specs.Meetings.{side}
use Rattle.ends.specs.Ordering.{insert, ordering}
use Rattle.strip.specs.Strip.{is_vertical, above, reach, height, gap, falls, under}
use Rattle.scan.specs.Scan.{is_below, insert_at}
use Rattle.fill_rule.specs.FillRule.{filled, rule_of, fill_of}
use Rattle.sweep.specs.Sweep.{starting_at, node_size, node_from, turn_before, visit, visit_node, sweep_from, sweep_with}
use Rattle.sweep.specs.Stored.{is_under, higher, highest, count_of, stored_count, store_top, sweep_into, sweep}
use Rattle.sweep.specs.Open.{still_open, bisect, place_by, place_of, seek_open, count_open, store_open, open_sweep}
use Rattle.sweep_cases.proofs.Drawings.{Drawn, drawings}

abbrev drawn_fills : List (List ℕ)
drawn_fills = map (λ (c : Drawn). c.fills) drawings

pub swept : map (λ (c : Drawn). sweep (rule_of c.rule) (segments c.numbers)) drawings ≡ drawn_fills
unfolding sweep sweep_into sweep_with sweep_from visit_node visit node_from node_size starting_at is_vertical stored_count store_top count_of highest higher is_under under falls gap height reach above side cross turn_before ordering insert up_from segment_at segments segments_of count front eq_p eq_z rule_of fill_of filled
swept = refl

-- the lists of counts and of fills held something before
pub opened : map (λ (c : Drawn). open_sweep (rule_of c.rule) (segments c.numbers) (map (λ s. pos 7) (segments c.numbers)) (map (λ s. 99) (segments c.numbers))) drawings ≡ drawn_fills
unfolding open_sweep sweep_with sweep_from visit_node visit node_from node_size starting_at is_vertical seek_open count_open store_open still_open place_of is_below place_by bisect insert_at keep above side cross turn_before ordering insert up_from segment_at segments segments_of count front eq_p eq_z rule_of fill_of filled
opened = refl
