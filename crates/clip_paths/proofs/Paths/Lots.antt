-- Lots count for no path: the kept links are the same but for their lots, and so are their ends and line bits.
use mathlib.Core.Path.{◌≡◌, ◌∙◌, ap}
use mathlib.Core.List.{map, map-map}
use lib.IntN.{nat_abs}
use Rattle.segm.specs.declared.Segment.{Segment}
use Rattle.segm.specs.Segments.{Drawing}
use Rattle.segm.specs.Lots.{unlotted}
use Rattle.lists.proofs.Members.{keep_map, keep_cong}
use Rattle.fill_rule.specs.declared.Rule.{Rule}
use Rattle.ray.specs.Ray.{fill}
use Rattle.ray.proofs.Fills.{fill-unlotted}
use Rattle.build.specs.declared.filter.Filter.{Filter}
use Rattle.build.specs.Links.{keeps, kept_links}
use Rattle.moves.proofs.SameEnds.{unlotted_ends}
use Rattle.clip_walk.specs.Walk.{line_bits, walk}
use Rattle.clip_paths.specs.Paths.{clip_paths}
use Rattle.clip_paths.specs.Writing.{bits_paths}
use Rattle.clip_paths.proofs.Paths.NoLines.{links_paths}
use Rattle.clip_paths.proofs.Paths.SameEnds.{paths_same}

kept_unlotted : (rule : Rule) (filter : Filter) (d : Drawing) → kept_links rule filter (map unlotted d) ≡ map unlotted (kept_links rule filter d)
unfolding kept_links
kept_unlotted rule filter d =
    keep_map (λ s. keeps filter (fill rule (map unlotted d) s)) unlotted d
    ∙ ap (map unlotted) (keep_cong (λ s. keeps filter (fill rule (map unlotted d) (unlotted s))) (λ s. keeps filter (fill rule d s)) d (λ s m. ap (keeps filter) (fill-unlotted rule d s)))

links_unlotted : (links : Drawing) → links_paths (map unlotted links) ≡ links_paths links
unfolding walk
links_unlotted links =
    ap (bits_paths (map unlotted links)) (map-map (λ (s : Segment). nat_abs s.bits) unlotted links) ∙ paths_same (unlotted_ends links) (line_bits links)

pub paths_unlotted : (rule : Rule) (filter : Filter) (d : Drawing) → clip_paths rule filter (map unlotted d) ≡ clip_paths rule filter d
unfolding clip_paths
paths_unlotted rule filter d = ap links_paths (kept_unlotted rule filter d) ∙ links_unlotted (kept_links rule filter d)
