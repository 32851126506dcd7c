-- What the code asks of its links, and what it writes: the points of moves named by ends, one path, all paths, and their travel.
use Rattle.std.specs.Prelude.{◌≡◌, Bool, true, ℕ, ◌+◌, ◌*◌, length, get_or}
use mathlib.Core.List.{List, [], ◌∷◌, map}
use Rattle.geom.specs.declared.Point.{Point}
use Rattle.geom.specs.Points.{travel}
use Rattle.segm.specs.Segments.{Drawing}
use Rattle.ends.specs.Ends.{end_point}
use Rattle.graph.specs.Nodes.{other_end, Nodes}
use Rattle.checks.specs.Accepted.{Good}
use Rattle.moves.specs.Bits.{has, bits_set}
use Rattle.moves.specs.Moves.{Move, move, bits_remaining}
use Rattle.moves.specs.ByEnd.{Graph}
use Rattle.clip_walk.specs.Walk.{path_from, paths_from}
use Rattle.clip_paths.specs.Paths.{finished, path_points}

-- ---- points
-- the points that the moves which leave these ends come through
unfoldable pub through_ends : Drawing → List ℕ → List Point
through_ends links [] = []
through_ends links (e ∷ es) = end_point links e ∷ map (λ f. end_point links (other_end (length links) f)) (e ∷ es)

-- the points of the path: a backward path is reversed
unfoldable pub ends_points : Drawing → Bool → List ℕ → List Point
ends_points links out es = finished out (through_ends links es)

-- ---- a path
-- the path that begins with link k
abbrev pub path_at : Drawing → List ℕ → ℕ → List Move
path_at links bits k = path_from links bits (move k (has true (get_or bits k 0)))

-- what a clip walk over links needs of its lists. The links are all segments of a drawing, and only their ends count: their line bits are those of the list
pub record ClipLists (links : Drawing) (g : Graph) (bits : List ℕ) : Type 0 where
  pub good : Good links
  pub nodes_are : Nodes links g.flat g.starts g.nodes
  pub as_many : length bits ≡ length links

-- ---- all paths
-- those of the line bits of a list
abbrev pub bits_paths : Drawing → List ℕ → List (List Point)
bits_paths links bits = map (path_points links) (paths_from (bits_remaining bits) links bits)

-- the travel of all steps over links, one for each line bit of the list
unfoldable pub travel_over : Drawing → List ℕ → ℕ
travel_over [] bits = 0
travel_over (s ∷ links) [] = 0
travel_over (s ∷ links) (b ∷ bits) = bits_set b * travel s.a s.b + travel_over links bits
