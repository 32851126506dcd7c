-- Paths as points, their steps and travel, and what they come to.
use mathlib.Core.List.{List, [], ◌∷◌, ◌++◌, map, flatten, reverse}
use Rattle.std.specs.Prelude.{Bool, true, false, ℕ, length}
use Rattle.geom.specs.declared.Point.{Point}
use Rattle.geom.specs.Points.{travel}
use Rattle.lists.specs.Sums.{tally}
use Rattle.segm.specs.Segments.{Drawing}
use Rattle.fill_rule.specs.declared.Rule.{Rule}
use Rattle.build.specs.declared.filter.Filter.{Filter}
use Rattle.build.specs.Links.{kept_links}
use Rattle.moves.specs.Steps.{Step, step}
use Rattle.moves.specs.Moves.{Move, over}
use Rattle.clip_walk.specs.Walk.{walk}
use Rattle.clip_paths.specs.declared.Totals.{Totals}

-- the points that moves come through, the first included
unfoldable pub through : Drawing → Bool → List Move → List Point
through links out [] = []
through links out (m ∷ l) = (over links out m).start ∷ map (λ n. (over links out n).end) (m ∷ l)

-- a backward path is reversed when finished
unfoldable pub finished : Bool → List Point → List Point
finished true points = points
finished false points = reverse points

-- the points of a path: it goes outward if its first move takes bit 1
unfoldable pub path_points : Drawing → List Move → List Point
path_points links [] = []
path_points links (m ∷ l) = finished m.forth (through links m.forth (m ∷ l))

-- the paths of a clip run
unfoldable pub clip_paths : Rule → Filter → Drawing → List (List Point)
clip_paths rule filter d = let links = kept_links rule filter d in map (path_points links) (walk links)

-- ---- steps
-- the steps on from p: two neighbouring points of one path, from the earlier to the later
unfoldable pub steps_from : Point → List Point → List Step
steps_from p [] = []
steps_from p (q ∷ l) = step p q ∷ steps_from q l

-- the steps of a path
unfoldable pub steps_of_path : List Point → List Step
steps_of_path [] = []
steps_of_path (p ∷ l) = steps_from p l

-- the steps of all paths
unfoldable pub steps_of : List (List Point) → List Step
steps_of [] = []
steps_of (path ∷ paths) = steps_of_path path ++ steps_of paths

-- the travel of a step
unfoldable pub travel_of : Step → ℕ
travel_of σ = travel σ.start σ.end

-- ---- what paths come to
-- four numbers: paths, points, steps and travel
unfoldable pub totals : List (List Point) → Totals
totals paths = record {
  paths = length paths;
  points = length (flatten paths);
  steps = length (steps_of paths);
  travel = tally travel_of (steps_of paths);
}
