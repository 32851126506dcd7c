-- Walks cut into loops, and loops made contours: what contours there are, and how they stand in lists.
use Rattle.std.specs.Prelude.{◌≡◌, Bool, ℕ, ◌*◌, ◌≤◌, eqb, length, ℤ}
use mathlib.Core.List.{List, [], ◌∷◌, ◌++◌, map, flatten}
use Rattle.geom.specs.declared.Point.{Point}
use Rattle.lists.specs.Sums.{tally}
use Rattle.lists.specs.Written.{written}
use Rattle.contour.specs.Points.{coordinates, pair_up, AllInRange, cut}
use Rattle.contour.specs.Contour.{Contour, contour_of}
use Rattle.split_loops.specs.Loops.{split_loops}
use Rattle.slice_cut.specs.declared.Contours.{Contours}

-- ---- contours
-- the contours of a walk: its loops that reach the minimum area, each made a contour
unfoldable pub walk_contours : (clockwise : Bool) → ℕ → (direction : Bool) → List Point → List Contour
walk_contours clockwise least direction points = map (contour_of clockwise direction) (split_loops least points)

-- the points of each contour
abbrev pub points_of : List Contour → List (List Point)
points_of contours = map (λ (c : Contour). c.points) contours

-- the role of each contour
abbrev pub roles_of : List Contour → List ℕ
roles_of contours = map (λ (c : Contour). c.role) contours

-- how many contours and points these are
abbrev pub counts : List Contour → Contours
counts contours = record { contours = length contours; points = length (flatten (points_of contours)) }

-- ---- in lists
-- these contours stand at the fronts of the lists; past them the lists are as they were
pub record Holds (contours : List Contour) (points₀ : List ℤ) (lengths₀ roles₀ : List ℕ) (points : List ℤ) (lengths roles : List ℕ) : Type 0 where
  pub points_are : points ≡ written (coordinates (flatten (points_of contours))) points₀
  pub lengths_are : lengths ≡ written (map length (points_of contours)) lengths₀
  pub roles_are : roles ≡ written (roles_of contours) roles₀

-- paths as they stand in lists, one length a path
abbrev pub paths_in : List ℤ → List ℕ → List (List Point)
paths_in points lengths = cut (length lengths) lengths (pair_up points)

-- the contours of walks with their directions, 1 for true
unfoldable pub cut_walks : (clockwise : Bool) → ℕ → List (List Point) → List ℕ → List Contour
cut_walks clockwise least [] directions = []
cut_walks clockwise least (walk ∷ walks) [] = []
cut_walks clockwise least (walk ∷ walks) (direction ∷ directions) = walk_contours clockwise least (eqb direction 1) walk ++ cut_walks clockwise least walks directions

-- paths that stand in lists, few and in range
pub record Stand (points : List ℤ) (lengths : List ℕ) : Type 0 where
  pub inside : 2 * tally (λ n. n) lengths ≤ length points
  pub few : tally (λ n. n) lengths ≤ 2048
  pub near : AllInRange (flatten (paths_in points lengths))
