-- Lists of points, and lists of such lists, as flat lists of numbers: how they are written and read.
use Rattle.std.specs.Prelude.{◌≡◌, true, ℕ, zero, suc, length, take, drop, ℤ, pos}
use mathlib.Core.List.{List, [], ◌∷◌, map, flatten, reverse}
use Rattle.geom.specs.declared.Point.{Point}
use Rattle.geom.specs.Points.{in_range}
use Rattle.lists.specs.Members.{◌∈◌}
use Rattle.lists.specs.Written.{written}

-- x, y, x, y, ..
unfoldable pub coordinates : List Point → List ℤ
coordinates [] = []
coordinates (p ∷ l) = p.x ∷ p.y ∷ coordinates l

-- the points of such a list; a last x without its y is left out
unfoldable pub pair_up : List ℤ → List Point
pair_up [] = []
pair_up (u ∷ []) = []
pair_up (u ∷ v ∷ l) = record { x = u; y = v } ∷ pair_up l

-- the points of such a list the other way round
unfoldable pub turned_round : List ℤ → List ℤ
turned_round l = coordinates (reverse (pair_up l))

-- what stands at no place of a list of points
abbrev pub origin : Point
origin = record { x = pos 0; y = pos 0 }

-- every coordinate is in range
abbrev pub AllInRange : List Point → Type 0
AllInRange l = (p : Point) → p ∈ l → in_range p ≡ true

-- these paths stand at the front of the lent lists, x, y pairs and one length a path; past them the lists are as they were
pub record Writes (paths : List (List Point)) (points₀ : List ℤ) (lengths₀ : List ℕ) (points : List ℤ) (lengths : List ℕ) : Type 0 where
  pub points_are : points ≡ written (coordinates (flatten paths)) points₀
  pub lengths_are : lengths ≡ written (map length paths) lengths₀

-- n paths, in order, each taking as many points as its length says
unfoldable pub cut : ℕ → List ℕ → List Point → List (List Point)
cut zero lengths points = []
cut (suc n) [] points = []
cut (suc n) (k ∷ lengths) points = take k points ∷ cut n lengths (drop k points)
