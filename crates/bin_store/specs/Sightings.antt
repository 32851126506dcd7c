-- First sightings: a map from points to the numbers that their first sightings stored.
use Rattle.std.specs.Prelude.{List, [], ◌∷◌, ◌++◌, Bool, cond, ℕ}
use Rattle.geom.specs.declared.Point.{Point}
use Rattle.geom.specs.Points.{eq_p}
use Rattle.lists.specs.Members.{any}

-- a point, and the number that its first sighting stored
pub record Sighting : Type 0 where
  pub point : Point
  pub number : ℕ

-- the sighting of p with this number
abbrev pub sighting : Point → ℕ → Sighting
sighting p number = record { point = p; number = number }

-- p was sighted
unfoldable pub is_sighted : List Sighting → Point → Bool
is_sighted m p = any (λ (s : Sighting). eq_p s.point p) m

-- the number stored for p, 0 for none
unfoldable pub number_of : List Sighting → Point → ℕ
number_of [] p = 0
number_of (s ∷ m) p = cond (eq_p s.point p) s.number (number_of m p)

-- a first sighting of p stores the number; none is forgotten or renewed
unfoldable pub sight : List Sighting → Point → ℕ → List Sighting
sight m p number = cond (is_sighted m p) m (m ++ (sighting p number ∷ []))
