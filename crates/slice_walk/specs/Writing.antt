-- What the code of the walk needs of its lists, and what it writes.
use Rattle.std.specs.Prelude.{◌≡◌, List, map, Some, None, Bool, true, ℕ, ◌*◌, ◌<◌, length, get_or, ℤ}
use Rattle.std.specs.Prelude as code
use Rattle.std.proofs.Math.Option.{Option, none, some}
use Rattle.geom.specs.declared.Point.{Point}
use Rattle.lists.specs.Written.{written}
use Rattle.lists.specs.Sums.{one}
use Rattle.segm.specs.Segments.{Drawing}
use Rattle.contour.specs.Points.{coordinates, Writes}
use Rattle.faults.specs.Faultless.{Faultless}
use Rattle.ends.specs.Ends.{end_point}
use Rattle.graph.specs.Nodes.{link_of, Nodes}
use Rattle.moves.specs.Bits.{has}
use Rattle.moves.specs.Moves.{Move, move, remains, taken_all}
use Rattle.moves.specs.ByEnd.{Graph, NextEnd, move_of}
use Rattle.slice_walk.specs.Walk.{find_nearest, walk_from, direction_of, walk_points}

-- what a slice walk over links needs of its lists
pub record SliceLists (links : Drawing) (g : Graph) (bits : List ℕ) : Type 0 where
  pub faultless : Faultless links
  pub nodes_are : Nodes links g.flat g.starts g.nodes
  pub as_many : length bits ≡ length links

-- what a call answers at end f, which the current link has there: the end that the next move leaves, or that there is none
abbrev pub NextIs : Drawing → Bool → List ℕ → ℕ → NextEnd → Type 0
NextIs links direction bits f None = find_nearest links direction (link_of (length links) f) (end_point links f) bits ≡ none
NextIs links direction bits f (Some e) =
    (find_nearest links direction (link_of (length links) f) (end_point links f) bits ≡ some (move_of (length links) direction e))
    × (e < 2 * length links)
    × (remains bits (move_of (length links) direction e) ≡ true)

-- the walk that begins with link k
abbrev pub walk_at : Drawing → List ℕ → ℕ → Option (List Move)
walk_at links bits k = walk_from links bits (move k (has true (get_or bits k 0)))

-- what a call answers for this walk, and its lists when it returns; where it finds no move, they are not looked at
abbrev pub WalkIs : Drawing → Option (List Move) → (bits₀ : List ℕ) → (points₀ : List ℤ) → code.Option ℕ → (bits : List ℕ) → (points : List ℤ) → Type 0
WalkIs links none bits₀ points₀ r bits points = r ≡ None
WalkIs links (some walk) bits₀ points₀ r bits points =
    (r ≡ Some (length walk)) × (points ≡ written (coordinates (walk_points links walk)) points₀) × (bits ≡ taken_all bits₀ walk)

-- the points of each walk
abbrev pub all_points : Drawing → List (List Move) → List (List Point)
all_points links walks = map (walk_points links) walks

-- the direction of each walk, 1 for true
abbrev pub directions : List (List Move) → List ℕ
directions walks = map (λ walk. one (direction_of walk)) walks

-- the same for all walks: their points and lengths, and their directions
abbrev pub WalksAre : Drawing → Option (List (List Move)) → (points₀ : List ℤ) → (lengths₀ directions₀ : List ℕ) → code.Option ℕ → (points : List ℤ) → (lengths directions : List ℕ) → Type 0
WalksAre links none points₀ lengths₀ directions₀ r points lengths dirs = r ≡ None
WalksAre links (some walks) points₀ lengths₀ directions₀ r points lengths dirs =
    (r ≡ Some (length walks)) × Writes (all_points links walks) points₀ lengths₀ points lengths × (dirs ≡ written (directions walks) directions₀)
