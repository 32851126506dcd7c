-- The contours of a slice: its walks, cut into loops, each with its role and turned round where it must be.
use Rattle.std.specs.Prelude.{List, [], ◌∷◌, ◌++◌, map, Bool, ℕ, ◌%◌}
use Rattle.std.proofs.Math.Option.{Option, none, some}
use Rattle.segm.specs.Segments.{Drawing}
use Rattle.contour.specs.Contour.{Contour}
use Rattle.fill_rule.specs.declared.Rule.{Rule}
use Rattle.ray.specs.Ray.{fills}
use Rattle.moves.specs.Moves.{Move}
use Rattle.slice_walk.specs.Walk.{walks, direction_of, walk_points}
use Rattle.slice_cut.specs.Cutting.{walk_contours}

-- links are all segments, bits their side bits
unfoldable pub side_bits : Rule → Drawing → List ℕ
side_bits rule d = map (λ f. f % 4) (fills rule d)

-- the contours of all walks: one list in order of making
unfoldable pub all_contours : (clockwise : Bool) → ℕ → Drawing → List (List Move) → List Contour
all_contours clockwise least links [] = []
all_contours clockwise least links (walk ∷ walks) = walk_contours clockwise least (direction_of walk) (walk_points links walk) ++ all_contours clockwise least links walks

-- f of the walks, where none is stuck
abbrev pub of_walks : {A B : Type 0} → (A → B) → Option A → Option B
of_walks f none = none
of_walks f (some w) = some (f w)

-- the contours of a slice; none where a walk finds no move
unfoldable pub slice_contours : Rule → (clockwise : Bool) → ℕ → Drawing → Option (List Contour)
slice_contours rule clockwise least d = of_walks (all_contours clockwise least d) (walks d (side_bits rule d))
