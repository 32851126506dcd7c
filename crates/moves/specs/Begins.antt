-- Where a walk begins.
use Rattle.std.specs.Prelude.{List, [], ◌∷◌, true, false, cond, ℕ, length}
use Rattle.std.proofs.Math.Option.{Option, none, some}
use Rattle.lists.specs.UpFrom.{up_from}
use Rattle.segm.specs.Segments.{Drawing}
use Rattle.moves.specs.Moves.{Move, move, remains}

-- the first of these moves whose bit remains
unfoldable pub first_remaining : List ℕ → List Move → Option Move
first_remaining bits [] = none
first_remaining bits (m ∷ l) = cond (remains bits m) (some m) (first_remaining bits l)

-- both moves of each link, bit 1 before bit 2
unfoldable pub both_moves : List ℕ → List Move
both_moves [] = []
both_moves (k ∷ l) = move k true ∷ move k false ∷ both_moves l

-- the lowest link of which a bit remains: bit 1 if it does, otherwise bit 2
unfoldable pub begins : Drawing → List ℕ → Option Move
begins links bits = first_remaining bits (both_moves (up_from 0 (length links)))
