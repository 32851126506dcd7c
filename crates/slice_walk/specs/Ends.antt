-- The choice of the next move over flat lists, as the code goes: a move is named by the end of a link that it leaves.
use Rattle.std.specs.Prelude.{List, [], ◌∷◌, Some, None, Bool, not, ◌&&◌, cond, ℕ, eqb, length}
use Rattle.geom.specs.declared.Point.{Point}
use Rattle.segm.specs.Segments.{Drawing}
use Rattle.ends.specs.Ends.{end_point}
use Rattle.graph.specs.Nodes.{other_end}
use Rattle.moves.specs.Moves.{remains}
use Rattle.moves.specs.ByEnd.{NextEnd, move_of}
use Rattle.slice_walk.specs.Walk.{is_nearer}

-- where the link of end e leads from there
unfoldable pub far_point : Drawing → ℕ → Point
far_point links e = end_point links (other_end (length links) e)

-- the nearer of the best end so far and e to a, turning about c, where they are left
unfoldable pub add_end : Drawing → Bool → Point → Point → NextEnd → ℕ → NextEnd
add_end links direction c a None e = Some e
add_end links direction c a (Some b) e = cond (is_nearer direction c a (far_point links b) (far_point links e)) (Some e) (Some b)

-- e is another end than f, and can be left
unfoldable pub is_other : Drawing → Bool → ℕ → List ℕ → ℕ → Bool
is_other links direction f bits e = not (eqb e f) && remains bits (move_of (length links) direction e)

-- the nearest of the best end so far and these ends at the point of f, whose link is the current one, those passed over that are f or cannot be left
unfoldable pub nearest_end : Drawing → Bool → ℕ → List ℕ → NextEnd → List ℕ → NextEnd
nearest_end links direction f bits best [] = best
nearest_end links direction f bits best (e ∷ es) =
    nearest_end links direction f bits (cond (is_other links direction f bits e) (add_end links direction (end_point links f) (far_point links f) best e) best) es

-- the end that is left, if one is, has P
abbrev pub Leaving : (ℕ → Type 0) → NextEnd → Type 0
Leaving P None = Unit {0}
Leaving P (Some e) = P e
