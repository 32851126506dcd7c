-- The walk over flat lists, as the code goes: a move is named by the end of a link that it leaves.
use Rattle.std.specs.Prelude.{find, List, [], ◌∷◌, map, Some, None, Bool, cond, ℕ, zero, suc, ◌*◌, ◌<◌, ◌≤◌, length, get_or}
use Rattle.graph.specs.Nodes.{other_end, part}
use Rattle.moves.specs.declared.Link.{Link}
use Rattle.moves.specs.Moves.{remains, taken, taken_all, bits_remaining}
use Rattle.moves.specs.ByEnd.{Graph, NextEnd, move_of, NodeAt}

-- ---- the next move
-- the node of the end that is not at the walk's point
unfoldable pub far_node : Link → Bool → ℕ
far_node l at_start = cond at_start l.b l.a

-- the first of these ends whose line bit remains
unfoldable pub first_end : ℕ → Bool → List ℕ → List ℕ → NextEnd
first_end m out bits = find (λ e. remains bits (move_of m out e))

-- having left end e, at the node of the link's other end
unfoldable pub next_end : Graph → Bool → List ℕ → ℕ → NextEnd
next_end g out bits e = first_end (length bits) out bits (part g.flat g.starts (get_or g.nodes (other_end (length bits) e) 0))

-- the bits that remain after the next move
abbrev pub taken_by : Bool → List ℕ → NextEnd → List ℕ
taken_by out bits None = bits
taken_by out bits (Some e) = taken bits (move_of (length bits) out e)

-- what follows the end that is left, nothing where the walk stops
abbrev pub onward : {A : Type 0} → NextEnd → (ℕ → List A) → List A
onward None f = []
onward (Some e) f = f e

-- ---- the moves on from an end that was left
-- the ends that the moves leave, till none fits. (Each takes a line bit, so as many turns as bits remain are enough)
unfoldable pub follow_ends : ℕ → Graph → Bool → ℕ → List ℕ → List ℕ
follow_ends zero g out e bits = []
follow_ends (suc turns) g out e bits = onward (next_end g out bits e) (λ f. f ∷ follow_ends turns g out f (taken bits (move_of (length bits) out f)))

-- from the next move on
unfoldable pub moves_on : Graph → Bool → List ℕ → NextEnd → List ℕ
moves_on g out bits None = []
moves_on g out bits (Some e) = e ∷ follow_ends (bits_remaining bits) g out e bits

-- the bits that remain after the last of these moves
unfoldable pub bits_after : Graph → Bool → List ℕ → NextEnd → List ℕ
bits_after g out bits None = bits
bits_after g out bits (Some e) = taken_all bits (map (move_of (length bits) out) (follow_ends (bits_remaining bits) g out e bits))

-- ---- what the lists of m links hold
-- every end has a node
pub record NodesKnown (m : ℕ) (g : Graph) : Type 0 where
  pub few : m ≤ 1024
  pub each_end : 2 * m ≤ length g.nodes
  pub at-node : (e : ℕ) → e < 2 * m → NodeAt m g.flat g.starts (get_or g.nodes e 0)
