-- Moves over flat lists, as the code has them: each named by the end of a link that it leaves.
use Rattle.std.specs.Prelude.{List, Bool, Option, ℕ, suc, ◌+◌, ◌*◌, ◌<◌, ◌≤◌, ltb, length, get_or}
use Rattle.std.specs.Bool.{beq}
use Rattle.lists.specs.Members.{◌∈◌}
use Rattle.graph.specs.Nodes.{link_of, part}
use Rattle.moves.specs.declared.Graph as lent
use Rattle.moves.specs.declared.Link.{Link}
use Rattle.moves.specs.Bits.{clear}
use Rattle.moves.specs.Moves.{Move, move}

-- of m links: the move that leaves end e, outward or backward
unfoldable pub move_of : ℕ → Bool → ℕ → Move
move_of m out e = move (link_of m e) (beq out (ltb e m))

-- the end that a walk leaves next; none where it stops
abbrev pub NextEnd : Type 0
NextEnd = Option ℕ

-- ---- a link by value
-- link k: the nodes of its ends, and the bits that remain
unfoldable pub link_at : List ℕ → List ℕ → ℕ → Link
link_at nodes bits k = record { a = get_or nodes k 0; b = get_or nodes (length bits + k) 0; bits = get_or bits k 0 }

-- what a list of links has past its end
unfoldable pub no_link : Link
no_link = record { a = 0; b = 0; bits = 0 }

-- one bit cleared
unfoldable pub visited : Link → Bool → Link
visited l forth = record { a = l.a; b = l.b; bits = clear forth l.bits }

-- ---- nodes
-- the lists of the nodes
pub record Graph : Type 0 where
  pub flat : List ℕ
  pub starts : List ℕ
  pub nodes : List ℕ

-- these lists
abbrev pub graph : List ℕ → List ℕ → List ℕ → Graph
graph flat starts nodes = record { flat = flat; starts = starts; nodes = nodes }

-- those that the code has
abbrev pub graph_of : lent.Graph → Graph
graph_of g = graph g.flat.now g.starts.now g.nodes.now

-- of m links: the part of node v in the flat list holds ends
pub record NodeAt (m : ℕ) (flat starts : List ℕ) (v : ℕ) : Type 0 where
  pub known : suc v < length starts
  pub rising : get_or starts v 0 ≤ get_or starts (suc v) 0
  pub in_flat : get_or starts (suc v) 0 ≤ length flat
  pub ends : (f : ℕ) → f ∈ part flat starts v → f < 2 * m
