-- The clip walk: by its moves, each of which takes one line bit of one link.
use Rattle.std.specs.Prelude.{List, [], ◌∷◌, map, Bool, ℕ, zero, suc, nat_abs}
use Rattle.std.proofs.Math.Option.{Option, none, some}
use Rattle.geom.specs.declared.Point.{Point}
use Rattle.segm.specs.declared.Segment.{Segment}
use Rattle.segm.specs.Segments.{Drawing, segment_at}
use Rattle.graph.specs.Nodes.{node}
use Rattle.moves.specs.Steps.{fitting}
use Rattle.moves.specs.Moves.{Move, move, taken, taken_all, bits_remaining, over}
use Rattle.moves.specs.Begins.{first_remaining, begins}

-- the line bits of each link
abbrev pub line_bits : Drawing → List ℕ
line_bits links = map (λ (s : Segment). nat_abs s.bits) links

-- the first link of the list of the node at p, the current one too, whose bit fits
unfoldable pub goes_on : Drawing → Bool → Point → List ℕ → Option Move
goes_on links out p bits = first_remaining bits (map (λ k. move k (fitting out p (segment_at links k))) (node links p))

-- ---- paths
-- what follows a move, nothing where there is none
abbrev pub and_then : {A : Type 0} → Option Move → (Move → List A) → List A
and_then none f = []
and_then (some m) f = f m

-- the moves on from p, till none fits. (Each takes a line bit, so as many turns as bits remain are enough)
unfoldable pub follow : ℕ → Drawing → Bool → Point → List ℕ → List Move
follow zero links out p bits = []
follow (suc turns) links out p bits = and_then (goes_on links out p bits) (λ m. m ∷ follow turns links out (over links out m).end (taken bits m))

-- the path that begins with m: with bit 1 it goes outward, otherwise backward. So it starts a, b
unfoldable pub path_from : Drawing → List ℕ → Move → List Move
path_from links bits m =
    let rest = taken bits m in
    m ∷ follow (bits_remaining rest) links m.forth (over links m.forth m).end rest

-- path after path, each from the lowest link of which a line bit remains
unfoldable pub paths_from : ℕ → Drawing → List ℕ → List (List Move)
paths_from zero links bits = []
paths_from (suc turns) links bits = and_then (begins links bits) (λ m. let path = path_from links bits m in path ∷ paths_from turns links (taken_all bits path))

-- the clip walk: all line bits remain at first
unfoldable pub walk : Drawing → List (List Move)
walk links = paths_from (bits_remaining (line_bits links)) links (line_bits links)
