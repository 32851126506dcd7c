-- Moves: each goes over one link and takes one of its two bits. The list `bits` has the bits that remain, one entry for each link.
use Rattle.std.specs.Prelude.{◌≡◌, List, [], ◌∷◌, Bool, true, ℕ, ◌<◌, length, get_or, set}
use Rattle.lists.specs.Sums.{tally}
use Rattle.segm.specs.Segments.{Drawing, segment_at}
use Rattle.moves.specs.Bits.{has, clear, bits_set}
use Rattle.moves.specs.Steps.{Step, as_drawn, way}

-- the link, and which of its bits is taken
pub record Move : Type 0 where
  pub place : ℕ
  pub forth : Bool

-- the move over link k that takes this bit
abbrev pub move : ℕ → Bool → Move
move k forth = record { place = k; forth = forth }

-- the bit that a move takes remains
unfoldable pub remains : List ℕ → Move → Bool
remains bits m = has m.forth (get_or bits m.place 0)

-- a move that can be made: its link is there and its bit remains
pub record Makes (links : Drawing) (bits : List ℕ) (m : Move) : Type 0 where
  pub within : m.place < length links
  pub bit_remains : remains bits m ≡ true

-- the bits that remain after a move
unfoldable pub taken : List ℕ → Move → List ℕ
taken bits m = set bits m.place (clear m.forth (get_or bits m.place 0))

-- and after several, one after the other
unfoldable pub taken_all : List ℕ → List Move → List ℕ
taken_all bits [] = bits
taken_all bits (m ∷ l) = taken_all (taken bits m) l

-- moves that take bits which remain
abbrev pub Takes : List ℕ → List Move → Type 0
Takes bits [] = Unit {0}
Takes bits (m ∷ l) = (remains bits m ≡ true) × Takes (taken bits m) l

-- how many bits remain in all links
unfoldable pub bits_remaining : List ℕ → ℕ
bits_remaining bits = tally bits_set bits

-- the step that a move makes in a walk that goes outward or backward
unfoldable pub over : Drawing → Bool → Move → Step
over links out m = way out (as_drawn m.forth (segment_at links m.place))
