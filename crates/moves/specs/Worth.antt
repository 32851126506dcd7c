-- What the bits of links come to, for any worth of a step. Laws cite these, no contract does.
use Rattle.std.specs.Prelude.{List, [], ◌∷◌, true, false, cond, ℕ, ◌+◌}
use Rattle.segm.specs.declared.Segment.{Segment}
use Rattle.segm.specs.Segments.{Drawing, segment_at}
use Rattle.moves.specs.Bits.{has}
use Rattle.moves.specs.Steps.{Step, as_drawn}
use Rattle.moves.specs.Moves.{Move}

module _ (f : Step → ℕ) where
  -- what the bits b of s come to
  abbrev pub value : Segment → ℕ → ℕ
  value s b = cond (has true b) (f (as_drawn true s)) 0 + cond (has false b) (f (as_drawn false s)) 0

  -- what the bits that remain come to
  unfoldable pub worth : Drawing → List ℕ → ℕ
  worth [] bits = 0
  worth (s ∷ links) [] = 0
  worth (s ∷ links) (b ∷ bits) = value s b + worth links bits

-- every step counts one
abbrev pub ones : Step → ℕ
ones σ = 1

-- the step of a move, in the direction of its bit
abbrev pub drawn_by : Drawing → Move → Step
drawn_by links m = as_drawn m.forth (segment_at links m.place)
