-- A drawing: its segments, how they are read from a flat list of numbers and laid into one, and sums of their windings.
-- A segment is the code's own record, its numbers read as integers. The contracts of `segm` cite these.
use Rattle.std.specs.Prelude.{List, [], ◌∷◌, ◌++◌, Bool, ℕ, zero, suc, ◌/◌, ◌%◌, eqb, length, get_or, drop, ℤ, pos}
use Rattle.segm.specs.declared.Segment.{Segment}
use Rattle.lists.specs.Sums.{sum, only}

-- a drawing is n segments, named by place from 0
abbrev pub Drawing : Type 0
Drawing = List Segment

-- a segment is seven numbers: ax, ay, bx, by, winding, line bits, lot
abbrev pub width : ℕ
width = 7

-- the segment at the front of a list of numbers
unfoldable pub front : List ℤ → Segment
front l = record {
  a = record { x = get_or l 0 (pos 0); y = get_or l 1 (pos 0) };
  b = record { x = get_or l 2 (pos 0); y = get_or l 3 (pos 0) };
  winding = get_or l 4 (pos 0);
  bits = get_or l 5 (pos 0);
  lot = get_or l 6 (pos 0);
}

-- s with other line bits
abbrev pub with_bits : ℤ → Segment → Segment
with_bits bits s = record { a = s.a; b = s.b; winding = s.winding; bits = bits; lot = s.lot }

-- s with another lot
abbrev pub with_lot : ℤ → Segment → Segment
with_lot lot s = record { a = s.a; b = s.b; winding = s.winding; bits = s.bits; lot = lot }

-- n segments, one after the other
unfoldable pub segments_of : ℕ → List ℤ → Drawing
segments_of zero l = []
segments_of (suc n) l = front l ∷ segments_of n (drop width l)

-- n, the number of whole segments
unfoldable pub count : List ℤ → ℕ
count l = length l / width

-- the list holds whole segments only
unfoldable pub whole : List ℤ → Bool
whole l = eqb (length l % width) 0

-- the drawing that a list of numbers holds
unfoldable pub segments : List ℤ → Drawing
segments l = segments_of (count l) l

-- the numbers of a segment, in their order
unfoldable pub numbers_of : Segment → List ℤ
numbers_of s = s.a.x ∷ s.a.y ∷ s.b.x ∷ s.b.y ∷ s.winding ∷ s.bits ∷ s.lot ∷ []

-- the numbers of segments, one after the other
unfoldable pub laid : Drawing → List ℤ
laid [] = []
laid (s ∷ d) = numbers_of s ++ laid d

-- what stands at no place: all numbers 0
abbrev pub nowhere : Segment
nowhere = record { a = record { x = pos 0; y = pos 0 }; b = record { x = pos 0; y = pos 0 }; winding = pos 0; bits = pos 0; lot = pos 0 }

-- the segment at place i, from 0
unfoldable pub segment_at : Drawing → ℕ → Segment
segment_at d i = get_or d i nowhere

-- the sum of the windings of the segments that pass a test
unfoldable pub total : (Segment → Bool) → Drawing → ℤ
total P d = sum (λ s. only (P s) s.winding) d
