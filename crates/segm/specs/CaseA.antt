-- Document 01's case A, the numbers of its nine segments, and how worked cases write a segment.
use Rattle.std.specs.Prelude.{List, [], ◌∷◌, ◌++◌, ℤ, pos, negsuc}

-- one segment: ax, ay, bx, by, winding, line bits, lot
abbrev pub lot_segment : ℤ → ℤ → ℤ → ℤ → ℤ → ℤ → ℤ → List ℤ
lot_segment ax ay bx by winding bits lot = ax ∷ ay ∷ bx ∷ by ∷ winding ∷ bits ∷ lot ∷ []

-- one of no lot
abbrev pub segment : ℤ → ℤ → ℤ → ℤ → ℤ → ℤ → List ℤ
segment ax ay bx by winding bits = lot_segment ax ay bx by winding bits (pos 0)

-- case A
abbrev pub A : List ℤ
A = segment (negsuc 4) (pos 5) (pos 0) (pos 5) (pos 0) (pos 1)
    ++ segment (pos 0) (pos 0) (pos 0) (pos 5) (negsuc 0) (pos 0)
    ++ segment (pos 0) (pos 0) (pos 10) (pos 0) (pos 1) (pos 0)
    ++ segment (pos 0) (pos 5) (pos 0) (pos 10) (negsuc 0) (pos 0)
    ++ segment (pos 0) (pos 5) (pos 10) (pos 5) (pos 0) (pos 1)
    ++ segment (pos 0) (pos 10) (pos 10) (pos 10) (negsuc 0) (pos 0)
    ++ segment (pos 10) (pos 0) (pos 10) (pos 5) (pos 1) (pos 0)
    ++ segment (pos 10) (pos 5) (pos 10) (pos 10) (pos 1) (pos 0)
    ++ segment (pos 10) (pos 5) (pos 15) (pos 5) (pos 0) (pos 1)
