-- Points: their order, their range, and on which side of a line they lie. A point is the code's own pair of coordinates, read as integers.
-- The contracts of `geom` cite these.
use Rattle.std.specs.Prelude.{Bool, ◌&&◌, ◌||◌, ℕ, ◌+◌, ℤ, pos, neg_ℤ, nat_abs, ◌-ℤ◌, ◌*ℤ◌}
use Rattle.std.specs.Int.Signed.{lt_z, le_z}
use Rattle.geom.specs.declared.Point.{Point}

-- m and n are equal
unfoldable pub eq_z : ℤ → ℤ → Bool
eq_z m n = le_z m n && le_z n m

-- z is from low to high
unfoldable pub within : ℤ → ℤ → ℤ → Bool
within low high z = le_z low z && le_z z high

-- points compare by x, then y
unfoldable pub lt_p : Point → Point → Bool
lt_p p q = lt_z p.x q.x || (eq_z p.x q.x && lt_z p.y q.y)

-- p and q are one point
unfoldable pub eq_p : Point → Point → Bool
eq_p p q = eq_z p.x q.x && eq_z p.y q.y

-- coordinates are -16,777,216 to 16,777,216
unfoldable pub coordinate : ℤ → Bool
coordinate = within (neg_ℤ (pos 16777216)) (pos 16777216)

-- both coordinates of p are in range
unfoldable pub in_range : Point → Bool
in_range p = coordinate p.x && coordinate p.y

-- the travel from p to q: |dx| + |dy|
unfoldable pub travel : Point → Point → ℕ
travel p q = nat_abs (q.x -ℤ p.x) + nat_abs (q.y -ℤ p.y)

-- the cross product x1·y2 - x2·y1 of the ways from p to q and from p to r: positive if r is left of the way from p to q, negative if right
unfoldable pub cross : Point → Point → Point → ℤ
cross p q r = (q.x -ℤ p.x) *ℤ (r.y -ℤ p.y) -ℤ (q.y -ℤ p.y) *ℤ (r.x -ℤ p.x)

-- r lies on the line from p to q strictly between the two, p being the lesser
unfoldable pub between : Point → Point → Point → Bool
between p q r = eq_z (cross p q r) (pos 0) && (lt_p p r && lt_p r q)
