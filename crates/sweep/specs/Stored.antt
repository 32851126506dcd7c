-- The sweep with document 01's scan: of the stored segments strictly under the point with x < b.x, the one highest just right of the point's x
-- (of two with one start, the one counter-clockwise of the other), count 0 if none.
use Rattle.std.specs.Prelude.{List, [], ◌∷◌, map, Bool, ◌&&◌, cond, ℕ, ℤ, pos}
use Rattle.std.proofs.Math.Option.{Option, none, some}
use Rattle.std.specs.Int.Signed.{lt_z}
use Rattle.geom.specs.declared.Point.{Point}
use Rattle.segm.specs.declared.Segment.{Segment}
use Rattle.segm.specs.Segments.{Drawing, segment_at}
use Rattle.strip.specs.Strip.{above, under}
use Rattle.fill_rule.specs.declared.Rule.{Rule}
use Rattle.sweep.specs.Sweep.{sweep_with}

-- a stored segment with its top count
pub record Stored : Type 0 where
  pub segment : Segment
  pub count : ℤ

-- strictly under p, with p.x < b.x
unfoldable pub is_under : Point → Stored → Bool
is_under p c = lt_z p.x c.segment.b.x && above c.segment p

-- the one that is higher just right of x
unfoldable pub higher : ℤ → Stored → Option Stored → Stored
higher x c none = c
higher x c (some h) = cond (under x h.segment c.segment) c h

-- of those under p, the one highest just right of p's x
unfoldable pub highest : Point → List Stored → Option Stored
highest p [] = none
highest p (c ∷ stored) = cond (is_under p c) (some (higher p.x c (highest p stored))) (highest p stored)

-- its count, 0 if there is none
unfoldable pub count_of : Option Stored → ℤ
count_of none = pos 0
count_of (some h) = h.count

-- the count that the scan finds under p
unfoldable pub stored_count : Point → List Stored → ℤ
stored_count p stored = count_of (highest p stored)

-- the segment at place i is stored with its top count, and none is forgotten
unfoldable pub store_top : Drawing → ℕ → ℤ → List Stored → List Stored
store_top d i top stored = record { segment = segment_at d i; count = top } ∷ stored

-- the sweep with this scan, which needs no seeking, into a list of fills
unfoldable pub sweep_into : Rule → Drawing → List ℕ → List ℕ
sweep_into rule d = sweep_with (λ p stored. stored) stored_count (store_top d) rule d []

-- the sweep's fills, one entry a segment
unfoldable pub sweep : Rule → Drawing → List ℕ
sweep rule d = sweep_into rule d (map (λ s. 0) d)
