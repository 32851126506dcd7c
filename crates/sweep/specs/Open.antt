-- The sweep with an ordered list of the segments still open: nothing is looked at twice that has ended, and the highest one under a point is found by bisection.
use Rattle.std.specs.Prelude.{List, [], Bool, cond, ℕ, zero, suc, ◌+◌, ◌-◌, ◌/◌, eqb, ltb, length, get_or, set, ℤ, pos}
use Rattle.std.specs.Int.Signed.{lt_z}
use Rattle.geom.specs.declared.Point.{Point}
use Rattle.lists.specs.Members.{keep}
use Rattle.segm.specs.Segments.{Drawing, segment_at}
use Rattle.scan.specs.declared.Sought.TheVariants.{At}
use Rattle.scan.specs.Scan.{is_below, insert_at}
use Rattle.fill_rule.specs.declared.Rule.{Rule}
use Rattle.sweep.specs.Sweep.{sweep_with}

-- those that do not end at or before x
unfoldable pub still_open : Drawing → ℤ → List ℕ → List ℕ
still_open d x l = keep (λ i. lt_z x (segment_at d i).b.x) l

-- bisection: from low to high, a number at which the test changes from true to false, in at most so many steps
unfoldable pub bisect : (ℕ → Bool) → ℕ → ℕ → ℕ → ℕ
bisect test zero low high = low
bisect test (suc steps) low high =
    let middle = low + (high - low) / 2 in
    cond (ltb low high) (cond (test middle) (bisect test steps (suc middle) high) (bisect test steps low middle)) low

-- the place of what is sought: how many of an ordered list are below it
unfoldable pub place_by : (ℕ → Bool) → List ℕ → ℕ
place_by below l = bisect (λ k. below (get_or l k 0)) (length l) 0 (length l)

-- the place of p
unfoldable pub place_of : Drawing → Point → List ℕ → ℕ
place_of d p l = place_by (is_below d (At p)) l

-- the scan: the ordered list of the open segments
pub record Opened : Type 0 where
  -- the places of the open segments, the lowest first
  pub list : List ℕ
  -- at each of those places, the top count
  pub tops : List ℤ
  -- the place in the list where the next segment of the node goes: so many are under its point
  pub next : ℕ

-- those that end at or before p's x leave, and the place of p is found
unfoldable pub seek_open : Drawing → Point → Opened → Opened
seek_open d p o = let list = still_open d p.x o.list in record { list = list; tops = o.tops; next = place_of d p list }

-- the top count of the last one under the point
unfoldable pub count_open : Point → Opened → ℤ
count_open p o = cond (eqb o.next 0) (pos 0) (get_or o.tops (get_or o.list (o.next - 1) 0) (pos 0))

-- the segment at place i enters there with its top count, and the next one goes after it
unfoldable pub store_open : ℕ → ℤ → Opened → Opened
store_open i top o = record { list = insert_at o.next i o.list; tops = set o.tops i top; next = suc o.next }

-- into a list of fills, with a list for the top counts
unfoldable pub open_sweep : Rule → Drawing → List ℤ → List ℕ → List ℕ
open_sweep rule d tops fills = sweep_with (seek_open d) count_open store_open rule d (record { list = []; tops = tops; next = 0 }) fills
