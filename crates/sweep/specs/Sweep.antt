-- The sweep of the Rust's build/sweep.rs, line by line: nodes of one start in order, each with its segments counter-clockwise from the lowest, the scan asked once a node.
-- As there, the scan is any collection that can be asked for the count under a point and that stores a segment with its top count.
use Rattle.std.specs.Prelude.{List, [], ◌∷◌, Bool, cond, ℕ, zero, suc, ◌+◌, ltb, length, drop, set, ℤ, pos, ◌+ℤ◌}
use Rattle.std.specs.Int.Signed.{lt_z}
use Rattle.geom.specs.declared.Point.{Point}
use Rattle.geom.specs.Points.{eq_p, cross}
use Rattle.lists.specs.UpFrom.{up_from}
use Rattle.segm.specs.Segments.{Drawing, segment_at}
use Rattle.ends.specs.Ordering.{ordering}
use Rattle.strip.specs.Strip.{is_vertical}
use Rattle.fill_rule.specs.declared.Rule.{Rule}
use Rattle.fill_rule.specs.FillRule.{fill_of}

-- how many segments at the front of a drawing start at p
unfoldable pub starting_at : Point → Drawing → ℕ
starting_at p [] = 0
starting_at p (s ∷ d) = cond (eq_p s.a p) (suc (starting_at p d)) 0

-- how many segments the node of place i has: i's, and those after it with the same start
unfoldable pub node_size : Drawing → ℕ → ℕ
node_size d i = suc (starting_at (segment_at d i).a (drop (suc i) d))

-- the places of that node
unfoldable pub node_from : Drawing → ℕ → List ℕ
node_from d i = up_from i (node_size d i)

-- of segments that start at one point: the direction of e is clockwise of that of f, so that order is counter-clockwise from the lowest
unfoldable pub turn_before : Drawing → ℕ → ℕ → Bool
turn_before d e f = lt_z (pos 0) (cross (segment_at d e).a (segment_at d e).b (segment_at d f).b)

-- what the sweep has made: the scan, and the list of fills that it writes to
pub record Swept (S : Type 0) : Type 0 where
  pub scan : S
  pub fills : List ℕ

-- a scan: `seek` is what it does when the sweep comes to a point, `count` the count it then says, and `store` takes in the segment at a place with its top count
module _ {S : Type 0} (seek : Point → S → S) (count : Point → S → ℤ) (store : ℕ → ℤ → S → S) (rule : Rule) (d : Drawing) where
  -- the sum before a segment is its bottom count, the sum after it its top count; one that is not vertical is stored
  abbrev pub visit_one : ℕ → ℤ → Swept S → Swept S
  visit_one i sum st =
      let s = segment_at d i in
      let top = sum +ℤ s.winding in
      record {
        scan = cond (is_vertical s) st.scan (store i top st.scan);
        fills = set st.fills i (fill_of rule top sum s.bits);
      }

  -- `for se in node.iter()`
  unfoldable pub visit : List ℕ → ℤ → Swept S → Swept S
  visit [] sum st = st
  visit (i ∷ node) sum st = visit node (sum +ℤ (segment_at d i).winding) (visit_one i sum st)

  -- one node: put in order about its point, then visited with the count that the scan finds under the point
  unfoldable pub visit_node : ℕ → Swept S → Swept S
  visit_node i st =
      let p = (segment_at d i).a in
      let scan = seek p st.scan in
      visit (ordering (turn_before d) (node_from d i)) (count p scan) (record { scan = scan; fills = st.fills })

  -- `while i < n`, in at most so many turns
  unfoldable pub sweep_from : ℕ → ℕ → Swept S → Swept S
  sweep_from zero i st = st
  sweep_from (suc turns) i st = cond (ltb i (length d)) (sweep_from turns (i + node_size d i) (visit_node i st)) st

  -- from an empty scan, into a list of fills
  unfoldable pub sweep_with : S → List ℕ → List ℕ
  sweep_with empty fills = (sweep_from (length d) 0 (record { scan = empty; fills = fills })).fills
