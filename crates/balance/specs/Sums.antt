-- What the contracts of the inner functions cite: the code sums by nodes, end after end.
use Rattle.std.specs.Prelude.{◌≡◌, List, Bool, not, ◌&&◌, cond, ℕ, ◌+◌, ◌-◌, ◌*◌, ◌<◌, eqb, ltb, length, get_or, ℤ, pos, ◌-ℤ◌}
use Rattle.geom.specs.Points.{eq_z}
use Rattle.lists.specs.Sums.{sum, only}
use Rattle.lists.specs.UpFrom.{up_from}
use Rattle.segm.specs.Segments.{Drawing, segment_at}

-- what end e adds to the balance at its point: its link's winding where that starts, and the opposite where it ends
unfoldable pub share : Drawing → ℕ → ℤ
share d e = cond (ltb e (length d)) (segment_at d e).winding (pos 0 -ℤ (segment_at d (e - length d)).winding)

-- what the first k ends add at node v
unfoldable pub node_sum : Drawing → List ℕ → ℕ → ℕ → ℤ
node_sum d nodes k v = sum (λ e. only (eqb (get_or nodes e 0) v) (share d e)) (up_from 0 k)

-- sums holds that of every node
abbrev pub Summed : Drawing → List ℕ → ℕ → List ℤ → Type 0
Summed d nodes k sums = (v : ℕ) → v < length sums → get_or sums v (pos 0) ≡ node_sum d nodes k v

-- two ends for each of n links, each with a node that has a sum
pub record HaveSums (n : ℕ) (nodes : List ℕ) (sums : List ℤ) : Type 0 where
  pub each_end : length nodes ≡ 2 * n
  pub has-sum : (e : ℕ) → e < 2 * n → get_or nodes e 0 < length sums

-- the sum at the node of end e is 0
unfoldable pub sums_to_zero : List ℕ → List ℤ → ℕ → Bool
sums_to_zero nodes sums e = eq_z (get_or sums (get_or nodes e 0) (pos 0)) (pos 0)

-- of n links, the sum at an end of link i is not 0
unfoldable pub ends_unbalanced : ℕ → List ℕ → List ℤ → ℕ → Bool
ends_unbalanced n nodes sums i = not (sums_to_zero nodes sums i && sums_to_zero nodes sums (n + i))
