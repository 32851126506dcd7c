-- Working memory: what the check of a drawing asks of it, and what it leaves there for the run.
use Rattle.std.specs.Prelude.{◌≡◌, List, ℕ, ◌+◌, ◌*◌, ◌<◌, ◌≤◌, length, get_or, take, ℤ, pos}
use Rattle.lists.specs.UpFrom.{up_from}
use Rattle.refusal.specs.Order.{Verdict, accepted}
use Rattle.segm.specs.Segments.{Drawing}
use Rattle.ends.specs.Ends.{end_before}
use Rattle.ends.specs.Ordering.{ordering}
use Rattle.graph.specs.Nodes.{NodesIn}
use Rattle.count_up.specs.CountUp.{Counted}
use Rattle.balance.specs.Balance.{NodesByPoint}

-- ---- sizes
-- so many ends have that many segments, 1,024 at most
abbrev pub EndsOf : (segments ends : ℕ) → Type 0
EndsOf segments ends = (segments ≤ 1024) × (ends ≡ 2 * segments)

-- and their nodes have so many starts at most
abbrev pub RightSizes : (segments ends starts : ℕ) → Type 0
RightSizes segments ends starts = EndsOf segments ends × (starts ≡ ends + 1)

-- ---- the run's
-- no top is counted yet
abbrev pub Blank : List ℤ → Type 0
Blank tops = (i : ℕ) → get_or tops i (pos 0) ≡ pos 0

-- room for the nodes and the top counts of a drawing
pub record DrawingRoom (d : Drawing) (flat starts nodes : List ℕ) (tops : List ℤ) : Type 0 where
  pub flat_room : 2 * length d ≤ length flat
  pub starts_room : 2 * length d < length starts
  pub nodes_room : 2 * length d ≤ length nodes
  pub tops_room : length d ≤ length tops
  pub blank : Blank tops

-- what the check leaves of an accepted drawing: its nodes and its top counts, at the fronts of the lists
pub record Prepared (d : Drawing) (flat starts nodes : List ℕ) (tops : List ℤ) : Type 0 where
  pub nodes_are : NodesIn d flat starts nodes
  pub counts_are : Counted d tops

-- a verdict on a drawing, with what it leaves if that is acceptance
abbrev pub Checked : Verdict → Drawing → Verdict → (flat starts nodes : List ℕ) → (tops : List ℤ) → Type 0
Checked expected d v flat starts nodes tops = (v ≡ expected) × (v ≡ accepted → Prepared d flat starts nodes tops)

-- ---- the check's own
-- room for what is found by the ends of a drawing: their keys, and the sums of the windings at each node
pub record EndsRoom (d : Drawing) (keys scratch : List ℕ) (sums : List ℤ) : Type 0 where
  pub keys_room : 2 * length d ≤ length keys
  pub scratch_room : length d ≤ length scratch
  pub sums_room : 2 * length d ≤ length sums
  pub sums_blank : (v : ℕ) → get_or sums v (pos 0) ≡ pos 0

-- the ordered ends, and the numbers of their nodes, at the front of lists
pub record OrderedIn (d : Drawing) (flat : List ℕ) : Type 0 where
  pub all_ends : 2 * length d ≤ length flat
  pub order : take (2 * length d) flat ≡ ordering (end_before d) (up_from 0 (2 * length d))

pub record NumberedIn (d : Drawing) (nodes : List ℕ) : Type 0 where
  pub each_end : 2 * length d ≤ length nodes
  pub numbered : NodesByPoint d (take (2 * length d) nodes)
