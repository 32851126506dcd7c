-- Up to place j the entries have moved down, in whole blocks, and from j on they are as they were.
use Rattle.std.proofs.Common.{◌≡◌, ℕ, ◌+◌, ◌*◌, ◌<◌, ◌≤◌, List, get_or}
use Rattle.scan.proofs.remove.Given as goal

pub record MovedDown (old list : List ℕ) (k j : ℕ) : Type 0 where
  pub below : (m : ℕ) → m < k → get_or list m 0 ≡ get_or old m 0
  pub moved : (m : ℕ) → k ≤ m → m < j → get_or list m 0 ≡ get_or old (m + 1) 0
  pub rest : (m : ℕ) → j ≤ m → get_or list m 0 ≡ get_or old m 0

abbrev pub invariant-loop-block : goal.invariant-loop-block
invariant-loop-block l = MovedDown l.initial.list l.list l.k (l.k + l.block * 16)
