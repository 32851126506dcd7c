-- From place j on the entries have moved up, in whole blocks; the one at j still stands there too.
use Rattle.std.proofs.Common.{◌≡◌, ℕ, ◌+◌, ◌-◌, ◌*◌, ◌<◌, ◌≤◌, List, get_or}
use Rattle.scan.proofs.insert.Given as goal

pub record MovedUp (old list : List ℕ) (j top : ℕ) : Type 0 where
  pub same : (m : ℕ) → m ≤ j → get_or list m 0 ≡ get_or old m 0
  pub moved : (m : ℕ) → j < m → m ≤ top → get_or list m 0 ≡ get_or old (m - 1) 0

abbrev pub invariant-loop-block : goal.invariant-loop-block
invariant-loop-block l = MovedUp l.initial.list l.list (l.k + l.block * 16) (l.k + l.initial.block * 16)
