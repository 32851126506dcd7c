-- All up to the place to which the loop has come are `first` or more.
use Rattle.std.proofs.Common.{ℕ, ◌<◌, ◌≤◌, get_or}
use Rattle.count_up.proofs.high_end.Given as goal

abbrev pub invariant-loop-k : goal.invariant-loop-k
invariant-loop-k l = (m : ℕ) → l.place ≤ m → m < l.k → l.first ≤ get_or l.list m 0
