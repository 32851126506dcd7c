-- All from the place down to which the loop has come are `first` or more.
use Rattle.std.proofs.Common.{ℕ, ◌<◌, ◌≤◌, get_or}
use Rattle.count_up.proofs.low_end.Given as goal

abbrev pub invariant-loop-k : goal.invariant-loop-k
invariant-loop-k l = (m : ℕ) → l.k ≤ m → m < l.place → l.first ≤ get_or l.list m 0
