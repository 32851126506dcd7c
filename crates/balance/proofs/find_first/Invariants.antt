-- What is left decides.
use Rattle.std.proofs.Common.{◌≡◌, ◌-◌}
use Rattle.balance.specs.Balance.{first_place}
use Rattle.balance.specs.Sums.{ends_unbalanced}
use Rattle.balance.proofs.find_first.Given as goal

abbrev pub invariant-loop-i : goal.invariant-loop-i
invariant-loop-i l = first_place (ends_unbalanced l.n l.nodes l.sums) l.n 0 ≡ first_place (ends_unbalanced l.n l.nodes l.sums) (l.n - l.i) l.i
