-- What is left decides.
use Rattle.std.proofs.Common.{◌≡◌, ◌-◌}
use Rattle.refusal.specs.Order.{first_from, first}
use Rattle.refusal.proofs.find_first.Given as goal

abbrev pub invariant-loop-place : goal.invariant-loop-place
invariant-loop-place g l = first g.wrong l.n ≡ first_from g.wrong (l.n - l.place) l.place
