-- What is left of the stretch, counted up from the sum.
use Rattle.std.proofs.Common.{◌≡◌, ℕ, ◌+◌, ◌*◌, ◌≤◌, List, drop, ℤ, nat_abs}
use Rattle.segm.specs.Segments.{Drawing, segments}
use Rattle.count_up.specs.CountUp.{count_up}
use Rattle.count_up.proofs.count_up.Given as goal

pub record Counting (d : Drawing) (stretch : List ℕ) (under : ℤ) (old tops : List ℤ) (sum : ℤ) (k : ℕ) : Type 0 where
  pub small : nat_abs sum ≤ 2100000000 + 1000 * k
  pub rest : count_up d sum (drop k stretch) tops ≡ count_up d under stretch old

abbrev pub invariant-loop-place : goal.invariant-loop-place
invariant-loop-place l = Counting (segments l.s) l.stretch l.under l.initial.tops l.tops l.sum l.place-index
