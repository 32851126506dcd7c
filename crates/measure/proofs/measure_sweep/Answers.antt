-- The verdict decides the arm, and an accepted drawing is good.
use mathlib.Core.Path.{◌≡◌, sym, ◌∙◌}
use mathlib.Core.List.{List}
use lib.IntN.{ℤ}
use Rattle.refusal.specs.Order.{Verdict}
use Rattle.checks.specs.Runs.{clip_run}
use Rattle.checks.proofs.Accepted.{verdict_good}
use Rattle.measure.specs.Numbers.{verdict_of}
use Rattle.measure.proofs.measure_sweep.Goals as goal

-- what `verdict_of` answered
verdict_is : {w v : Verdict} (numbers : List ℤ) → w ≡ verdict_of numbers → w ≡ v → verdict_of numbers ≡ v
verdict_is numbers k e = sym k ∙ e

pub is_swept-requires : goal.is_swept-requires
unfolding clip_run
is_swept-requires c = verdict_good _ (verdict_is c.args.numbers.now c.verdict_of.ensures c.in-Ok.is)
