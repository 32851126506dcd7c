-- The outcome of a fills run by its verdict.
use Rattle.std.proofs.Common.{◌≡◌, ap, List, ℕ, length, ℤ}
use Rattle.refusal.specs.Order.{Verdict}
use Rattle.segm.specs.Segments.{segments}
use Rattle.checks.specs.Runs.{fills_run, verdict}
use Rattle.fill_rule.specs.FillRule.{rule_of}
use Rattle.ray.specs.Ray.{fills}
use Rattle.build.specs.Fills.{answered, fills_outcome}

pub by_verdict : (numbers : List ℤ) (rule : ℤ) (lent : List ℕ) {v : Verdict} → v ≡ verdict (fills_run numbers rule (length lent))
    → answered v (fills (rule_of rule) (segments numbers)) lent ≡ fills_outcome numbers rule lent
unfolding fills_outcome
by_verdict numbers rule lent e = ap (λ (v : Verdict). answered v (fills (rule_of rule) (segments numbers)) lent) e
