-- A fills run: what it answers and writes. The contracts of `build` cite these.
use Rattle.std.specs.Prelude.{List, ℕ, length, ℤ, Result, Ok, Err}
use Rattle.lists.specs.Written.{written}
use Rattle.segm.specs.Segments.{segments}
use Rattle.refusal.specs.declared.Refusal.{Refusal}
use Rattle.refusal.specs.Numbers.{number_of}
use Rattle.refusal.specs.Order.{Verdict}
use Rattle.checks.specs.Runs.{verdict, fills_run}
use Rattle.fill_rule.specs.FillRule.{rule_of}
use Rattle.ray.specs.Ray.{fills}

-- 01's number, place and value for what it answers: 0, 0 and how many fills there are; of a refusal its own, and no fill
pub record Told : Type 0 where
  pub number : ℕ
  pub place : ℕ
  pub count : ℕ

abbrev pub told : Result ℕ Refusal → Told
told (Ok count) = record { number = 0; place = 0; count = count }
told (Err r) = record { number = number_of r.kind; place = r.place; count = 0 }

-- what it answers, set out in numbers, and the lent list when it returns
pub record Outcome : Type 0 where
  pub answer : Result ℕ Refusal
  pub numbers : Told
  pub list : List ℕ

abbrev pub outcome : Result ℕ Refusal → List ℕ → Outcome
outcome answer list = record { answer = answer; numbers = told answer; list = list }

-- an accepted run tells how many fills there are and writes them at the front of the list; a refused one writes nothing
abbrev pub answered : Verdict → List ℕ → List ℕ → Outcome
answered (Ok _) fills lent = outcome (Ok (length fills)) (written fills lent)
answered (Err r) fills lent = outcome (Err r) lent

-- the outcome of a fills run, for any numbers, rule and lent list
unfoldable pub fills_outcome : List ℤ → ℤ → List ℕ → Outcome
fills_outcome numbers rule lent = answered (verdict (fills_run numbers rule (length lent))) (fills (rule_of rule) (segments numbers)) lent
