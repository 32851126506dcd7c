-- A clip run: what it answers, what it writes to its lent lists, and how its output is read from them. The contracts of `string_clip` cite these.
use mathlib.Core.List.{List, map, flatten}
use Rattle.std.specs.Prelude.{ℕ, ◌*◌, ◌≤◌, length, ℤ, Result, Ok, Err}
use Rattle.geom.specs.declared.Point.{Point}
use Rattle.lists.specs.Written.{written}
use Rattle.segm.specs.Segments.{segments}
use Rattle.contour.specs.Points.{coordinates, pair_up, cut}
use Rattle.refusal.specs.declared.Refusal.{Refusal}
use Rattle.refusal.specs.Numbers.{number_of}
use Rattle.refusal.specs.Order.{Verdict}
use Rattle.checks.specs.Runs.{Run, verdict, clip_run}
use Rattle.fill_rule.specs.FillRule.{rule_of}
use Rattle.build.specs.Links.{filter_of}
use Rattle.clip_paths.specs.declared.Totals.{Totals}
use Rattle.clip_paths.specs.Paths.{clip_paths, totals}

-- ---- the answer
-- 01's number and place for what a run answers, with its four numbers: 0, 0 and the totals; of a refusal its own, and all totals 0
pub record Told : Type 0 where
  pub number : ℕ
  pub place : ℕ
  pub totals : Totals

abbrev pub told : Result Totals Refusal → Told
told (Ok t) = record { number = 0; place = 0; totals = t }
told (Err r) = record { number = number_of r.kind; place = r.place; totals = record { paths = 0; points = 0; steps = 0; travel = 0 } }

-- ---- the lent lists
-- x, y pairs, and one length a path
pub record Lists : Type 0 where
  pub points : List ℤ
  pub lengths : List ℕ

-- these lists
abbrev pub lists : List ℤ → List ℕ → Lists
lists points lengths = record { points = points; lengths = lengths }

-- the run on these numbers with these choices and lists
abbrev pub run_of : List ℤ → (rule invert boundary : ℤ) → Lists → Run
run_of numbers rule invert boundary ls = clip_run numbers rule invert boundary (length ls.points) (length ls.lengths)

-- no list that is lent for n segments is too short
pub record Room (numbers : List ℤ) (ls : Lists) : Type 0 where
  pub points_fit : 8 * length (segments numbers) ≤ length ls.points
  pub lengths_fit : 2 * length (segments numbers) ≤ length ls.lengths

-- paths written to the fronts of lists
abbrev pub written_to : List (List Point) → Lists → Lists
written_to paths ls = lists (written (coordinates (flatten paths)) ls.points) (written (map length paths) ls.lengths)

-- ---- the outcome
-- what a run answers, set out in numbers, and its lent lists when it returns
pub record Outcome : Type 0 where
  pub answer : Result Totals Refusal
  pub numbers : Told
  pub lists : Lists

abbrev pub outcome : Result Totals Refusal → Lists → Outcome
outcome answer ls = record { answer = answer; numbers = told answer; lists = ls }

-- an accepted run writes its paths and tells their totals; a refused one writes nothing
abbrev pub answered : Verdict → List (List Point) → Lists → Outcome
answered (Ok _) paths ls = outcome (Ok (totals paths)) (written_to paths ls)
answered (Err r) paths ls = outcome (Err r) ls

-- the outcome of a clip run, for any numbers, choices and lent lists
unfoldable pub clip_outcome : List ℤ → (rule invert boundary : ℤ) → Lists → Outcome
clip_outcome numbers rule invert boundary ls =
    answered (verdict (run_of numbers rule invert boundary ls)) (clip_paths (rule_of rule) (filter_of invert boundary) (segments numbers)) ls

-- ---- the output
-- read from the lent lists when the run returns: as many paths as the number says
unfoldable pub output : Outcome → List (List Point)
output o = cut o.numbers.totals.paths o.lists.lengths (pair_up o.lists.points)
