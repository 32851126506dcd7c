-- A slice run: what it answers, and what it writes to its lent lists. The contracts of `string_slice` cite these.
use mathlib.Core.List.{List, map, flatten}
use Rattle.std.proofs.Math.Option.{Option, none, some}
use Rattle.std.specs.Prelude.{ℕ, length, ℤ, pos, Result, Ok, Err}
use Rattle.geom.specs.Points.{eq_z}
use Rattle.lists.specs.Written.{written}
use Rattle.segm.specs.Segments.{segments}
use Rattle.contour.specs.Points.{coordinates}
use Rattle.contour.specs.Contour.{Contour}
use Rattle.refusal.specs.declared.Refusal.{Refusal}
use Rattle.refusal.specs.declared.Kind.TheVariants.{StuckWalk}
use Rattle.refusal.specs.Numbers.{number_of}
use Rattle.refusal.specs.Order.{Verdict, refusal}
use Rattle.checks.specs.Runs.{Run, slice_run, verdict}
use Rattle.fill_rule.specs.FillRule.{rule_of}
use Rattle.slice_cut.specs.declared.Contours.{Contours}
use Rattle.slice_cut.specs.Cutting.{points_of, roles_of, counts}
use Rattle.string_slice.specs.Contours.{slice_contours}

-- ---- the answer
-- 01's number, place and values for what a run answers: 0, 0 and how many contours and points there are; of a refusal its own, and none
pub record Told : Type 0 where
  pub number : ℕ
  pub place : ℕ
  pub contours : ℕ
  pub points : ℕ

abbrev pub told : Result Contours Refusal → Told
told (Ok found) = record { number = 0; place = 0; contours = found.contours; points = found.points }
told (Err r) = record { number = number_of r.kind; place = r.place; contours = 0; points = 0 }

-- ---- the lent lists
-- x, y pairs, and one length and one role a contour
pub record Lists : Type 0 where
  pub points : List ℤ
  pub lengths : List ℕ
  pub roles : List ℕ

-- these lists
abbrev pub lists : List ℤ → List ℕ → List ℕ → Lists
lists points lengths roles = record { points = points; lengths = lengths; roles = roles }

-- the run on these numbers with these choices and lists
abbrev pub run_of : List ℤ → (rule direction : ℤ) → Lists → Run
run_of numbers rule direction ls = slice_run numbers rule direction (length ls.points) (length ls.lengths) (length ls.roles)

-- contours written to the fronts of lists
abbrev pub written_to : List Contour → Lists → Lists
written_to contours ls =
    lists (written (coordinates (flatten (points_of contours))) ls.points) (written (map length (points_of contours)) ls.lengths) (written (roles_of contours) ls.roles)

-- ---- the outcome
-- what a run answers, set out in numbers, and its lent lists when it returns
pub record Outcome : Type 0 where
  pub answer : Result Contours Refusal
  pub numbers : Told
  pub lists : Lists

abbrev pub outcome : Result Contours Refusal → Lists → Outcome
outcome answer ls = record { answer = answer; numbers = told answer; lists = ls }

-- contours are written to the fronts of the lists; refused, and nothing is written, where a walk finds no move
abbrev pub handed_over : Option (List Contour) → Lists → Outcome
handed_over none ls = outcome (Err (refusal StuckWalk 0)) ls
handed_over (some contours) ls = outcome (Ok (counts contours)) (written_to contours ls)

-- a run refused from the input writes nothing
abbrev pub answered : Verdict → Option (List Contour) → Lists → Outcome
answered (Ok _) contours ls = handed_over contours ls
answered (Err r) contours ls = outcome (Err r) ls

-- the outcome of a slice run, for any numbers, choices, minimum area and lent lists. Output direction: 1 clockwise
unfoldable pub slice_outcome : List ℤ → (rule direction : ℤ) → ℕ → Lists → Outcome
slice_outcome numbers rule direction least ls =
    answered (verdict (run_of numbers rule direction ls)) (slice_contours (rule_of rule) (eq_z direction (pos 1)) least (segments numbers)) ls
