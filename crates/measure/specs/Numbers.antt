-- What the driver is handed.
use Rattle.std.specs.Prelude.{List, ℕ, ℤ, pos, Ok, Err}
use Rattle.refusal.specs.Numbers.{number_of}
use Rattle.refusal.specs.Order.{Verdict}
use Rattle.checks.specs.Runs.{verdict, clip_run}
use Rattle.string_clip.specs.Run.{Lists, Outcome, clip_outcome}
use Rattle.measure.specs.declared.Check.{Check}
use Rattle.c_structs.specs.Structs.{clip_struct}
use Rattle.measure.specs.declared.ClipBoth.{ClipBoth}

-- ---- the check alone
-- of a clip run with known choices: the lists are long enough for 1,024 segments, and more are refused before
abbrev pub verdict_of : List ℤ → Verdict
verdict_of numbers = verdict (clip_run numbers (pos 0) (pos 0) (pos 0) 8192 2048)

-- number and place of a refusal, 0 and 0 of none
abbrev pub check_numbers : Verdict → Check
check_numbers (Ok _) = record { number = 0; place = 0 }
check_numbers (Err r) = record { number = number_of r.kind; place = r.place }

-- ---- the sweep
-- what is told of it: 1 of an accepted drawing, which it clears, 2 of a refused one
abbrev pub sweep_number : Verdict → ℕ
sweep_number (Ok _) = 1
sweep_number (Err r) = 2

-- ---- both clip runs
-- what a call of `measure_clip_both` returns, and the lent lists then
pub record ReturnedBoth : Type 0 where
  pub answer : ClipBoth
  pub inside_lists : Lists
  pub outside_lists : Lists

abbrev pub returned_both : ClipBoth → Lists → Lists → ReturnedBoth
returned_both answer inside outside = record { answer = answer; inside_lists = inside; outside_lists = outside }

-- the numbers and lists of two outcomes
abbrev pub of_both : (inside outside : Outcome) → ReturnedBoth
of_both i o = returned_both (record { inside = clip_struct i.numbers; outside = clip_struct o.numbers }) i.lists o.lists

-- what it promises: an inside and an outside run
unfoldable pub both_numbers : List ℤ → (rule boundary : ℤ) → (inside outside : Lists) → ReturnedBoth
both_numbers numbers rule boundary inside outside = of_both (clip_outcome numbers rule (pos 0) boundary inside) (clip_outcome numbers rule (pos 1) boundary outside)
