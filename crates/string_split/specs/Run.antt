-- A split run: which points it takes, what it answers, and what it writes to its lent lists.
use mathlib.Core.List.{List, [], ◌∷◌, map, flatten}
use Rattle.std.specs.Prelude.{cond, ℕ, ◌/◌, length, get_or, ℤ, Option, Some, None, Result, Ok, Err}
use Rattle.geom.specs.declared.Point.{Point}
use Rattle.geom.specs.Points.{in_range}
use Rattle.lists.specs.Members.{any}
use Rattle.lists.specs.Written.{written}
use Rattle.contour.specs.Points.{coordinates, pair_up, origin}
use Rattle.refusal.specs.declared.Kind.{Kind}
use Rattle.refusal.specs.declared.Kind.TheVariants.{WrongLength, OutOfRange, TooShort}
use Rattle.refusal.specs.declared.Refusal.{Refusal}
use Rattle.refusal.specs.Numbers.{number_of}
use Rattle.refusal.specs.Order.{Verdict, refuse_if, first, ◌then◌}
use Rattle.refusal.specs.Asked.{wrong_length, lent, too_short}
use Rattle.split_loops.specs.declared.buffer.LoopTotals.{LoopTotals}
use Rattle.split_loops.specs.Loops.{split_loops}
use Rattle.split_loops.specs.Splitting.{loop_totals}

-- ---- refusals
-- 3, at the point's place
unfoldable pub out_of_range_at : List Point → ℕ → Option Kind
out_of_range_at points i = cond (in_range (get_or points i origin)) None (Some OutOfRange)

-- 2 for numbers that are not whole points, or more than 2,048; 11 for lists without two numbers and one length for each point; then 3
unfoldable pub split_verdict : List ℤ → (out lengths : ℕ) → Verdict
split_verdict points out lengths =
    refuse_if WrongLength (wrong_length 2 2048 (length points))
    then refuse_if TooShort (any (too_short (length points / 2)) (lent out 2 ∷ lent lengths 1 ∷ []))
    then first (out_of_range_at (pair_up points)) (length (pair_up points))

-- ---- the run
-- what a run answers: how many loops and points it found, or the refusal
abbrev pub Answer : Type 0
Answer = Result LoopTotals Refusal

-- 01's number, place and values for what it answers
pub record Told : Type 0 where
  pub number : ℕ
  pub place : ℕ
  pub loops : ℕ
  pub points : ℕ

-- 0, 0 and how many loops and points there are; of a refusal its own number and place, and no loop
abbrev pub told : Answer → Told
told (Ok found) = record { number = 0; place = 0; loops = found.loops; points = found.points }
told (Err r) = record { number = number_of r.kind; place = r.place; loops = 0; points = 0 }

-- the lent lists: for x and y of each point, and for one length a loop
pub record Lists : Type 0 where
  pub out : List ℤ
  pub lengths : List ℕ

-- these two
abbrev pub lists : List ℤ → List ℕ → Lists
lists out lengths = record { out = out; lengths = lengths }

-- what it answers, set out in numbers, and the lent lists when it returns
pub record Outcome : Type 0 where
  pub answer : Answer
  pub numbers : Told
  pub lists : Lists

-- this answer and these lists
abbrev pub outcome : Answer → Lists → Outcome
outcome answer lists = record { answer = answer; numbers = told answer; lists = lists }

-- an accepted run writes x, y pairs and one length a loop at the fronts of the lists; a refused one writes nothing
abbrev pub answered : Verdict → List (List Point) → Lists → Outcome
answered (Ok _) loops old =
    outcome (Ok (loop_totals loops)) (lists (written (coordinates (flatten loops)) old.out) (written (map length loops) old.lengths))
answered (Err r) loops old = outcome (Err r) old

-- the outcome of a split run, for any numbers, minimum area and lent lists
unfoldable pub split_outcome : List ℤ → ℕ → Lists → Outcome
split_outcome points least old = answered (split_verdict points (length old.out) (length old.lengths)) (split_loops least (pair_up points)) old
