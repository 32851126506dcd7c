-- The run on what was read of a text is the run on all of it.
use mathlib.Core.Path.{◌≡◌, refl, ap}
use mathlib.Core.List.{List}
use mathlib.Core.Bool.{Bool, true, false}
use lib.ListN.{length, take}
use lib.IntN.{ℤ}
use Rattle.lists.proofs.Written.{take_written}
use Rattle.segm.specs.Segments.{width}
use Rattle.std.specs.Prelude.{Result, Ok, Err}
use Rattle.refusal.specs.declared.Kind.TheVariants.{WrongLength}
use Rattle.refusal.specs.declared.Refusal.{Refusal}
use Rattle.refusal.specs.Order.{refusal, refuse_if}
use Rattle.refusal.specs.Asked.{wrong_length}
use Rattle.checks.specs.Runs.{clip_run}
use Rattle.checks.proofs.Runs.{wrong_refused}
use Rattle.string_clip.specs.Run.{Lists, Outcome, outcome, run_of, clip_outcome}
use Rattle.text.specs.declared.Choices.{Choices}
use Rattle.text.specs.declared.Reading.{Reading}
use Rattle.text.specs.Grammar.{Parsed, BadLine, Drawn}
use Rattle.text.specs.Storing.{answered}
use Rattle.text_forms.specs.Reading.{drawn_verdict, drawn_into}
use Rattle.clip_text.specs.Answer.{run_on}

-- the outcome of a run on numbers and choices, over these lists
module _ (ls : Lists) where
  abbrev run : Choices → List ℤ → Outcome
  run c l = clip_outcome l c.rule c.invert c.boundary ls

  too_many : (c : Choices) (l : List ℤ) → wrong_length width 1024 (length l) ≡ true → outcome (Err (refusal WrongLength 0)) ls ≡ run c l
  unfolding clip_outcome clip_run
  too_many c l e = rw (wrong_refused (run_of l c.rule c.invert c.boundary ls) e) refl

  -- what the code does once it has read: it runs on the numbers
  abbrev pub run_read : Result Reading Refusal → List ℤ → Outcome
  run_read (Ok r) l = run r.choices (take r.count l)
  run_read (Err e) l = outcome (Err e) ls

  -- that is the run on all numbers of the text
  pub run_read_lem : (p : Parsed) (old : List ℤ) → (let o = drawn_into old p in run_read o.answer o.list ≡ run_on p ls)
  unfolding drawn_verdict
  run_read_lem (BadLine line) old = refl
  run_read_lem (Drawn c numbers) old = by (wrong_length width 1024 (length numbers)) refl
    where
      by : (b : Bool) → wrong_length width 1024 (length numbers) ≡ b → (let o = answered (refuse_if WrongLength b) (Drawn c numbers) old in run_read o.answer o.list ≡ run c numbers)
      by true e = too_many c numbers e
      by false e = ap (run c) (take_written numbers old (length numbers) refl)
