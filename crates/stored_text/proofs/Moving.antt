-- What the code tells of a text once it has read it.
use mathlib.Core.Path.{◌≡◌, refl, ap}
use mathlib.Core.Bool.{Bool, true, false}
use mathlib.Core.List.{List}
use Prim.Native.Nat.{ℕ, ◌≤◌}
use lib.ListN.{length, take}
use lib.IntN.{ℤ}
use Rattle.lists.proofs.Written.{take_written}
use Rattle.std.specs.Prelude.{Result, Ok, Err}
use Rattle.refusal.specs.declared.Kind.TheVariants.{WrongLength}
use Rattle.refusal.specs.declared.Refusal.{Refusal}
use Rattle.refusal.specs.Order.{accepted, refuse_if, ◌then◌}
use Rattle.refusal.specs.Asked.{wrong_length}
use Rattle.segm.specs.Segments.{width, segments}
use Rattle.checks.specs.Runs.{clip_input}
use Rattle.checks.proofs.Runs.{wrong_refused}
use Rattle.checks.proofs.Accepted.{verdict_good}
use Rattle.text.specs.declared.Choices.{Choices}
use Rattle.text.specs.declared.Reading.{Reading}
use Rattle.text.specs.Grammar.{Parsed, BadLine, Drawn}
use Rattle.text.specs.Storing as storing
use Rattle.text_forms.specs.declared.Form.{Form}
use Rattle.text_forms.specs.Forms.{writing}
use Rattle.text_forms.specs.Reading.{drawn_verdict, drawn_into}
use Rattle.stored_text.specs.Outcome.{Outcome, outcome, input_verdict, lots_of, written_unless, moved_into}

-- an accepted drawing has few segments
pub few_segments : (c : Choices) (numbers : List ℤ) → input_verdict c numbers ≡ accepted → length (segments numbers) ≤ 1024
few_segments c numbers e = (verdict_good _ e).faultless.few

module _ (to : Form) (old : List ℕ) where
  -- what becomes of choices and numbers
  abbrev pub moved : Choices → List ℤ → Outcome
  moved c numbers = written_unless (input_verdict c numbers then lots_of to (segments numbers)) (writing to c (segments numbers)) old

  abbrev pub moved_read : Result Reading Refusal → List ℤ → Outcome
  moved_read (Ok r) l = moved r.choices (take r.count l)
  moved_read (Err e) l = outcome (Err e) old

  pub moved_read_lem : (p : Parsed) (numbers : List ℤ) → (let o = drawn_into numbers p in moved_read o.answer o.list ≡ moved_into to old p)
  unfolding drawn_verdict written_unless
  moved_read_lem (BadLine line) numbers = refl
  moved_read_lem (Drawn c l) numbers = by (wrong_length width 1024 (length l)) refl
    where
      by : (b : Bool) → wrong_length width 1024 (length l) ≡ b → (let o = storing.answered (refuse_if WrongLength b) (Drawn c l) numbers in moved_read o.answer o.list ≡ moved c l)
      by true e = rw (wrong_refused (clip_input l c.rule c.invert c.boundary) e) refl
      by false e = ap (moved c) (take_written l numbers (length l) refl)
