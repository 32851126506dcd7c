-- What the programs print of an accepted text: it moved, and of that the text again.
use mathlib.Core.Path.{◌≡◌, refl, sym, ap, ◌∙◌}
use mathlib.Core.Bool.{true}
use mathlib.Core.List.{List}
use Prim.Native.Nat.{ℕ, ◌≤◌}
use native.Mathlib.Omega.{arith}
use lib.ListN.{length, replicate, length-replicate}
use Rattle.lists.specs.Written.{written}
use Rattle.lists.proofs.Written.{take_written}
use Rattle.std.specs.Prelude.{Ok}
use Rattle.refusal.specs.Order.{accepted}
use Rattle.segm.specs.Segments.{segments}
use Rattle.text.specs.Grammar.{most_bytes}
use Rattle.text.specs.Storing.{choices_in, numbers_in}
use Rattle.text_forms.specs.declared.Form.{Form}
use Rattle.text_forms.specs.Forms.{writing}
use Rattle.text_forms.specs.Reading.{parsed_in}
use Rattle.stored_text.specs.Outcome.{Outcome, outcome, lots_of, move_outcome}
use Rattle.stored_text.specs.Laws.{bytes_of, accepts_text}
use Rattle.stored_text.proofs.Laws.{accepted_short, accepted_moves, there_and_back_lem}
use Rattle.move_print.specs.Answer.{printed, answer_to}

-- the list of the programs
abbrev zeros : List ℕ
zeros = replicate most_bytes 0

enough : (n : ℕ) → n ≤ most_bytes → n ≤ length zeros
enough n h = omega (arith, h, length-replicate {A = ℕ} most_bytes 0)

-- what is printed of a text that was written
printed_text : (o : Outcome) (text : List ℕ) → o ≡ outcome (Ok (length text)) (written text zeros) → printed o ≡ text
unfolding printed
printed_text o text e = ap printed e ∙ take_written text zeros (length text) refl

module _ (from to : Form) (text : List ℕ) (e : accepts_text from text ≡ true) (k : lots_of to (segments (numbers_in (parsed_in from text))) ≡ accepted) where
  abbrev moved : List ℕ
  moved = writing to (choices_in (parsed_in from text)) (segments (numbers_in (parsed_in from text)))

  is : move_outcome from to text zeros ≡ outcome (Ok (length moved)) (written moved zeros)
  is = let m = accepted_moves from to text zeros e k in m.1 (enough (length moved) m.0)

  pub prints_moved : answer_to from to text ≡ moved
  unfolding answer_to
  prints_moved = printed_text (move_outcome from to text zeros) moved is

  pub prints_again : answer_to to from (answer_to from to text) ≡ text
  unfolding answer_to
  prints_again =
      let bytes : bytes_of (move_outcome from to text zeros) ≡ answer_to from to text = ap bytes_of is ∙ take_written moved zeros (length moved) refl ∙ sym prints_moved in
      let back = there_and_back_lem from to text zeros zeros (length moved) (ap (λ (o : Outcome). o.answer) is) (enough (length text) (accepted_short from text e)) in
      printed_text (move_outcome to from (answer_to from to text) zeros) text (ap (λ (t : List ℕ). move_outcome to from t zeros) (sym bytes) ∙ back)
