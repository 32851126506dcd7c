-- What is printed does not depend on what the list held, and stands at its front.
use mathlib.Core.Path.{◌≡◌, refl, sym, ap, subst, ◌∙◌}
use mathlib.Core.List.{List}
use Prim.Native.Nat.{ℕ, ◌≤◌}
use native.Mathlib.Omega.{arith}
use lib.ListN.{length, replicate, length-replicate}
use Rattle.lists.specs.Written.{written}
use Rattle.lists.proofs.Written.{take_written, length_written}
use Rattle.std.specs.Prelude.{Ok, Err}
use Rattle.refusal.specs.declared.Kind.TheVariants.{TooShort}
use Rattle.refusal.specs.declared.Refusal.{Refusal}
use Rattle.refusal.specs.Numbers.{number_of}
use Rattle.refusal.specs.Order.{Verdict, refuse_if, ◌then◌}
use Rattle.refusal.specs.Asked.{lent, too_short}
use Rattle.writing.specs.Lines.{refused_line}
use Rattle.text.specs.Grammar.{most_bytes}
use Rattle.text.proofs.Storing.StoredRows.{differ}
use Rattle.text_forms.specs.declared.Form.{Form}
use Rattle.stored_text.specs.Outcome.{Outcome, outcome, answered, written_unless, move_outcome}
use Rattle.stored_text.proofs.Written.{was_written}
use Rattle.move_print.specs.Answer.{printed, answer_to}

-- the line of a refusal
abbrev pub line_of_refusal : Refusal → List ℕ
line_of_refusal e = refused_line (number_of e.kind) e.place

-- the text, or that line
abbrev printed_by : Verdict → List ℕ → List ℕ
printed_by (Ok _) text = text
printed_by (Err e) text = line_of_refusal e

by_verdict : (v : Verdict) (text old : List ℕ) → printed (answered v text old) ≡ printed_by v text
unfolding printed
by_verdict (Ok _) text old = take_written text old (length text) refl
by_verdict (Err e) text old = refl

-- bytes stand at the front of a list, and their number is told
pub record Stands (bytes old : List ℕ) (n : ℕ) (new : List ℕ) : Type 0 where
  pub count : n ≡ length bytes
  pub list : new ≡ written bytes old
  pub inside : n ≤ length new

pub stands : (bytes old : List ℕ) {n : ℕ} {new : List ℕ} → length bytes ≤ length old → n ≡ length bytes → new ≡ written bytes old → Stands bytes old n new
stands bytes old h e l = record { count = e; list = l; inside = omega (arith, e, ap length l, length_written bytes old h, h) }

module _ (before : Verdict) (text old : List ℕ) where
  abbrev verdict_on : ℕ → Verdict
  verdict_on entries = before then refuse_if TooShort (too_short (length text) (lent entries 1))

  -- only the length of the list counts
  same_written : (other : List ℕ) → length old ≡ length other → printed (written_unless before text old) ≡ printed (written_unless before text other)
  unfolding written_unless
  same_written other e = by_verdict (verdict_on (length old)) text old ∙ ap (λ n. printed_by (verdict_on n) text) e ∙ sym (by_verdict (verdict_on (length other)) text other)

  -- a text that was written stands there,
  done_written : {n : ℕ} {l : List ℕ} → outcome (Ok n) l ≡ written_unless before text old → Stands (printed (written_unless before text old)) old n l
  unfolding printed
  done_written {n} {l} e =
      let w = was_written before text old (sym (ap (λ (o : Outcome). o.answer) e)) in
      let is = e ∙ w.is in
      let answers = ap (λ (o : Outcome). o.answer) is in
      let count : n ≡ length text = cc in
      let bytes : printed (written_unless before text old) ≡ text = ap printed w.is ∙ take_written text old (length text) refl in
      subst (λ (b : List ℕ). Stands b old n l) (sym bytes) (stands text old w.fits count (ap (λ (o : Outcome). o.list) is))

  -- or the line of the refusal is yet to be put
  refused_written : {r : Refusal} {l : List ℕ} → outcome (Err r) l ≡ written_unless before text old → (line_of_refusal r ≡ printed (written_unless before text old)) × (l ≡ old)
  unfolding written_unless
  refused_written {r} {l} e = go (verdict_on (length old)) e
    where
      go : (v : Verdict) → outcome (Err r) l ≡ answered v text old → (line_of_refusal r ≡ printed (answered v text old)) × (l ≡ old)
      go (Ok _) e = let a = ap (λ (o : Outcome). o.answer) e in absurd (differ (cc))
      go (Err s) e =
          let a = ap (λ (o : Outcome). o.answer) e in
          let same : r ≡ s = cc in
          (ap line_of_refusal same ∙ sym (by_verdict (Err s) text old), ap (λ (o : Outcome). o.list) e)

module _ (from to : Form) (text old : List ℕ) (room : length old ≡ most_bytes) where
  -- whatever the list held
  same_answer : printed (move_outcome from to text old) ≡ answer_to from to text
  unfolding move_outcome answer_to
  same_answer = same_written _ _ old (replicate most_bytes 0) (room ∙ sym (length-replicate {A = ℕ} most_bytes 0))

  pub done_answer : {n : ℕ} {l : List ℕ} → outcome (Ok n) l ≡ move_outcome from to text old → Stands (answer_to from to text) old n l
  unfolding move_outcome
  done_answer {n} {l} e = subst (λ (bytes : List ℕ). Stands bytes old n l) same_answer (done_written _ _ old e)

  pub refused_answer : {r : Refusal} {l : List ℕ} → outcome (Err r) l ≡ move_outcome from to text old → (line_of_refusal r ≡ answer_to from to text) × (l ≡ old)
  unfolding move_outcome
  refused_answer e = let q = refused_written _ _ old e in (q.0 ∙ same_answer, q.1)
