-- The mover's answer decides.
use borrow.Author.Rules.{rules}
use mathlib.Core.Path.{◌≡◌, sym, ap, subst, ◌∙◌}
use mathlib.Core.List.{List}
use Prim.Native.Nat.{ℕ, ◌≤◌}
use native.Mathlib.Omega.{arith}
use Rattle.text_forms.specs.declared.Form.{Form}
use lib.ListN.{length}
use lib.Seq.{length-take-le}
use Rattle.std.specs.Prelude.{Result, Ok, Err}
use Rattle.refusal.specs.declared.Refusal.{Refusal}
use Rattle.stored_text.specs.Outcome.{outcome, move_outcome}
use Rattle.writing.proofs.Lengths.{length_refused, refused_short}
use Rattle.writing.proofs.Puts.{put_whole}
use Rattle.writing.specs.Lines.{refused_line}
use Rattle.writing.specs.Puts.{Put}
use Rattle.refusal.specs.Numbers.{number_of}
use Rattle.text.specs.Grammar.{most_bytes}
use Rattle.move_print.specs.Answer.{answer_to}
use Rattle.move_print.proofs.Printed.{line_of_refusal, Stands, stands, done_answer, refused_answer}
use Rattle.move_print.proofs.answer.Goals as goal

-- what the mover told
module _ (text old new : List ℕ) (from to : Form) {a : Result ℕ Refusal} (room : length old ≡ most_bytes) (q : outcome a new ≡ move_outcome from to text old) where
  is : {b : Result ℕ Refusal} → a ≡ b → outcome b new ≡ move_outcome from to text old
  is e = ap (λ (w : Result ℕ Refusal). outcome w new) (sym e) ∙ q

  moved : {n : ℕ} → a ≡ Ok n → Stands (answer_to from to text) old n new
  moved e = done_answer from to text old room (is e)

  refused : {r : Refusal} → a ≡ Err r → (line_of_refusal r ≡ answer_to from to text) × (new ≡ old)
  refused e = refused_answer from to text old room (is e)

-- there is room for the line of a refusal
line-fits : (r : Refusal) (old : List ℕ) → length old ≡ most_bytes → length (line_of_refusal r) ≤ length old
line-fits r old room = omega (arith, length_refused (number_of r.kind) r.place, refused_short (number_of r.kind) r.place, room)

pub put_refused-requires : goal.put_refused-requires
put_refused-requires c =
    let room : length c.args.out.now ≡ most_bytes = search rules in
    let r = refused c.args.text.now c.args.out.now c.move_text.new.out c.args.from c.args.to room c.move_text.ensures c.in-Err.is in
    omega (arith, line-fits c.in-Err.refusal c.args.out.now room, ap length r.1, ap (λ n. length (refused_line n c.in-Err.refusal.place)) c.number.ensures)

pub returns-in-Ok : goal.returns-in-Ok
returns-in-Ok c =
    let room : length c.args.out.now ≡ most_bytes = search rules in
    let w = moved c.args.text.now c.args.out.now c.move_text.new.out c.args.from c.args.to room c.move_text.ensures c.in-Ok.is in
    record { prefix_len = (w.inside, sym (length-take-le _ _ w.inside)); value = (w.count, w.list) }

pub returns-in-Err : goal.returns-in-Err
returns-in-Err c =
    let room : length c.args.out.now ≡ most_bytes = search rules in
    let old = c.args.out.now in
    let bytes = answer_to c.args.from c.args.to c.args.text.now in
    let r = refused c.args.text.now old c.move_text.new.out c.args.from c.args.to room c.move_text.ensures c.in-Err.is in
    let fits : length bytes ≤ length old = omega (arith, ap length r.0, line-fits c.in-Err.refusal old room) in
    let told = subst (λ n. Put c.move_text.new.out 0 (refused_line n c.in-Err.refusal.place) c.put_refused.result c.put_refused.new.out) c.number.ensures c.put_refused.ensures in
    let put = subst (λ (l : List ℕ). Put l 0 (line_of_refusal c.in-Err.refusal) c.put_refused.result c.put_refused.new.out) r.1 told in
    let p = put_whole (rw r.0 at put) fits in
    let w = stands bytes old fits p.0 p.1 in
    record { prefix_len = (w.inside, sym (length-take-le _ _ w.inside)); value = (w.count, w.list) }
