-- The reading decides, then the checks.
use mathlib.Core.Path.{◌≡◌, sym, ap, ap₂, ◌∙◌}
use mathlib.Core.List.{List}
use Prim.Native.Nat.{ℕ, ◌*◌, ◌≤◌}
use borrow.Author.Rules.{rules}
use lib.ListN.{length, take}
use lib.Seq.{length-take-le}
use lib.IntN.{ℤ}
use mir.Syntax.{w32}
use mir.Val.{SFits, to_z, of_z}
use mir.Facts.{to_z-of_z}
use Rattle.std.specs.Prelude.{Result, Ok}
use Rattle.std.proofs.lemmas.Result.{err_from_is_err_and}
use Rattle.refusal.specs.declared.Refusal.{Refusal}
use Rattle.refusal.specs.Order.{Verdict, ◌then◌}
use Rattle.segm.specs.Segments.{width, segments}
use Rattle.checks.specs.Runs.{clip_input, verdict}
use Rattle.text.specs.declared.Choices.{Choices}
use Rattle.text.specs.declared.Reading.{Reading}
use Rattle.text.specs.Storing as storing
use Rattle.text_forms.specs.declared.Form.{Form}
use Rattle.text_forms.specs.Forms.{writing}
use Rattle.text_forms.specs.Reading.{parsed_in, drawn_into}
use Rattle.text_forms.proofs.Reading.{drawn-held}
use Rattle.stored_text.specs.Outcome.{input_verdict, lots_of, written_unless, move_outcome}
use Rattle.stored_text.proofs.Moving.{few_segments, moved_read, moved_read_lem}
use Rattle.stored_text.proofs.Written.{refused_before}
use Rattle.stored_text.proofs.move_read.Goals as goal

-- what was read
module _ (from to : Form) (text old : List ℕ) (numbers stored : List ℤ) {a : Result Reading Refusal} (q : storing.outcome a stored ≡ drawn_into numbers (parsed_in from text)) where
  by-reading : {r : Result Reading Refusal} → a ≡ r → moved_read to old r stored ≡ move_outcome from to text old
  unfolding move_outcome
  by-reading e =
      ap (λ (r : Result Reading Refusal). moved_read to old r stored) (sym e)
      ∙ ap (λ (o : storing.Outcome). moved_read to old o.answer o.list) q
      ∙ moved_read_lem to old (parsed_in from text) numbers

  held : (r : Reading) → a ≡ Ok r → length numbers ≡ 1024 * width → r.count ≤ length stored
  held r e n = drawn-held numbers (parsed_in from text) n (ap (λ (r : Result Reading Refusal). storing.outcome r stored) (sym e) ∙ q)

-- what was checked, as it was read
checked : (l : List ℤ) (c : Choices) → SFits w32 c.rule → SFits w32 c.invert → SFits w32 c.boundary → {v : Verdict} → v ≡ verdict (clip_input l (to_z w32 (of_z w32 c.rule)) (to_z w32 (of_z w32 c.invert)) (to_z w32 (of_z w32 c.boundary))) → v ≡ input_verdict c l
checked l c r i b e = rw (to_z-of_z r, to_z-of_z i, to_z-of_z b) at e

pub slice_bounds-drawing-end : goal.slice_bounds-drawing-end
slice_bounds-drawing-end c = held c.args.from c.args.to c.args.text.now c.args.out.now c.args.numbers.now c.read_form.new.numbers c.read_form.ensures c.in_ok-reading.reading c.in_ok-reading.was c.requires

pub slice_bounds-drawing-end-2 : goal.slice_bounds-drawing-end-2
slice_bounds-drawing-end-2 c = sym (length-take-le _ _ (held c.args.from c.args.to c.args.text.now c.args.out.now c.args.numbers.now c.read_form.new.numbers c.read_form.ensures c.in_ok-reading.reading c.in_ok-reading.was c.requires))

pub returns-in_err-reading : goal.returns-in_err-reading
returns-in_err-reading c =
    let e = err_from_is_err_and c.from_residual.result c.from_residual.ensures.1 in
    rw (e.1, e.2) (by-reading c.args.from c.args.to c.args.text.now c.args.out.now c.args.numbers.now c.read_form.new.numbers c.read_form.ensures c.in_err-reading.was)

pub returns-in_err-check_input : goal.returns-in_err-check_input
returns-in_err-check_input c =
    let x = c.in_ok-reading.reading in
    let rule : SFits w32 x.choices.rule = search rules in
    let invert : SFits w32 x.choices.invert = search rules in
    let boundary : SFits w32 x.choices.boundary = search rules in
    let drawing = take x.count c.read_form.new.numbers in
    let v = sym (checked drawing x.choices rule invert boundary c.check_input.ensures) ∙ c.in_err-check_input.was in
    let e = err_from_is_err_and c.from_residual-in_err-check_input.result c.from_residual-in_err-check_input.ensures.1 in
    let refused = refused_before (writing c.args.to x.choices (segments drawing)) c.args.out.now (ap (λ (u : Verdict). u then lots_of c.args.to (segments drawing)) v) in
    rw (e.1, e.2) (refused ∙ by-reading c.args.from c.args.to c.args.text.now c.args.out.now c.args.numbers.now c.read_form.new.numbers c.read_form.ensures c.in_ok-reading.was)

pub returns-in_err-check_lots : goal.returns-in_err-check_lots
returns-in_err-check_lots c =
    let x = c.in_ok-reading.reading in
    let rule : SFits w32 x.choices.rule = search rules in
    let invert : SFits w32 x.choices.invert = search rules in
    let boundary : SFits w32 x.choices.boundary = search rules in
    let drawing = take x.count c.read_form.new.numbers in
    let v = sym (checked drawing x.choices rule invert boundary c.check_input.ensures) ∙ c.in_ok-check_input.was in
    let e = err_from_is_err_and c.from_residual-in_err-check_lots.result c.from_residual-in_err-check_lots.ensures.1 in
    let refused = refused_before (writing c.args.to x.choices (segments drawing)) c.args.out.now (ap₂ ◌then◌ v (sym c.check_lots.ensures ∙ c.in_err-check_lots.was)) in
    rw (e.1, e.2) (refused ∙ by-reading c.args.from c.args.to c.args.text.now c.args.out.now c.args.numbers.now c.read_form.new.numbers c.read_form.ensures c.in_ok-reading.was)

pub write_text-requires : goal.write_text-requires
write_text-requires c =
    let x = c.in_ok-reading.reading in
    let rule : SFits w32 x.choices.rule = search rules in
    let invert : SFits w32 x.choices.invert = search rules in
    let boundary : SFits w32 x.choices.boundary = search rules in
    let drawing = take x.count c.read_form.new.numbers in
    let v = sym (checked drawing x.choices rule invert boundary c.check_input.ensures) ∙ c.in_ok-check_input.was in
    few_segments x.choices drawing v

pub returns : goal.returns
returns c =
    let x = c.in_ok-reading.reading in
    let rule : SFits w32 x.choices.rule = search rules in
    let invert : SFits w32 x.choices.invert = search rules in
    let boundary : SFits w32 x.choices.boundary = search rules in
    let drawing = take x.count c.read_form.new.numbers in
    let v = sym (checked drawing x.choices rule invert boundary c.check_input.ensures) ∙ c.in_ok-check_input.was in
    let both = ap₂ ◌then◌ v (sym c.check_lots.ensures ∙ c.in_ok-check_lots.was) in
    c.write_text.ensures ∙ ap (λ (u : Verdict). written_unless u (writing c.args.to x.choices (segments drawing)) c.args.out.now) (sym both) ∙ by-reading c.args.from c.args.to c.args.text.now c.args.out.now c.args.numbers.now c.read_form.new.numbers c.read_form.ensures c.in_ok-reading.was
