-- The reading decides the arm.
use mathlib.Core.Path.{◌≡◌, sym, ap, ◌∙◌}
use mathlib.Core.List.{List}
use Prim.Native.Nat.{ℕ, ◌*◌, ◌≤◌}
use lib.ListN.{length, take}
use lib.Seq.{length-take-le}
use lib.IntN.{ℤ}
use mir.Syntax.{w32}
use borrow.Author.Rules.{rules}
use mir.Val.{SFits}
use mir.Facts.{to_z-of_z}
use Rattle.std.specs.Prelude.{Result, Ok}
use Rattle.std.proofs.lemmas.Result.{err_from_is_err_and}
use Rattle.refusal.specs.declared.Refusal.{Refusal}
use Rattle.segm.specs.Segments.{width}
use Rattle.string_clip.specs.Run.{Lists, lists, clip_outcome}
use Rattle.text.specs.declared.Reading.{Reading}
use Rattle.text.specs.Storing as storing
use Rattle.text_forms.specs.declared.Form.TheVariants.{New}
use Rattle.text_forms.specs.Reading.{parsed_in, drawn_into}
use Rattle.text_forms.proofs.Reading.{drawn-held}
use Rattle.clip_text.specs.Answer.{text_outcome}
use Rattle.clip_text.proofs.TextRuns.{run_read, run_read_lem}
use Rattle.clip_text.proofs.clip_read.Goals as goal

-- what was read
module _ (text : List ℕ) (old stored : List ℤ) (ls : Lists) {a : Result Reading Refusal} (q : storing.outcome a stored ≡ drawn_into old (parsed_in New text)) where
  by-reading : {r : Result Reading Refusal} → a ≡ r → run_read ls r stored ≡ text_outcome text ls
  unfolding text_outcome
  by-reading e =
      ap (λ (r : Result Reading Refusal). run_read ls r stored) (sym e)
      ∙ ap (λ (o : storing.Outcome). run_read ls o.answer o.list) q
      ∙ run_read_lem ls (parsed_in New text) old

  held : length old ≡ 1024 * width → (r : Reading) → a ≡ Ok r → r.count ≤ length stored
  held h r e = drawn-held old (parsed_in New text) h (ap (λ (r : Result Reading Refusal). storing.outcome r stored) (sym e) ∙ q)

pub slice_bounds-clip-end : goal.slice_bounds-clip-end
slice_bounds-clip-end c = held c.args.text.now c.args.numbers.now c.read_form.new.numbers (lists c.args.points.now c.args.lengths.now) c.read_form.ensures c.requires c.in_ok-reading.reading c.in_ok-reading.was

pub slice_bounds-clip-end-2 : goal.slice_bounds-clip-end-2
slice_bounds-clip-end-2 c = sym (length-take-le _ _ (held c.args.text.now c.args.numbers.now c.read_form.new.numbers (lists c.args.points.now c.args.lengths.now) c.read_form.ensures c.requires c.in_ok-reading.reading c.in_ok-reading.was))

pub returns : goal.returns
returns c =
    let ls = lists c.args.points.now c.args.lengths.now in
    let x = c.in_ok-reading.reading in
    let rule : SFits w32 x.choices.rule = search rules in
    let invert : SFits w32 x.choices.invert = search rules in
    let boundary : SFits w32 x.choices.boundary = search rules in
    c.clip.ensures
    ∙ (λ i. clip_outcome (take x.count c.read_form.new.numbers) (to_z-of_z rule i) (to_z-of_z invert i) (to_z-of_z boundary i) ls)
    ∙ by-reading c.args.text.now c.args.numbers.now c.read_form.new.numbers ls c.read_form.ensures c.in_ok-reading.was

pub returns-in_err-reading : goal.returns-in_err-reading
returns-in_err-reading c =
    let e = err_from_is_err_and c.from_residual.result c.from_residual.ensures.1 in
    rw (e.1, e.2) (by-reading c.args.text.now c.args.numbers.now c.read_form.new.numbers (lists c.args.points.now c.args.lengths.now) c.read_form.ensures c.in_err-reading.was)
