-- Checked, then written.
use mathlib.Core.Path.{◌≡◌, sym, ap₂, ◌∙◌}
use mathlib.Core.List.{List}
use lib.IntN.{ℤ}
use mir.Syntax.{w32}
use mir.Val.{SFits, to_z, of_z}
use mir.Facts.{to_z-of_z}
use Rattle.std.proofs.lemmas.Result.{err_from_is_err_and}
use Rattle.refusal.specs.Order.{Verdict}
use Rattle.segm.specs.Segments.{segments}
use Rattle.checks.specs.Runs.{clip_input, verdict}
use Rattle.text.specs.declared.Choices.{Choices}
use Rattle.text_forms.specs.declared.Form.TheVariants.{New}
use Rattle.text_forms.specs.Forms.{writing}
use Rattle.stored_text.specs.Outcome.{input_verdict, written_unless, write_outcome}
use Rattle.stored_text.proofs.Moving.{few_segments}
use Rattle.stored_text.proofs.Written.{refused_before}
use Rattle.stored_text.proofs.write.Goals as goal

-- what was checked, and what is written, as they were given
module _ (l : List ℤ) {rule invert boundary : ℤ} (r : SFits w32 rule) (i : SFits w32 invert) (b : SFits w32 boundary) where
  abbrev chosen : Choices
  chosen = record { rule = rule; invert = invert; boundary = boundary }

  checked : {v : Verdict} → v ≡ verdict (clip_input l (to_z w32 (of_z w32 rule)) (to_z w32 (of_z w32 invert)) (to_z w32 (of_z w32 boundary))) → v ≡ input_verdict chosen l
  checked e = rw (to_z-of_z r, to_z-of_z i, to_z-of_z b) at e

pub returns-in_err-check_input : goal.returns-in_err-check_input
unfolding write_outcome
returns-in_err-check_input c =
    let e = err_from_is_err_and c.from_residual.result c.from_residual.ensures.1 in
    rw (e.1, e.2) (refused_before _ c.args.out.now (sym (checked c.args.numbers.now c.ranges.rule c.ranges.invert c.ranges.boundary c.check_input.ensures) ∙ c.in_err-check_input.was))

pub write_text-requires : goal.write_text-requires
write_text-requires c =
    few_segments _ c.args.numbers.now (sym (checked c.args.numbers.now c.ranges.rule c.ranges.invert c.ranges.boundary c.check_input.ensures) ∙ c.in_ok-check_input.was)

pub returns : goal.returns
unfolding write_outcome
returns c =
    let accepts = sym (checked c.args.numbers.now c.ranges.rule c.ranges.invert c.ranges.boundary c.check_input.ensures) ∙ c.in_ok-check_input.was in
    let given : _ ≡ chosen c.args.numbers.now c.ranges.rule c.ranges.invert c.ranges.boundary = λ i. record { rule = to_z-of_z c.ranges.rule i; invert = to_z-of_z c.ranges.invert i; boundary = to_z-of_z c.ranges.boundary i } in
    c.write_text.ensures ∙ ap₂ (λ (v : Verdict) (x : Choices). written_unless v (writing New x (segments c.args.numbers.now)) c.args.out.now) (sym accepts) given
