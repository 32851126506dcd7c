-- What is asked first, then the drawing, in memory for a small one or for any.
use Rattle.std.proofs.Common.{refl, sym, ap, ◌∙◌, length, Err, lit≤, arith}
use Rattle.std.proofs.lemmas.Result.{err_from_is_err_and}
use mir.Facts.{to_z-of_z}
use Rattle.segm.proofs.Segments.{length-segments}
use Rattle.checks.specs.Runs.{fills_run}
use Rattle.checks.proofs.Runs.{asked_few, asked_refused}
use Rattle.build.specs.Fills.{outcome}
use Rattle.build.proofs.Outcome.{by_verdict}
use Rattle.build.proofs.run.fills.Goals as goal

pub returns-in_err-ask_fills : goal.returns-in_err-ask_fills
returns-in_err-ask_fills c =
    let run = fills_run c.args.numbers.now c.args.rule (length c.args.fills.now) in
    let p = err_from_is_err_and c.from_residual.result c.from_residual.ensures.1 in
    ap (λ a. outcome a c.args.fills.now) (p.1 ∙ ap Err p.2)
    ∙ by_verdict c.args.numbers.now c.args.rule c.args.fills.now (asked_refused run (rw (to_z-of_z c.ranges.rule) at c.in_err-ask_fills.ensures) refl)

pub fills_in-requires : goal.fills_in-requires
unfolding fills_run
fills_in-requires c =
    (((lit≤ tt, refl), refl), omega (arith, length-segments c.args.numbers.now, c.count.ensures), sym c.in_ok-ask_fills.ensures)

pub fills_in-requires-2 : goal.fills_in-requires-2
unfolding fills_run
fills_in-requires-2 c =
    let run = fills_run c.args.numbers.now c.args.rule (length c.args.fills.now) in
    (((lit≤ tt, refl), refl), asked_few run (sym (rw (to_z-of_z c.ranges.rule) at c.in_ok-ask_fills.ensures)), sym c.in_ok-ask_fills.ensures)
