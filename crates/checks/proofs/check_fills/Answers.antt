-- What is asked first, then the drawing.
use Rattle.std.proofs.Common.{sym, ap, ◌∙◌, Err}
use Rattle.std.proofs.lemmas.Result.{err_from_is_err_and}
use mir.Facts.{to_z-of_z}
use Rattle.checks.specs.Runs.{fills_run}
use Rattle.checks.proofs.Runs.{asked_few, asked_refused, asked_accepted}
use Rattle.checks.proofs.check_fills.Goals as goal

pub returns-in_err-ask_fills : goal.returns-in_err-ask_fills
returns-in_err-ask_fills c =
    let p = err_from_is_err_and c.from_residual.result c.from_residual.ensures.1 in
    asked_refused (fills_run c.args.numbers.now c.args.rule c.args.fills) (rw (to_z-of_z c.ranges.rule) at c.in_err-ask_fills.ensures) (p.1 ∙ ap Err p.2)

pub check_alone-requires : goal.check_alone-requires
unfolding fills_run
check_alone-requires c = asked_few (fills_run c.args.numbers.now c.args.rule c.args.fills) (sym (rw (to_z-of_z c.ranges.rule) at c.in_ok-ask_fills.ensures))

pub returns : goal.returns
unfolding fills_run
returns c = asked_accepted (fills_run c.args.numbers.now c.args.rule c.args.fills) (rw (to_z-of_z c.ranges.rule) at c.in_ok-ask_fills.ensures) c.check_alone.ensures
