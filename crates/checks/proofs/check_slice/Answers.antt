-- What is asked first, then the drawing.
use Rattle.std.proofs.Common.{sym, ap, ◌∙◌, Err}
use Rattle.std.proofs.lemmas.Result.{err_from_is_err_and}
use mir.Facts.{to_z-of_z}
use Rattle.checks.specs.Runs.{slice_run}
use Rattle.checks.proofs.Runs.{asked_few, asked_refused, asked_accepted}
use Rattle.checks.proofs.check_slice.Goals as goal

pub returns-in_err-ask_slice : goal.returns-in_err-ask_slice
returns-in_err-ask_slice c =
    let p = err_from_is_err_and c.from_residual.result c.from_residual.ensures.1 in
    asked_refused (slice_run c.args.numbers.now c.args.rule c.args.direction c.args.points c.args.lengths c.args.roles) (rw (to_z-of_z c.ranges.rule, to_z-of_z c.ranges.direction) at c.in_err-ask_slice.ensures) (p.1 ∙ ap Err p.2)

pub check_alone-requires : goal.check_alone-requires
unfolding slice_run
check_alone-requires c = asked_few (slice_run c.args.numbers.now c.args.rule c.args.direction c.args.points c.args.lengths c.args.roles) (sym (rw (to_z-of_z c.ranges.rule, to_z-of_z c.ranges.direction) at c.in_ok-ask_slice.ensures))

pub returns : goal.returns
unfolding slice_run
returns c = asked_accepted (slice_run c.args.numbers.now c.args.rule c.args.direction c.args.points c.args.lengths c.args.roles) (rw (to_z-of_z c.ranges.rule, to_z-of_z c.ranges.direction) at c.in_ok-ask_slice.ensures) c.check_alone.ensures
