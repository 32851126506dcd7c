-- What is asked first, then the drawing.
use Rattle.std.proofs.Common.{sym, ap, ◌∙◌, Err}
use Rattle.std.proofs.lemmas.Result.{err_from_is_err_and}
use mir.Facts.{to_z-of_z}
use Rattle.checks.specs.Runs.{clip_run}
use Rattle.checks.proofs.Runs.{asked_few, asked_refused, asked_accepted}
use Rattle.checks.proofs.check_clip.Goals as goal

pub returns-in_err-ask_clip : goal.returns-in_err-ask_clip
returns-in_err-ask_clip c =
    let p = err_from_is_err_and c.from_residual.result c.from_residual.ensures.1 in
    asked_refused (clip_run c.args.numbers.now c.args.rule c.args.invert c.args.boundary c.args.points c.args.lengths) (rw (to_z-of_z c.ranges.rule, to_z-of_z c.ranges.invert, to_z-of_z c.ranges.boundary) at c.in_err-ask_clip.ensures) (p.1 ∙ ap Err p.2)

pub check_alone-requires : goal.check_alone-requires
unfolding clip_run
check_alone-requires c = asked_few (clip_run c.args.numbers.now c.args.rule c.args.invert c.args.boundary c.args.points c.args.lengths) (sym (rw (to_z-of_z c.ranges.rule, to_z-of_z c.ranges.invert, to_z-of_z c.ranges.boundary) at c.in_ok-ask_clip.ensures))

pub returns : goal.returns
unfolding clip_run
returns c = asked_accepted (clip_run c.args.numbers.now c.args.rule c.args.invert c.args.boundary c.args.points c.args.lengths) (rw (to_z-of_z c.ranges.rule, to_z-of_z c.ranges.invert, to_z-of_z c.ranges.boundary) at c.in_ok-ask_clip.ensures) c.check_alone.ensures
