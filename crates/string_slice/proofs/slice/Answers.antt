-- What is asked first, then the drawing, in memory for a small one or for any.
use Rattle.std.proofs.Common.{refl, sym, ap, ◌∙◌, Err, arith}
use Rattle.std.proofs.lemmas.Result.{err_from_is_err_and}
use mir.Facts.{to_z-of_z}
use Rattle.segm.proofs.Segments.{length-segments}
use Rattle.checks.specs.Runs.{slice_run}
use Rattle.checks.proofs.Runs.{asked_few, asked_refused}
use Rattle.string_slice.specs.Run.{lists, run_of, outcome}
use Rattle.string_slice.proofs.Run.{refused_answer}
use Rattle.string_slice.proofs.slice.Goals as goal

pub returns-in_err-ask_slice : goal.returns-in_err-ask_slice
returns-in_err-ask_slice c =
    let ls = lists c.args.points.now c.args.lengths.now c.args.roles.now in
    let run = run_of c.args.numbers.now c.args.rule c.args.direction ls in
    let p = err_from_is_err_and c.from_residual.result c.from_residual.ensures.1 in
    let asked = rw (to_z-of_z c.ranges.rule, to_z-of_z c.ranges.direction) at c.in_err-ask_slice.ensures in
    ap (λ a. outcome a ls) (p.1 ∙ ap Err p.2)
    ∙ refused_answer c.args.numbers.now c.args.rule c.args.direction ls c.args.min_area (sym (asked_refused run asked refl))

pub slice_in-requires-clause-few : goal.slice_in-requires-clause-few
slice_in-requires-clause-few c = omega (arith, length-segments c.args.numbers.now, c.count.ensures)

pub slice_in-requires-2-clause-few : goal.slice_in-requires-2-clause-few
unfolding slice_run
slice_in-requires-2-clause-few c =
    let run = run_of c.args.numbers.now c.args.rule c.args.direction (lists c.args.points.now c.args.lengths.now c.args.roles.now) in
    let asked = rw (to_z-of_z c.ranges.rule, to_z-of_z c.ranges.direction) at c.in_ok-ask_slice.ensures in
    asked_few run (sym asked)
