-- What is asked first, then the drawing, in memory for a small one or for any.
use Rattle.std.proofs.Common.{refl, sym, ap, ◌∙◌, Err, lit≤, arith}
use Rattle.std.proofs.lemmas.Result.{err_from_is_err_and}
use mir.Facts.{to_z-of_z}
use Rattle.segm.proofs.Segments.{length-segments}
use Rattle.checks.specs.Runs.{clip_run}
use Rattle.checks.proofs.Runs.{asked_few, asked_refused}
use Rattle.string_clip.specs.Run.{lists, run_of, outcome}
use Rattle.string_clip.proofs.Run.Answers.{refused_answer}
use Rattle.string_clip.proofs.clip.Goals as goal

pub returns-in_err-ask_clip : goal.returns-in_err-ask_clip
returns-in_err-ask_clip c =
    let ls = lists c.args.points.now c.args.lengths.now in
    let run = run_of c.args.numbers.now c.args.rule c.args.invert c.args.boundary ls in
    let p = err_from_is_err_and c.from_residual.result c.from_residual.ensures.1 in
    let asked = rw (to_z-of_z c.ranges.rule, to_z-of_z c.ranges.invert, to_z-of_z c.ranges.boundary) at c.in_err-ask_clip.ensures in
    ap (λ a. outcome a ls) (p.1 ∙ ap Err p.2)
    ∙ refused_answer c.args.numbers.now c.args.rule c.args.invert c.args.boundary ls (sym (asked_refused run asked refl))

pub clip_in-requires : goal.clip_in-requires
unfolding clip_run
clip_in-requires c = (((lit≤ tt, refl), refl), omega (arith, length-segments c.args.numbers.now, c.count.ensures), sym c.in_ok-ask_clip.ensures)

pub clip_in-requires-2 : goal.clip_in-requires-2
unfolding clip_run
clip_in-requires-2 c =
    let run = run_of c.args.numbers.now c.args.rule c.args.invert c.args.boundary (lists c.args.points.now c.args.lengths.now) in
    let asked = rw (to_z-of_z c.ranges.rule, to_z-of_z c.ranges.invert, to_z-of_z c.ranges.boundary) at c.in_ok-ask_clip.ensures in
    (((lit≤ tt, refl), refl), asked_few run (sym asked), sym c.in_ok-ask_clip.ensures)
