-- The verdict on the drawing decides, as nothing was refused before.
use Rattle.std.proofs.Common.{refl, sym, ap, ◌∙◌, ℕ, Err, arith}
use Rattle.std.proofs.lemmas.Result.{err_from_is_err_and}
use Rattle.std.proofs.lemmas.List.{length-replicate}
use mir.Facts.{to_z-of_z}
use Rattle.checks.specs.Runs.{clip_run}
use Rattle.checks.proofs.Runs.{asked_accepted}
use Rattle.string_clip.specs.Run.{lists, run_of, outcome}
use Rattle.string_clip.proofs.Run.Answers.{accepted_answer, refused_answer}
use Rattle.string_clip.proofs.Run.Accepted.{accepted_drawing, accepted_room}
use Rattle.string_clip.proofs.clip_in.Goals as goal

pub returns-in_err-check : goal.returns-in_err-check
unfolding clip_run
returns-in_err-check g c =
    let ls = lists c.args.points.now c.args.lengths.now in
    let run = run_of c.args.s.now c.args.rule c.args.invert c.args.boundary ls in
    let p = err_from_is_err_and c.from_residual.result c.from_residual.ensures.1 in
    ap (λ a. outcome a ls) (p.1 ∙ ap Err p.2)
    ∙ refused_answer c.args.s.now c.args.rule c.args.invert c.args.boundary ls (sym (asked_accepted run (sym c.requires.2) c.in_err-check.ensures.0))

pub keep_lines-requires : goal.keep_lines-requires
unfolding clip_run
keep_lines-requires g c =
    let ls = lists c.args.points.now c.args.lengths.now in
    let run = run_of c.args.s.now c.args.rule c.args.invert c.args.boundary ls in
    let yes = sym (asked_accepted run (sym c.requires.2) c.in_ok-check.ensures.0) in
    (accepted_drawing c.args.s.now c.args.rule c.args.invert c.args.boundary ls yes, (c.in_ok-check.ensures.1 refl).counts_are, omega (arith, c.requires.1), omega (arith, c.requires.1, length-replicate {A = ℕ} g.row.SEGMENTS 0))

pub clip_kept-requires : goal.clip_kept-requires
unfolding clip_run
clip_kept-requires g c =
    let ls = lists c.args.points.now c.args.lengths.now in
    let run = run_of c.args.s.now c.args.rule c.args.invert c.args.boundary ls in
    let yes = sym (asked_accepted run (sym c.requires.2) c.in_ok-check.ensures.0) in (
      accepted_drawing c.args.s.now c.args.rule c.args.invert c.args.boundary ls yes,
      (c.in_ok-check.ensures.1 refl).nodes_are,
      omega (arith, c.requires.1, c.keep_lines.auto.bits, length-replicate {A = ℕ} g.row.SEGMENTS 0),
      omega (arith, c.requires.1, c.requires.0.0.1, length-replicate {A = ℕ} g.row.ENDS 0),
      accepted_room c.args.s.now c.args.rule c.args.invert c.args.boundary ls yes,
    )

pub returns : goal.returns
unfolding clip_run
returns g c =
    let ls = lists c.args.points.now c.args.lengths.now in
    let run = run_of c.args.s.now c.args.rule c.args.invert c.args.boundary ls in
    let yes = sym (asked_accepted run (sym c.requires.2) c.in_ok-check.ensures.0) in
    let kept = rw (to_z-of_z c.ranges.rule, to_z-of_z c.ranges.invert, to_z-of_z c.ranges.boundary) at c.keep_lines.ensures in
    accepted_answer c.args.s.now c.args.rule c.args.invert c.args.boundary ls yes kept c.clip_kept.ensures.0 c.clip_kept.ensures.1
