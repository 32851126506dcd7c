-- What is asked first, then the drawing, in memory for a small one or for any.
use Rattle.std.proofs.Common.{refl, sym, ◌∙◌, pos, lit≤, arith}
use mir.Facts.{to_z-of_z}
use Rattle.segm.proofs.Segments.{length-segments}
use Rattle.checks.specs.Runs.{clip_run}
use Rattle.checks.proofs.Runs.{asked_few, asked_refused}
use Rattle.string_clip.specs.Run.{lists, run_of}
use Rattle.string_clip.proofs.Run.Answers.{refused_answer}
use Rattle.clip_both.proofs.Together.{one-verdict, both_runs}
use Rattle.clip_both.proofs.both_at_once.Goals as goal

pub returns-in-Err : goal.returns-in-Err
returns-in-Err c =
    let a = c.args in
    let ls₀ = lists a.in_points.now a.in_lengths.now in
    let ls₁ = lists a.out_points.now a.out_lengths.now in
    let run = run_of a.numbers.now a.rule (pos 0) a.boundary ls₀ in
    let asked = rw (to_z-of_z c.ranges.rule, to_z-of_z c.ranges.boundary) at c.in-Err.ensures in
    let no = sym (asked_refused run asked refl) in
    rw c.neither.ensures
    (both_runs a.numbers.now a.rule a.boundary _ ls₀ _ ls₁
    (refused_answer a.numbers.now a.rule (pos 0) a.boundary ls₀ no)
    (refused_answer a.numbers.now a.rule (pos 1) a.boundary ls₁ (one-verdict a.numbers.now a.rule a.boundary ls₀ ls₁ c.requires.0 c.requires.1 ∙ no)))

pub both_in-requires : goal.both_in-requires
unfolding clip_run
both_in-requires c =
    (((lit≤ tt, refl), refl), omega (arith, length-segments c.args.numbers.now, c.count.ensures, c.if-count-le-SMALL.true), sym c.in_default.ensures, c.requires.0, c.requires.1)

pub both_in-requires-2 : goal.both_in-requires-2
unfolding clip_run
both_in-requires-2 c =
    let run = run_of c.args.numbers.now c.args.rule (pos 0) c.args.boundary (lists c.args.in_points.now c.args.in_lengths.now) in
    let asked = rw (to_z-of_z c.ranges.rule, to_z-of_z c.ranges.boundary) at c.in_default.ensures in
    (((lit≤ tt, refl), refl), asked_few run (sym asked), sym c.in_default.ensures, c.requires.0, c.requires.1)
