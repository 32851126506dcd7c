-- No list is too short, so that the outside run has the verdict of the inside run.
use Rattle.std.proofs.Common.{sym, ◌∙◌, ℕ, pos, arith}
use Rattle.std.proofs.lemmas.List.{length-replicate}
use mir.Facts.{to_z-of_z}
use Rattle.checks.specs.Runs.{clip_run}
use Rattle.checks.proofs.Runs.{asked_accepted}
use Rattle.string_clip.specs.Run.{lists, run_of}
use Rattle.string_clip.proofs.Run.Answers.{accepted_answer, refused_answer}
use Rattle.string_clip.proofs.Run.Accepted.{accepted_drawing}
use Rattle.clip_both.proofs.Together.{one-verdict, both_runs}
use Rattle.clip_both.proofs.both_in.Goals as goal

pub returns-in-Err : goal.returns-in-Err
unfolding clip_run
returns-in-Err g c =
    let a = c.args in
    let ls₀ = lists a.in_points.now a.in_lengths.now in
    let ls₁ = lists a.out_points.now a.out_lengths.now in
    let run = run_of a.s.now a.rule (pos 0) a.boundary ls₀ in
    let no = sym (asked_accepted run (sym c.requires.2) (sym c.in-Err.is ∙ c.check.ensures.0)) in
    rw c.neither.ensures
    (both_runs a.s.now a.rule a.boundary _ ls₀ _ ls₁
    (refused_answer a.s.now a.rule (pos 0) a.boundary ls₀ no)
    (refused_answer a.s.now a.rule (pos 1) a.boundary ls₁ (one-verdict a.s.now a.rule a.boundary ls₀ ls₁ c.requires.3 c.requires.4 ∙ no)))

pub keep_lines-requires : goal.keep_lines-requires
unfolding clip_run
keep_lines-requires g c =
    let a = c.args in
    let ls₀ = lists a.in_points.now a.in_lengths.now in
    let run = run_of a.s.now a.rule (pos 0) a.boundary ls₀ in
    let yes = sym (asked_accepted run (sym c.requires.2) (sym c.in_default.is ∙ c.check.ensures.0)) in (
      accepted_drawing a.s.now a.rule (pos 0) a.boundary ls₀ yes,
      (c.check.ensures.1 c.in_default.is).counts_are,
      omega (arith, c.requires.1),
      omega (arith, c.requires.1, length-replicate {A = ℕ} g.row.SEGMENTS 0),
    )

pub clip_kept-inside-requires : goal.clip_kept-inside-requires
unfolding clip_run
clip_kept-inside-requires g c =
    let a = c.args in
    let ls₀ = lists a.in_points.now a.in_lengths.now in
    let run = run_of a.s.now a.rule (pos 0) a.boundary ls₀ in
    let yes = sym (asked_accepted run (sym c.requires.2) (sym c.in_default.is ∙ c.check.ensures.0)) in (
      accepted_drawing a.s.now a.rule (pos 0) a.boundary ls₀ yes,
      (c.check.ensures.1 c.in_default.is).nodes_are,
      omega (arith, c.requires.1, length-replicate {A = ℕ} g.row.SEGMENTS 0, c.keep_lines.auto.bits),
      omega (arith, c.requires.1, c.requires.0.0.1, length-replicate {A = ℕ} g.row.ENDS 0),
      c.requires.3,
    )

pub keep_lines-requires-2 : goal.keep_lines-requires-2
unfolding clip_run
keep_lines-requires-2 g c =
    let a = c.args in
    let ls₀ = lists a.in_points.now a.in_lengths.now in
    let run = run_of a.s.now a.rule (pos 0) a.boundary ls₀ in
    let yes = sym (asked_accepted run (sym c.requires.2) (sym c.in_default.is ∙ c.check.ensures.0)) in (
      accepted_drawing a.s.now a.rule (pos 0) a.boundary ls₀ yes,
      (c.check.ensures.1 c.in_default.is).counts_are,
      omega (arith, c.requires.1),
      omega (arith, c.requires.1, length-replicate {A = ℕ} g.row.SEGMENTS 0, c.keep_lines.auto.bits, c.clip_kept-inside.auto.bits),
    )

pub clip_kept-outside-requires : goal.clip_kept-outside-requires
unfolding clip_run
clip_kept-outside-requires g c =
    let a = c.args in
    let ls₀ = lists a.in_points.now a.in_lengths.now in
    let run = run_of a.s.now a.rule (pos 0) a.boundary ls₀ in
    let yes = sym (asked_accepted run (sym c.requires.2) (sym c.in_default.is ∙ c.check.ensures.0)) in (
      accepted_drawing a.s.now a.rule (pos 0) a.boundary ls₀ yes,
      (c.check.ensures.1 c.in_default.is).nodes_are,
      omega (arith, c.requires.1, length-replicate {A = ℕ} g.row.SEGMENTS 0, c.keep_lines.auto.bits, c.clip_kept-inside.auto.bits, c.keep_lines-2.auto.bits),
      omega (arith, c.requires.1, c.requires.0.0.1, length-replicate {A = ℕ} g.row.ENDS 0, c.clip_kept-inside.auto.moves),
      c.requires.4,
    )

pub returns : goal.returns
unfolding clip_run
returns g c =
    let a = c.args in
    let ls₀ = lists a.in_points.now a.in_lengths.now in
    let ls₁ = lists a.out_points.now a.out_lengths.now in
    let run = run_of a.s.now a.rule (pos 0) a.boundary ls₀ in
    let yes = sym (asked_accepted run (sym c.requires.2) (sym c.in_default.is ∙ c.check.ensures.0)) in
    both_runs a.s.now a.rule a.boundary _ ls₀ _ ls₁
    (accepted_answer a.s.now a.rule (pos 0) a.boundary ls₀ yes
    (rw (to_z-of_z c.ranges.rule, to_z-of_z c.ranges.boundary) at c.keep_lines.ensures) c.clip_kept-inside.ensures.0 c.clip_kept-inside.ensures.1)
    (accepted_answer a.s.now a.rule (pos 1) a.boundary ls₁ (one-verdict a.s.now a.rule a.boundary ls₀ ls₁ c.requires.3 c.requires.4 ∙ yes)
    (rw (to_z-of_z c.ranges.rule, to_z-of_z c.ranges.boundary) at c.keep_lines-2.ensures) c.clip_kept-outside.ensures.0 c.clip_kept-outside.ensures.1)
