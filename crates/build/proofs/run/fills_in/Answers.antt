-- The verdict on the drawing decides, as nothing was refused before.
use Rattle.std.proofs.Common.{refl, sym, ap, ap₂, ◌∙◌, inl, length, Ok, Err, arith}
use Rattle.std.proofs.lemmas.Result.{err_from_is_err_and}
use mir.Facts.{to_z-of_z}
use Rattle.lists.specs.Written.{written}
use Rattle.refusal.specs.Asked.{lent}
use Rattle.segm.specs.Segments.{segments}
use Rattle.segm.proofs.Segments.{length-segments}
use Rattle.checks.specs.Runs.{fills_run}
use Rattle.checks.proofs.Runs.{asked_accepted, verdict_room}
use Rattle.checks.proofs.Accepted.{verdict_good}
use Rattle.fill_rule.specs.declared.Rule.{Rule}
use Rattle.fill_rule.specs.FillRule.{rule_of}
use Rattle.ray.specs.Ray.{fills}
use Rattle.ray.proofs.Fills.{length-fills}
use Rattle.build.specs.Fills.{outcome}
use Rattle.build.proofs.Outcome.{by_verdict}
use Rattle.build.proofs.run.fills_in.Goals as goal

pub returns-in_err-check : goal.returns-in_err-check
unfolding fills_run
returns-in_err-check g c =
    let run = fills_run c.args.numbers.now c.args.rule (length c.args.fills.now) in
    let p = err_from_is_err_and c.from_residual.result c.from_residual.ensures.1 in
    ap (λ a. outcome a c.args.fills.now) (p.1 ∙ ap Err p.2)
    ∙ by_verdict c.args.numbers.now c.args.rule c.args.fills.now (asked_accepted run (sym c.requires.2) c.in_err-check.ensures.0)

pub write_fills-requires : goal.write_fills-requires
unfolding fills_run
write_fills-requires g c =
    let numbers = c.args.numbers.now in
    let run = fills_run numbers c.args.rule (length c.args.fills.now) in
    let accepted = sym (asked_accepted run (sym c.requires.2) c.in_ok-check.ensures.0) in
    let room = verdict_room run accepted (lent (length c.args.fills.now) 1) (inl refl) in
    (verdict_good run accepted, (c.in_ok-check.ensures.1 refl).counts_are, omega (arith, c.requires.1), omega (arith, room, length-segments numbers))

pub returns : goal.returns
unfolding fills_run
returns g c =
    let numbers = c.args.numbers.now in
    let run = fills_run numbers c.args.rule (length c.args.fills.now) in
    let rule = c.rule_of.ensures ∙ ap rule_of (to_z-of_z c.ranges.rule) in
    let n = c.count.ensures ∙ sym (length-fills (rule_of c.args.rule) (segments numbers) ∙ length-segments numbers) in
    let list = c.write_fills.ensures ∙ ap (λ (q : Rule). written (fills q (segments numbers)) c.args.fills.now) rule in
    ap₂ outcome (ap Ok n) list ∙ by_verdict numbers c.args.rule c.args.fills.now (asked_accepted run (sym c.requires.2) c.in_ok-check.ensures.0)
