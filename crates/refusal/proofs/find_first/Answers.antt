-- What is left decides.
use Rattle.std.proofs.Common.{◌≡◌, sym, ap, ◌∙◌, ◌-◌, arith}
use Rattle.refusal.specs.Order.{first_from, first}
use Rattle.refusal.proofs.Order.{step-none, step-some, step_end}
use Rattle.refusal.proofs.find_first.Goals as goal

pub loop-place-init : goal.loop-place-init
unfolding first
loop-place-init g c = let all : c.args.n ≡ c.args.n - 0 = omega arith in ap (λ m. first_from g.wrong m 0) all

pub returns-in-Some : goal.returns-in-Some
returns-in-Some g c =
    let l = c.loop-place in
    let h = c.loop-place-test.true in
    sym (l.invariant ∙ step-some g.wrong c.args.n l.place c.in-Some.kind h (sym (c.requires.1.1 l.place _ h c.in-Some.ensures)))

pub loop-place-preserved : goal.loop-place-preserved
loop-place-preserved g c =
    let l = c.loop-place in
    let h = c.loop-place-test.true in
    l.invariant ∙ step-none g.wrong c.args.n l.place h (sym (c.requires.1.1 l.place _ h c.wrong_at.ensures) ∙ c.in_default.is)

pub returns : goal.returns
returns g c = sym (c.loop-place.invariant ∙ step_end g.wrong c.args.n c.loop-place.place c.loop-place-test.false)
