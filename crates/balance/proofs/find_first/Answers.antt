-- What is left decides.
use Rattle.std.proofs.Common.{sym, ap, ap₂, ◌∙◌, Bool, not, ◌&&◌}
use Rattle.balance.specs.Sums.{ends_unbalanced}
use Rattle.balance.proofs.Balance.{place_passed, place_failed, place_end}
use Rattle.balance.proofs.find_first.Goals as goal

pub returns-then-not-sums_to_zero : goal.returns-then-not-sums_to_zero
unfolding ends_unbalanced
returns-then-not-sums_to_zero c =
    let t = ends_unbalanced c.args.n c.args.nodes.now c.args.sums.now in
    let same = ap₂ (λ (a b : Bool). not (a && b)) c.sums_to_zero.ensures c.sums_to_zero-in-loop-i.ensures in
    sym (c.loop-i.invariant ∙ place_passed t c.args.n c.loop-i.i c.loop-i-test.true (sym same ∙ ap not c.if-not-sums_to_zero.true))

pub loop-i-preserved : goal.loop-i-preserved
unfolding ends_unbalanced
loop-i-preserved c =
    let t = ends_unbalanced c.args.n c.args.nodes.now c.args.sums.now in
    let same = ap₂ (λ (a b : Bool). not (a && b)) c.sums_to_zero.ensures c.sums_to_zero-in-loop-i.ensures in
    c.loop-i.invariant ∙ place_failed t c.args.n c.loop-i.i c.loop-i-test.true (sym same ∙ ap not c.if-not-sums_to_zero.false)

pub returns : goal.returns
returns c =
    sym (c.loop-i.invariant ∙ place_end (ends_unbalanced c.args.n c.args.nodes.now c.args.sums.now) c.args.n c.loop-i.i c.loop-i-test.false)
