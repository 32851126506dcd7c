-- No segment passed meets t wrongly: what is left decides.
use Rattle.std.proofs.Common.{◌≡◌, sym, ap, subst, ◌∙◌, Bool, ◌||◌}
use lib.ListN.{drop_of_length-le}
use Rattle.lists.specs.Members.{any}
use Rattle.lists.proofs.Members.{any_step}
use Rattle.segm.specs.Segments.{segments, nowhere, segment_at}
use Rattle.segm.proofs.Segments.{count_inside, count_past}
use Rattle.faults.specs.Faultless.{Proper}
use Rattle.faults.proofs.Faultless.{proper_at}
use Rattle.meetings.specs.Meetings.{meets_wrongly}
use Rattle.drawing_check.proofs.meets_any.Goals as goal

-- by what is told of the segment looked at
left_over : {a b : Bool} (rest : Bool) → a ≡ b → (a || rest) ≡ (b || rest)
left_over rest e = ap (λ (b : Bool). b || rest) e

pub meets_wrongly-requires : goal.meets_wrongly-requires
meets_wrongly-requires c =
    let inside = count_inside c.args.s.now c.count-k-end.ensures c.loop-k-test.true in
    (c.requires.1, subst Proper (sym c.segment_at.ensures) (proper_at c.requires.0 c.loop-k.k inside))

pub returns-then-meets_wrongly : goal.returns-then-meets_wrongly
unfolding segment_at
returns-then-meets_wrongly c =
    let inside = count_inside c.args.s.now c.count-k-end.ensures c.loop-k-test.true in
    sym (c.loop-k.invariant ∙ any_step (meets_wrongly c.args.t) (segments c.args.s.now) nowhere c.loop-k.k inside ∙ left_over _ (sym (c.meets_wrongly.ensures ∙ ap (meets_wrongly c.args.t) c.segment_at.ensures) ∙ c.if-meets_wrongly.true))

pub loop-k-preserved : goal.loop-k-preserved
unfolding segment_at
loop-k-preserved c =
    let inside = count_inside c.args.s.now c.count-k-end.ensures c.loop-k-test.true in
    c.loop-k.invariant ∙ any_step (meets_wrongly c.args.t) (segments c.args.s.now) nowhere c.loop-k.k inside ∙ left_over _ (sym (c.meets_wrongly.ensures ∙ ap (meets_wrongly c.args.t) c.segment_at.ensures) ∙ c.if-meets_wrongly.false)

pub returns : goal.returns
unfolding any
returns c =
    let d = segments c.args.s.now in
    sym (c.loop-k.invariant ∙ ap (any (meets_wrongly c.args.t)) (drop_of_length-le d (count_past c.args.s.now c.count-k-end.ensures c.loop-k-test.false)))
