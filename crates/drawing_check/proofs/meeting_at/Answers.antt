-- What the search over the later places told.
use Rattle.std.proofs.Common.{◌≡◌, refl, sym, ap, subst, ◌∙◌, suc, ◌+◌, drop, add-one, arith}
use Rattle.lists.specs.Members.{any}
use Rattle.segm.specs.declared.Segment.{Segment}
use Rattle.segm.specs.Segments.{segments, segment_at}
use Rattle.segm.proofs.Segments.{count_inside}
use Rattle.faults.specs.Faultless.{Proper}
use Rattle.faults.proofs.Faultless.{proper_at}
use Rattle.meetings.specs.Meetings.{meets_wrongly}
use Rattle.drawing_check.specs.Drawing.{meeting_at}
use Rattle.drawing_check.proofs.meeting_at.Goals as goal
use Rattle.drawing_check.proofs.meeting_at.Lts
use Rattle.drawing_check.proofs.meeting_at.Reads
use Rattle.drawing_check.proofs.meeting_at.Tie

abbrev After-meets_any : Type 0
After-meets_any = Lts.After-meets_any Tie.the-claims Reads.Pre Reads.Post

pub meets_any-requires : goal.meets_any-requires
meets_any-requires c = (c.requires.0, subst Proper (sym c.segment_at.ensures) (proper_at c.requires.0 c.args.i (count_inside c.args.s.now refl c.requires.1)))

-- the call's answer, of the segment at place i
later : (c : After-meets_any) → any (meets_wrongly (segment_at (segments c.args.s.now) c.args.i)) (drop (suc c.args.i) (segments c.args.s.now)) ≡ c.meets_any.result
later c =
    let d = segments c.args.s.now in
    let i = c.args.i in
    sym (c.meets_any.ensures ∙ ap (λ (t : Segment). any (meets_wrongly t) (drop (i + 1) d)) c.segment_at.ensures ∙ ap (λ k. any (meets_wrongly (segment_at d i)) (drop k d)) (add-one i))

pub returns-then-meets_any : goal.returns-then-meets_any
unfolding meeting_at
returns-then-meets_any c = simp (later c.before ∙ c.if-meets_any.true)

pub returns : goal.returns
unfolding meeting_at
returns c = simp (later c.before ∙ c.if-meets_any.false)

pub overflow_add-i : goal.overflow_add-i
overflow_add-i c = record { fits = omega (arith, count_inside c.args.s.now refl c.requires.1, c.requires.0.few) }
