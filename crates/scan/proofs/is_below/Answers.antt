-- What is sought decides the test.
use mathlib.Core.Path.{sym, subst, ap, ◌∙◌}
use lib.IntN.{pos}
use lib.Signed.{lt_z}
use mir.Syntax.{w64}
use Rattle.integers.proofs.Machine.{got}
use Rattle.segm.specs.declared.Segment.{Segment}
use Rattle.segm.specs.Segments.{segments}
use Rattle.faults.specs.Faultless.{Proper}
use Rattle.meetings.specs.Meetings.{side}
use Rattle.strip.specs.Strip.{above, under_by_side}
use Rattle.scan.specs.declared.Sought.{Sought}
use Rattle.scan.specs.Scan.{is_below, SoughtInRange}
use Rattle.scan.proofs.is_below.Goals as goal

pub segment_in-t-requires : goal.segment_in-t-requires
segment_in-t-requires c = c.requires.0.inside

pub cross-requires : goal.cross-requires
cross-requires c =
    let t = subst Proper (sym c.segment_in-t.ensures) c.requires.0.proper in
    (t.near_a, t.near_b, subst SoughtInRange c.in-At.is c.requires.1)

pub is_lower-requires : goal.is_lower-requires
is_lower-requires c = (subst Proper (sym c.segment_in-t.ensures) c.requires.0.proper, subst SoughtInRange c.in-Along.is c.requires.1)

pub returns-in-At : goal.returns-in-At
unfolding is_below above side
returns-in-At c =
    ap (lt_z (pos 0)) (got w64 c.cross.result c.cross.type_inv c.cross.ensures)
    ∙ ap (λ (t : Segment). above t c.in-At.p) c.segment_in-t.ensures
    ∙ ap (λ (w : Sought). is_below (segments c.args.s.now) w c.args.i) (sym c.in-At.is)

pub returns-in-Along : goal.returns-in-Along
unfolding is_below
returns-in-Along c =
    c.is_lower.ensures
    ∙ ap (λ (t : Segment). under_by_side t c.in-Along.u) c.segment_in-t.ensures
    ∙ ap (λ (w : Sought). is_below (segments c.args.s.now) w c.args.i) (sym c.in-Along.is)
