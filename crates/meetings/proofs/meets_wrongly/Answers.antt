-- Past the cheap test, the definition's four tests in its order.
use mathlib.Core.Path.{sym, ◌∙◌}
use native.Mathlib.Omega.{arith}
use mir.Syntax.{w32}
use Rattle.integers.proofs.Machine.{res, flag_lt}
use Rattle.integers.proofs.Order.{lt_z_true}
use Rattle.meetings.specs.Meetings.{meets_wrongly}
use Rattle.meetings.proofs.Meetings.Right.{starts_right}
use Rattle.meetings.proofs.meets_wrongly.Goals as goal

pub returns-then-b-c : goal.returns-then-b-c
returns-then-b-c c = sym (starts_right c.args.s c.args.t c.requires.0 c.requires.1 (lt_z_true (flag_lt (res w32 c.args.s.b.x (omega arith)) (res w32 c.args.t.a.x (omega arith)) c.if-b-c.true)))

pub returns-then-crosses : goal.returns-then-crosses
unfolding meets_wrongly
returns-then-crosses c = simp (sym c.crosses.ensures ∙ c.if-crosses.true)

pub returns-then-end_in_interior : goal.returns-then-end_in_interior
unfolding meets_wrongly
returns-then-end_in_interior c = simp (sym c.crosses.ensures ∙ c.if-crosses.false, sym c.end_in_interior.ensures ∙ c.if-end_in_interior.true)

pub returns-then-end_in_interior-2 : goal.returns-then-end_in_interior-2
unfolding meets_wrongly
returns-then-end_in_interior-2 c =
    simp (
      sym c.crosses.ensures ∙ c.if-crosses.false,
      sym c.end_in_interior.ensures ∙ c.if-end_in_interior.false,
      sym c.end_in_interior-2.ensures ∙ c.if-end_in_interior-2.true,
    )

pub returns : goal.returns
unfolding meets_wrongly
returns c =
    c.same_ends.ensures
    ∙ sym
    (simp (
      sym c.crosses.ensures ∙ c.if-crosses.false,
      sym c.end_in_interior.ensures ∙ c.if-end_in_interior.false,
      sym c.end_in_interior-2.ensures ∙ c.if-end_in_interior-2.false,
    ))
