-- By the order of the starts.
use mathlib.Core.Path.{sym, ap, ◌∙◌}
use lib.IntN.{pos}
use lib.Signed.{lt_z}
use mir.Syntax.{w64}
use Rattle.integers.proofs.Machine.{got}
use Rattle.meetings.specs.Meetings.{side}
use Rattle.strip.specs.Strip.{above, clockwise, under_by_side}
use Rattle.scan.proofs.is_lower.Goals as goal

pub returns-then-less : goal.returns-then-less
unfolding under_by_side above side
returns-then-less c =
    let before = c.before.before in
    ap (lt_z (pos 0)) (got w64 c.cross.result c.cross.type_inv c.cross.ensures) ∙ sym (simp (sym before.less.ensures ∙ c.if-less.true))

pub returns-then-less-2 : goal.returns-then-less-2
unfolding under_by_side above side
returns-then-less-2 c =
    let second = c.before.before in
    let first = second.before.before in
    ap (λ z. lt_z z (pos 0)) (got w64 c.cross-then-less-2.result c.cross-then-less-2.type_inv c.cross-then-less-2.ensures)
    ∙ sym (simp (sym first.less.ensures ∙ second.if-less.false, sym second.less-2.ensures ∙ c.if-less-2.true))

pub returns : goal.returns
unfolding under_by_side above clockwise side
returns c =
    let second = c.before.before in
    let first = second.before.before in
    ap (lt_z (pos 0)) (got w64 c.cross-2.result c.cross-2.type_inv c.cross-2.ensures)
    ∙ sym (simp (sym first.less.ensures ∙ second.if-less.false, sym second.less-2.ensures ∙ c.if-less-2.false))
