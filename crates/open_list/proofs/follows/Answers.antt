-- By the order of the starts.
use mathlib.Core.Path.{sym, ap, ◌∙◌}
use mathlib.Core.Bool.{not}
use lib.IntN.{pos}
use lib.Signed.{lt_z, le_z}
use mir.Syntax.{w64}
use Rattle.integers.proofs.Machine.{got}
use Rattle.geom.proofs.Points.{eq_p-true}
use Rattle.meetings.specs.Meetings.{side}
use Rattle.open_list.proofs.OpenList.NeighbourTest.{s_first_not, s_first_rest, s_first_beyond, s_first_end, t_first_not, t_first_rest, t_first_beyond, t_first_end, at-one_start, tells_neighbour}
use Rattle.open_list.proofs.follows.Goals as goal

pub returns-then-cross-le0 : goal.returns-then-cross-le0
unfolding side
returns-then-cross-le0 c =
    let a = c.args in
    tells_neighbour a.t a.u (sym (s_first_not a.t a.u (sym c.less.ensures ∙ c.if-less.true) (sym (ap (λ z. le_z z (pos 0)) (got w64 c.cross.result c.cross.type_inv c.cross.ensures)) ∙ c.if-cross-le0.true)))

pub returns-then-cross-gt0 : goal.returns-then-cross-gt0
unfolding side
returns-then-cross-gt0 c =
    let a = c.args in
    tells_neighbour a.t a.u (sym (s_first_beyond a.t a.u (sym c.less.ensures ∙ c.if-less.true) (sym (ap (λ z. le_z z (pos 0)) (got w64 c.cross.result c.cross.type_inv c.cross.ensures)) ∙ c.if-cross-le0.false)
    (sym (ap (lt_z (pos 0)) (got w64 c.cross-then-less.result c.cross-then-less.type_inv c.cross-then-less.ensures)) ∙ c.if-cross-gt0.true)))

pub returns-then-same : goal.returns-then-same
unfolding side
returns-then-same c =
    let a = c.args in
    tells_neighbour a.t a.u (sym (s_first_end a.t a.u (sym c.less.ensures ∙ c.if-less.true) (sym (ap (λ z. le_z z (pos 0)) (got w64 c.cross.result c.cross.type_inv c.cross.ensures)) ∙ c.if-cross-le0.false) (eq_p-true (sym c.same.ensures ∙ c.if-same.true))))

pub returns-then-less : goal.returns-then-less
unfolding side
returns-then-less c =
    let a = c.args in
    tells_neighbour a.t a.u (ap not c.meets_wrongly.ensures ∙ sym (s_first_rest a.t a.u (sym c.less.ensures ∙ c.if-less.true) (sym (ap (λ z. le_z z (pos 0)) (got w64 c.cross.result c.cross.type_inv c.cross.ensures)) ∙ c.if-cross-le0.false)))

pub returns-then-cross-ge0 : goal.returns-then-cross-ge0
unfolding side
returns-then-cross-ge0 c =
    let a = c.args in
    tells_neighbour a.t a.u (sym (t_first_not a.t a.u (sym c.less.ensures ∙ c.if-less.false) (sym c.less-2.ensures ∙ c.if-less-2.true) (sym (ap (le_z (pos 0)) (got w64 c.cross-then-less-2.result c.cross-then-less-2.type_inv c.cross-then-less-2.ensures)) ∙ c.if-cross-ge0.true)))

pub returns-then-cross-lt0 : goal.returns-then-cross-lt0
unfolding side
returns-then-cross-lt0 c =
    let a = c.args in
    tells_neighbour a.t a.u (sym (t_first_beyond a.t a.u (sym c.less.ensures ∙ c.if-less.false) (sym c.less-2.ensures ∙ c.if-less-2.true) (sym (ap (le_z (pos 0)) (got w64 c.cross-then-less-2.result c.cross-then-less-2.type_inv c.cross-then-less-2.ensures)) ∙ c.if-cross-ge0.false)
    (sym (ap (λ z. lt_z z (pos 0)) (got w64 c.cross-then-less-2-2.result c.cross-then-less-2-2.type_inv c.cross-then-less-2-2.ensures)) ∙ c.if-cross-lt0.true)))

pub returns-then-same-2 : goal.returns-then-same-2
unfolding side
returns-then-same-2 c =
    let a = c.args in
    tells_neighbour a.t a.u (sym (t_first_end a.t a.u (sym c.less.ensures ∙ c.if-less.false) (sym c.less-2.ensures ∙ c.if-less-2.true) (sym (ap (le_z (pos 0)) (got w64 c.cross-then-less-2.result c.cross-then-less-2.type_inv c.cross-then-less-2.ensures)) ∙ c.if-cross-ge0.false) (eq_p-true (sym c.same-then-less-2.ensures ∙ c.if-same-2.true))))

pub returns-then-less-2 : goal.returns-then-less-2
unfolding side
returns-then-less-2 c =
    let a = c.args in
    tells_neighbour a.t a.u (ap not c.meets_wrongly-then-less-2.ensures ∙ sym (t_first_rest a.t a.u (sym c.less.ensures ∙ c.if-less.false) (sym c.less-2.ensures ∙ c.if-less-2.true) (sym (ap (le_z (pos 0)) (got w64 c.cross-then-less-2.result c.cross-then-less-2.type_inv c.cross-then-less-2.ensures)) ∙ c.if-cross-ge0.false)))

pub returns : goal.returns
unfolding side
returns c =
    let a = c.args in
    tells_neighbour a.t a.u (ap (lt_z (pos 0)) (got w64 c.cross-2.result c.cross-2.type_inv c.cross-2.ensures)
    ∙ sym (at-one_start a.t a.u (sym c.less.ensures ∙ c.if-less.false) (sym c.less-2.ensures ∙ c.if-less-2.false)))
