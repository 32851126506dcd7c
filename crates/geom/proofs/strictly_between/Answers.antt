-- The definition's three tests, the cheap ones first.
use mathlib.Core.Path.{sym, ap, ◌∙◌}
use lib.Dec.{lit<}
use lib.IntN.{pos}
use mir.Syntax.{w64}
use Rattle.integers.proofs.Booleans.{both, not_l, not_r, and_true}
use Rattle.geom.specs.Points.{eq_z, lt_p, cross, between}
use Rattle.geom.proofs.Points.{bits_eq_z}
use Rattle.geom.proofs.strictly_between.Goals as goal

pub returns-then-not-less : goal.returns-then-not-less
unfolding between
returns-then-not-less c =
    let a = c.before.before.args in
    sym (not_r (eq_z (cross a.p a.q a.r) (pos 0)) (not_l (lt_p a.r a.q) (sym c.before.less.ensures ∙ c.if-not-less.true)))

pub returns-then-not-less-2 : goal.returns-then-not-less-2
unfolding between
returns-then-not-less-2 c =
    let a = c.before.before.before.before.args in
    sym (not_r (eq_z (cross a.p a.q a.r) (pos 0)) (not_r (lt_p a.p a.r) (sym c.before.less-2.ensures ∙ c.if-not-less-2.true)))

pub returns : goal.returns
unfolding between
returns c =
    let e = c.before in
    let d = e.before.before in
    let a = d.before.before.args in
    let line = bits_eq_z w64 c.cross.result (pos 0) c.cross.type_inv (lit< tt) in
    let past = both (sym d.before.less.ensures ∙ d.if-not-less.false) (sym e.before.less-2.ensures ∙ e.if-not-less-2.false) in
    line ∙ ap (λ z. eq_z z (pos 0)) c.cross.ensures ∙ sym (and_true (eq_z (cross a.p a.q a.r) (pos 0)) past)
