-- By the sign of the first side.
use mathlib.Core.Bool.{true, false}
use mathlib.Core.Path.{◌≡◌, sym, ap, ◌∙◌}
use lib.IntN.{pos}
use lib.Signed.{lt_z}
use mir.Syntax.{w64}
use Rattle.integers.proofs.Booleans.{or_false}
use Rattle.integers.proofs.Machine.{got}
use Rattle.integers.proofs.Order.{lt_z_true, le_lt_z, lt_le}
use Rattle.meetings.specs.Meetings.{side, parts}
use Rattle.meetings.proofs.parts.Goals as goal

pub returns-then-p-lt0 : goal.returns-then-p-lt0
unfolding parts side
returns-then-p-lt0 c =
    let first = got w64 c.cross-p.result c.cross-p.type_inv c.cross-p.ensures in
    let second = got w64 c.cross-q.result c.cross-q.type_inv c.cross-q.ensures in
    let minus : lt_z (side c.args.s c.args.t.a) (pos 0) ≡ true = ap (λ z. lt_z z (pos 0)) (sym first) ∙ c.if-p-lt0.true in
    ap (lt_z (pos 0)) second ∙ sym (simp (minus, le_lt_z {a = pos 0} {b = side c.args.s c.args.t.a} (lt_le (lt_z_true minus)), or_false))

pub returns-then-p-gt0 : goal.returns-then-p-gt0
unfolding parts side
returns-then-p-gt0 c =
    let first = got w64 c.cross-p.result c.cross-p.type_inv c.cross-p.ensures in
    let second = got w64 c.cross-q.result c.cross-q.type_inv c.cross-q.ensures in
    let plus : lt_z (pos 0) (side c.args.s c.args.t.a) ≡ true = ap (lt_z (pos 0)) (sym first) ∙ c.if-p-gt0.true in
    let not-minus : lt_z (side c.args.s c.args.t.a) (pos 0) ≡ false = ap (λ z. lt_z z (pos 0)) (sym first) ∙ c.if-p-lt0.false in
    ap (λ z. lt_z z (pos 0)) second ∙ sym (simp (plus, not-minus))

pub returns : goal.returns
unfolding parts side
returns c =
    let first = got w64 c.cross-p.result c.cross-p.type_inv c.cross-p.ensures in
    let not-plus : lt_z (pos 0) (side c.args.s c.args.t.a) ≡ false = ap (lt_z (pos 0)) (sym first) ∙ c.if-p-gt0.false in
    let not-minus : lt_z (side c.args.s c.args.t.a) (pos 0) ≡ false = ap (λ z. lt_z z (pos 0)) (sym first) ∙ c.if-p-lt0.false in
    sym (simp (not-plus, not-minus))
