-- The pair at place i.
use mathlib.Core.Path.{sym, ap₂, ◌∙◌}
use native.Mathlib.Omega.{arith}
use lib.IntN.{pos}
use lib.ListN.{get_or}
use mir.Syntax.{w32}
use Prim.Native.Nat.{◌+◌, ◌*◌}
use Rattle.integers.proofs.Machine.{read}
use Rattle.contour.proofs.Points.Coordinates.{pair_at, pair_past}
use Rattle.contour.proofs.point_at.Goals as goal

pub returns-then-points-i : goal.returns-then-points-i
returns-then-points-i c = let s = c.before in sym (pair_past s.args.points.now s.args.i (omega (arith, c.if-points-i.true)))

pub returns : goal.returns
returns c =
    let s = c.before.before.before in
    let l = s.args.points.now in
    let i = s.args.i in
    ap₂ (λ u v. record { x = u; y = v }) (read w32 (get_or l (2 * i) (pos 0)) c.before.result-1.given) (read w32 (get_or l (2 * i + 1) (pos 0)) c.result-2-1.given)
    ∙ sym (pair_at l i (omega (arith, c.before.before.if-points-i.false)))
