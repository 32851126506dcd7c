-- The points are turned round but for a middle, which each step takes the two ends off.
use mathlib.Core.Path.{◌≡◌, refl, sym, ◌∙◌, ap}
use mathlib.Core.List.{List}
use native.Mathlib.Omega.{arith}
use Prim.Native.Nat.{ℕ, ◌+◌, ◌*◌, ◌/◌, ◌%◌, ◌-◌}
use lib.ListN.{length, set, length-set}
use lib.IntN.{ℤ}
use Rattle.geom.specs.declared.Point.{Point}
use Rattle.contour.specs.Points.{coordinates, pair_up, turned_round}
use Rattle.contour.proofs.Points.Coordinates.{length_pairs, coordinates_pairs}
use Rattle.contour.proofs.Contour.Reversal.{turned_start, turned_end, turned_points}
use Rattle.contour.proofs.reverse.Goals as goal

pub loop-i-init : goal.loop-i-init
loop-i-init c = (turned_start (pair_up c.args.points.now), refl)

-- a point stored keeps the length
stored : (l : List ℤ) (q : ℕ) (p : Point) → length (set (set l (2 * q) p.x) (2 * q + 1) p.y) ≡ length l
stored l q p = length-set (set l (2 * q) p.x) (2 * q + 1) p.y ∙ length-set l (2 * q) p.x

pub loop-i-preserved : goal.loop-i-preserved
loop-i-preserved c =
    let l = c.loop-i.points in
    let i = c.loop-i.i in
    let n = c.args.points.now in
    let j = length n / 2 - 1 - i in (
      turned_points l c.put_point.new.points c.put_point-in-loop-i.new.points c.point_at-p.result c.point_at-q.result j (omega (arith, c.loop-i.invariant.1, c.loop-i-test.true)) (omega (arith, c.loop-i.invariant.1, c.loop-i-test.true))
          c.point_at-p.ensures c.point_at-q.ensures c.put_point.ensures c.put_point-in-loop-i.ensures c.loop-i.invariant.0,
      ap length c.put_point-in-loop-i.ensures ∙ stored c.put_point.new.points j c.point_at-p.result ∙ ap length c.put_point.ensures ∙ stored l i c.point_at-q.result ∙ c.loop-i.invariant.1,
    )

pub returns : goal.returns
unfolding turned_round
returns c =
    let l = c.loop-i.points in
    let l₀ = c.args.points.now in
    let e = c.loop-i.invariant.1 in
    sym (coordinates_pairs l (ap (λ n. n % 2) e ∙ c.requires)) ∙ ap coordinates (turned_end (omega (arith, e, length_pairs l, c.loop-i-test.false)) c.loop-i.invariant.0)
