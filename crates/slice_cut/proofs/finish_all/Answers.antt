-- The loops passed are contours, and those to come are as they were.
use mathlib.Core.Path.{◌≡◌, refl, sym, ◌∙◌, ap, subst}
use mathlib.Core.List.{List, [], map, flatten}
use native.Mathlib.Omega.{arith}
use Prim.Native.Nat.{ℕ, ◌+◌, ◌*◌, ◌-◌, ◌≤◌, ◌<◌}
use lib.ListN.{length, get_or, take, drop}
use lib.Seq.{take_all}
use lib.IntN.{ℤ}
use Rattle.geom.specs.declared.Point.{Point}
use Rattle.lists.specs.Sums.{tally}
use Rattle.lists.specs.Written.{written}
use Rattle.contour.specs.Points.{coordinates, pair_up}
use Rattle.contour.proofs.Points.Coordinates.{length_pairs}
use Rattle.split_loops.specs.Splitting.{Splittable}
use Rattle.contour.specs.Contour.{contour_of}
use Rattle.slice_cut.specs.Cutting.{roles_of, paths_in, Stand}
use Rattle.slice_cut.proofs.Cutting.InLists.{length_cut, points_passed, next_place, path_few, path_fits, path_is, length_path, splittable}
use Rattle.slice_cut.proofs.Cutting.ManyContours.{numbers_of, none-finished, untouched, finished_more}
use Rattle.slice_cut.proofs.finish_all.Goals as goal

pub loop-k-init : goal.loop-k-init
unfolding tally
loop-k-init c = (none-finished c.args.clockwise c.args.direction (paths_in c.args.points.now c.args.lengths.now) c.args.points.now c.args.roles.now, refl)

-- the loop in hand
few : {points : List ℤ} {lengths : List ℕ} → Stand points lengths → {k from : ℕ} → k < length lengths → from ≡ 2 * tally (λ n. n) (take k lengths) → from + 2 * get_or lengths k 0 ≤ 4096
few stand {k} {from} inside place = omega (arith, path_few stand k from inside place, place, stand.few)

pub overflow_mul-to : goal.overflow_mul-to
overflow_mul-to c = omega (arith, few c.requires.0 c.loop-k-test.true c.loop-k.invariant.1)

pub overflow_add-to : goal.overflow_add-to
overflow_add-to c = omega (arith, few c.requires.0 c.loop-k-test.true c.loop-k.invariant.1)

pub offset_bounds-points-from : goal.offset_bounds-points-from
offset_bounds-points-from c = omega (arith, few c.requires.0 c.loop-k-test.true c.loop-k.invariant.1)

pub slice_bounds-finish-end : goal.slice_bounds-finish-end
slice_bounds-finish-end c = omega (arith, path_fits c.requires.0 c.loop-k.k c.loop-k.from c.loop-k-test.true c.loop-k.invariant.1, c.loop-k.auto.points)

pub finish-requires : goal.finish-requires
finish-requires c =
    let q = c.loop-k in
    let stand = c.requires.0 in
    let inside = c.loop-k-test.true in
    let n = get_or c.args.lengths.now q.k 0 in
    let part_is = ap (take (q.from + 2 * n - q.from)) (untouched c.args.clockwise c.args.direction q.invariant.0 q.from (omega (arith, q.invariant.1, points_passed stand q.k))) in
    let r = subst Splittable (sym part_is) (splittable stand q.k q.from inside q.invariant.1) in
    (r.whole, r.few, r.near)

pub loop-k-preserved : goal.loop-k-preserved
loop-k-preserved c =
    let a = c.args in
    let q = c.loop-k in
    let stand = c.requires.0 in
    let inside = c.loop-k-test.true in
    let lengths = a.lengths.now in
    let loops : List (List Point) = paths_in a.points.now lengths in
    let n = get_or lengths q.k 0 in
    let part : List ℤ = take (q.from + 2 * n - q.from) (drop q.from q.points) in
    let passed : q.from ≡ 2 * length (flatten (take q.k loops)) = omega (arith, q.invariant.1, points_passed stand q.k) in
    let part_is : part ≡ take (q.from + 2 * n - q.from) (drop q.from a.points.now) = ap (take (q.from + 2 * n - q.from)) (untouched a.clockwise a.direction q.invariant.0 q.from passed) in
    let loop_is : pair_up part ≡ get_or loops q.k [] = ap pair_up part_is ∙ path_is stand q.k q.from inside q.invariant.1 in
    let as_many : q.from + 2 * n - q.from ≡ 2 * length (get_or loops q.k []) =
    omega (arith, ap length loop_is, length_pairs part, ap length part_is, length_path stand q.k q.from inside q.invariant.1) in (
      finished_more a.clockwise a.direction q.invariant.0 q.from passed (omega (arith, inside, length_cut lengths (pair_up a.points.now))) (omega (arith, inside, c.requires.1))
          (c.finish.ensures.1 ∙ ap (λ (l : List Point). coordinates (contour_of a.clockwise a.direction l).points) loop_is)
          (c.finish.ensures.0 ∙ ap (λ (l : List Point). (contour_of a.clockwise a.direction l).role) loop_is)
          as_many,
      next_place stand q.k q.from inside q.invariant.1,
    )

pub returns : goal.returns
returns c =
    let a = c.args in
    let loops : List (List Point) = paths_in a.points.now a.lengths.now in
    let all : take c.loop-k.k loops ≡ loops = take_all c.loop-k.k loops (omega (arith, c.loop-k-test.false, length_cut a.lengths.now (pair_up a.points.now))) in (
      c.loop-k.invariant.0.points_are ∙ ap (λ (p : List (List Point)). written (numbers_of (map (contour_of a.clockwise a.direction) p)) a.points.now) all,
      c.loop-k.invariant.0.roles_are ∙ ap (λ (p : List (List Point)). written (roles_of (map (contour_of a.clockwise a.direction) p)) a.roles.now) all,
    )
