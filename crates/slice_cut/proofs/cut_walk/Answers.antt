-- The loops are written, read back and made contours.
use mathlib.Core.Path.{◌≡◌, ap}
use native.Mathlib.Omega.{arith}
use lib.ListN.{length, length-take}
use Rattle.contour.specs.Points.{pair_up}
use Rattle.contour.proofs.Points.Coordinates.{length_pairs}
use Rattle.split_loops.specs.declared.buffer.LoopTotals.{LoopTotals}
use Rattle.split_loops.specs.Loops.{split_loops}
use Rattle.split_loops.proofs.Fits.{loops_fit, loops_few, loops_near}
use Rattle.slice_cut.specs.Cutting.{walk_contours}
use Rattle.slice_cut.proofs.Cutting.OneWalk.{loops_stand, contours_hold}
use Rattle.slice_cut.proofs.cut_walk.Goals as goal

pub slice_bounds-finish_all-end : goal.slice_bounds-finish_all-end
slice_bounds-finish_all-end c =
    let found = c.split_loops-found in
    omega (arith, ap (λ (f : LoopTotals). f.loops) found.ensures.0, loops_few c.args.min_area (pair_up c.args.walk.now), found.auto.lengths, c.requires.3)

pub slice_bounds-finish_all-end-2 : goal.slice_bounds-finish_all-end-2
slice_bounds-finish_all-end-2 c =
    let found = c.split_loops-found in
    omega (
      arith,
      ap (λ (f : LoopTotals). f.loops) found.ensures.0,
      loops_few c.args.min_area (pair_up c.args.walk.now),
      found.auto.lengths,
      c.requires.3,
      length-take found.result.loops found.new.lengths,
    )

pub finish_all-requires : goal.finish_all-requires
finish_all-requires c =
    let found = c.split_loops-found in
    let r = c.requires in
    let walk = pair_up c.args.walk.now in
    let number : found.result.loops ≡ length (split_loops c.args.min_area walk) = ap (λ (f : LoopTotals). f.loops) found.ensures.0 in
    let few = loops_few c.args.min_area walk in
    let fit = loops_fit c.args.min_area walk in
    let n = length_pairs c.args.walk.now in (
      loops_stand found.ensures.1 found.result.loops number (omega (arith, fit, n, r.0.few)) (omega (arith, fit, n, r.2)) (loops_near c.args.min_area walk r.0.near),
      omega (arith, length-take found.result.loops found.new.lengths, number, few, r.4),
    )

pub returns : goal.returns
unfolding walk_contours
returns c =
    let found = c.split_loops-found in
    let number : found.result.loops ≡ length (split_loops c.args.min_area (pair_up c.args.walk.now)) = ap (λ (f : LoopTotals). f.loops) found.ensures.0 in
    (found.ensures.0, contours_hold found.ensures.1 found.result.loops number c.args.clockwise c.args.direction c.args.roles.now c.finish_all.ensures.0 c.finish_all.ensures.1)
