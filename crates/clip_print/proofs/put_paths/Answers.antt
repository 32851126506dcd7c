-- The lines of the paths passed are put.
use mathlib.Core.Path.{◌≡◌, refl}
use mathlib.Core.List.{List}
use native.Mathlib.Omega.{arith}
use Prim.Native.Nat.{ℕ, ◌+◌, ◌*◌, ◌-◌, ◌≤◌, ◌<◌}
use lib.ListN.{length, get_or, take, drop}
use lib.IntN.{ℤ}
use Rattle.lists.specs.Sums.{tally}
use Rattle.lists.proofs.Sums.{tally_take, tally_part}
use Rattle.contour.specs.Points.{pair_up}
use Rattle.clip_print.specs.Printed.{path_lines}
use Rattle.clip_print.proofs.Printed.{lines_from, paths_more, paths_none}
use Rattle.writing.proofs.Puts.{left_all, left_less, left_none, left_fits}
use Rattle.clip_print.proofs.put_paths.Goals as goal

-- the points of a path are in the list
path_fits : (points : List ℤ) (lengths : List ℕ) (k from : ℕ) → k < length lengths → from ≡ 2 * tally (λ n. n) (take k lengths) → 2 * tally (λ n. n) lengths ≤ length points
    → from + 2 * get_or lengths k 0 ≤ length points
path_fits points lengths k from h place few = omega (arith, tally_take (λ n. n) lengths 0 k h, tally_part (λ n. n) lengths (k + 1))

pub loop-k-init : goal.loop-k-init
unfolding tally
loop-k-init c =
    record { put = left_all (lines_from 0 0 c.args.points.now c.args.lengths.now) c.args.lines.now; place = refl }

pub overflow_add-to : goal.overflow_add-to
overflow_add-to c = omega (arith, path_fits c.args.points.now c.args.lengths.now c.loop-k.k c.loop-k.from (omega arith) c.loop-k.invariant.place c.requires.lengths_in_bounds)

pub offset_bounds-points-from : goal.offset_bounds-points-from
offset_bounds-points-from c = omega (arith, path_fits c.args.points.now c.args.lengths.now c.loop-k.k c.loop-k.from (omega arith) c.loop-k.invariant.place c.requires.lengths_in_bounds)

pub slice_bounds-put_path-end : goal.slice_bounds-put_path-end
slice_bounds-put_path-end c = path_fits c.args.points.now c.args.lengths.now c.loop-k.k c.loop-k.from (omega arith) c.loop-k.invariant.place c.requires.lengths_in_bounds

pub put_path-requires : goal.put_path-requires
put_path-requires c =
    let k = c.loop-k.k in
    let from = c.loop-k.from in
    let points = c.args.points.now in
    let lengths = c.args.lengths.now in
    let to = from + 2 * get_or lengths k 0 in
    left_fits c.loop-k.invariant.put (path_lines k 0 (pair_up (take (to - from) (drop from points)))) (lines_from (k + 1) to points lengths) (paths_more k from points lengths (omega arith)) c.requires.room

pub loop-k-preserved : goal.loop-k-preserved
loop-k-preserved c =
    let v = c.loop-k.invariant in
    let k = c.loop-k.k in
    let lengths = c.args.lengths.now in
    record {
      put = left_less v.put (paths_more k c.loop-k.from c.args.points.now lengths (omega arith)) c.put_path.ensures;
      place = omega (arith, v.place, tally_take (λ n. n) lengths 0 k (omega arith));
    }

pub returns : goal.returns
returns c =
    left_none c.loop-k.invariant.put (paths_none c.loop-k.k c.loop-k.from c.args.points.now c.args.lengths.now (omega arith))
