-- The memory is large enough.
use native.Mathlib.Omega.{arith}
use lib.ListN.{length}
use Rattle.contour.specs.Points.{pair_up}
use Rattle.contour.proofs.Points.Coordinates.{length_pairs}
use Rattle.split_loops.proofs.Splitting.{array_working}
use Rattle.string_split.proofs.split_in.Goals as goal

pub split_loops-requires : goal.split_loops-requires
split_loops-requires g c =
    let r = c.requires in
    let l = c.args.points.now in
    (r.splittable.0, array_working (length (pair_up l)) r.sizes.0 r.sizes.1 r.sizes.2 (omega (arith, length_pairs l, r.splittable.1, r.sizes.1)), r.room.0, r.room.1)
