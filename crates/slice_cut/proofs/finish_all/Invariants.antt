-- The loops passed are contours, and those to come are as they were.
use mathlib.Core.Path.{◌≡◌}
use Prim.Native.Nat.{◌*◌}
use lib.ListN.{take}
use Rattle.lists.specs.Sums.{tally}
use Rattle.slice_cut.specs.Cutting.{paths_in}
use Rattle.slice_cut.proofs.Cutting.ManyContours.{Finished}
use Rattle.slice_cut.proofs.finish_all.Given as goal

abbrev pub invariant-loop-k : goal.invariant-loop-k
invariant-loop-k l =
    Finished l.clockwise l.direction (paths_in l.initial.points l.lengths) l.initial.points l.initial.roles l.points l.roles l.k
    × (l.from ≡ 2 * tally (λ n. n) (take l.k l.lengths))
