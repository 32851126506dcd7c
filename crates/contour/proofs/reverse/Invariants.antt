-- The points are turned round but for a middle, which each step takes the two ends off.
use mathlib.Core.Path.{◌≡◌}
use mathlib.Core.List.{reverse}
use lib.ListN.{length}
use Rattle.contour.specs.Points.{pair_up}
use Rattle.contour.proofs.Contour.Reversal.{Turned}
use Rattle.contour.proofs.reverse.Given as goal

abbrev pub invariant-loop-i : goal.invariant-loop-i
invariant-loop-i l = Turned (pair_up l.points) (reverse (pair_up l.initial.points)) l.i × (length l.points ≡ length l.initial.points)
