-- The sum so far, with what is left of the way, is the whole; each step adds at most 2^49.
use mathlib.Core.Path.{◌≡◌}
use Prim.Native.Nat.{◌*◌, ◌-◌, ◌<◌, ◌≤◌}
use lib.ListN.{get_or, drop}
use lib.IntN.{nat_abs, ◌+ℤ◌}
use Rattle.contour.specs.Points.{pair_up, origin}
use Rattle.contour.specs.Area.{shoelace}
use Rattle.contour.proofs.Area.{most, along}
use Rattle.contour.proofs.shoelace.Given as goal

abbrev pub invariant-loop-i : goal.invariant-loop-i
invariant-loop-i l =
    (0 < l.i) × (l.sum +ℤ along (get_or (pair_up l.points) (l.i - 1) origin) (drop l.i (pair_up l.points)) ≡ shoelace (pair_up l.points)) × (nat_abs l.sum ≤ l.i * most)
