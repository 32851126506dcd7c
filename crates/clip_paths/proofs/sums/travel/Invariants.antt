-- The sum so far and the travel over the links to come are the whole.
use mathlib.Core.Path.{◌≡◌}
use Prim.Native.Nat.{◌+◌, ◌-◌}
use lib.ListN.{length, drop}
use Rattle.segm.specs.Segments.{segments}
use Rattle.clip_paths.specs.Writing.{travel_over}
use Rattle.clip_paths.proofs.sums.travel.Given as goal

abbrev pub invariant-loop-i : goal.invariant-loop-i
invariant-loop-i l = l.sum + travel_over (drop l.i (segments l.links)) (drop l.i l.bits) ≡ travel_over (segments l.links) l.bits

abbrev pub decreases-loop-i : goal.decreases-loop-i
decreases-loop-i l = length l.bits - l.i
