-- What is before low is below, what is from high on is above, and they come together.
use mathlib.Core.Path.{◌≡◌}
use mathlib.Core.Bool.{Bool, true, false}
use Prim.Native.Nat.{ℕ, ◌-◌, ◌<◌, ◌≤◌}
use lib.ListN.{length}
use Rattle.segm.specs.Segments.{segments}
use Rattle.scan.specs.Scan.{below_at}
use Rattle.scan.proofs.place_of.Given as goal

-- the test changes from low to high
pub record Between (test : ℕ → Bool) (many low high : ℕ) : Type 0 where
  pub order : low ≤ high
  pub till : high ≤ many
  pub before : 0 < low → test (low - 1) ≡ true
  pub after : high < many → test high ≡ false

abbrev pub invariant-loop-low : goal.invariant-loop-low
invariant-loop-low l = Between (below_at (segments l.s) l.sought l.list) (length l.list) l.low l.high

abbrev pub decreases-loop-low : goal.decreases-loop-low
decreases-loop-low l = l.high - l.low
