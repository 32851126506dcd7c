-- From event to event.
use mathlib.Core.List.{List}
use Prim.Native.Nat.{ℕ, ◌-◌, ◌*◌, ◌≤◌}
use lib.ListN.{length, take}
use lib.IntN.{ℤ}
use Rattle.segm.specs.Segments.{Drawing, segments}
use Rattle.count_up.specs.CountUp.{Counts, Tops, BoundedBy}
use Rattle.meeting_sweep.proofs.Events.Sweeping.{Progress}
use Rattle.meeting_sweep.proofs.sweep_events.Given as goal

pub record SweepInv (d : Drawing) (flat list : List ℕ) (tops : List ℤ) (passed started used : ℕ) : Type 0 where
  pub within : started ≤ length d
  pub few : used ≤ started
  pub progress : Progress d flat passed started (take used list)
  pub small : BoundedBy (2048000 * started) tops
  pub counted : (counts : ℕ → ℤ) → Counts d counts → Tops counts started tops

abbrev pub invariant-loop-passed : goal.invariant-loop-passed
invariant-loop-passed l = SweepInv (segments l.s) l.flat l.list l.tops l.passed l.started l.status.used

abbrev pub decreases-loop-passed : goal.decreases-loop-passed
decreases-loop-passed l = length l.flat - l.passed
