-- All up to the place to which the loop has come start at the first one's point.
use mathlib.Core.Path.{◌≡◌}
use Prim.Native.Nat.{ℕ, ◌<◌, ◌≤◌}
use Rattle.segm.specs.Segments.{segments, segment_at}
use Rattle.starts.proofs.node_end.Given as goal

abbrev pub invariant-loop-j : goal.invariant-loop-j
invariant-loop-j l = (i : ℕ) → l.from ≤ i → i < l.j → (segment_at (segments l.s) i).a ≡ (segment_at (segments l.s) l.from).a
