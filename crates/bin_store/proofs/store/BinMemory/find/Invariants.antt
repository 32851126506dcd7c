-- Every item that holds p is ahead along the links, which go down.
use Prim.Native.Nat.{◌≤◌}
use Rattle.bin_store.proofs.Bins.Links.{Ahead}
use Rattle.bin_store.proofs.store.BinMemory.find.Given as goal

abbrev pub invariant-loop-j : goal.invariant-loop-j
invariant-loop-j l = (l.j ≤ l.self.counts.count) × Ahead l.self.nexts.now l.self.seen.now l.p l.self.counts.count l.j

abbrev pub decreases-loop-j : goal.decreases-loop-j
decreases-loop-j l = l.j
