-- The points taken and those to come are all points.
use mathlib.Core.Path.{◌≡◌}
use mathlib.Core.List.{List}
use Prim.Native.Nat.{ℕ, ◌≤◌}
use lib.ListN.{length}
use lib.IntN.{ℤ}
use Rattle.geom.specs.declared.Point.{Point}
use Rattle.contour.specs.Points.{pair_up}
use Rattle.bin_store.specs.declared.store.BinMemory.{BinMemory}
use Rattle.bin_store.specs.Stores.{held, IsBinned, SameLists, Same}
use Rattle.split_loops.specs.declared.buffer.LoopWriter.{LoopWriter}
use Rattle.split_loops.specs.Splitting.{first_points}
use Rattle.split_loops.proofs.Splitting.Taking.{Taking}
use Rattle.split_loops.proofs.buffer.take_points.Given as goal

pub record State (least : ℕ) (points : List Point) (writer₀ writer : LoopWriter) (store₀ store : BinMemory) (buffer : List ℤ) (len i : ℕ) : Type 0 where
  pub taking : Taking least points writer₀.out.now writer₀.lengths.now (held store) (first_points len buffer) writer.out.now writer.lengths.now writer.found i
  pub len_is : len ≡ length (first_points len buffer)
  pub binned : IsBinned store
  pub few : store.counts.count ≤ i
  pub same_lists : SameLists store₀ store
  pub same_out : Same writer₀.out writer.out
  pub same_lengths : Same writer₀.lengths writer.lengths

abbrev pub invariant-loop-i : goal.invariant-loop-i
invariant-loop-i l = State l.min_area (pair_up l.points) l.initial.writer l.writer l.initial.store l.store l.buffer l.len l.i
