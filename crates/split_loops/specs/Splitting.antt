-- What the inner functions of a split do to their lists.
use Rattle.std.specs.Prelude.{◌≡◌, ℕ, ◌+◌, ◌*◌, ◌%◌, ◌≤◌, ◌<◌, length, take, drop, ℤ}
use mathlib.Core.List.{List, ◌++◌, map, flatten}
use Rattle.geom.specs.declared.Point.{Point}
use Rattle.lists.specs.Written.{written}
use Rattle.bin_store.specs.Stores.{Same}
use Rattle.contour.specs.Points.{Writes, coordinates, pair_up, AllInRange}
use Rattle.split_loops.specs.declared.buffer.LoopTotals.{LoopTotals}
use Rattle.split_loops.specs.declared.buffer.LoopWriter.{LoopWriter}
use Rattle.split_loops.specs.declared.buffer.SplitMemory.{SplitMemory}

-- the first n points of a list of numbers
abbrev pub first_points : ℕ → List ℤ → List Point
first_points n l = take n (pair_up l)

-- these loops come after those that were found
pub record Adds (loops : List (List Point)) (found after : LoopTotals) (out₀ : List ℤ) (lengths₀ : List ℕ) (out : List ℤ) (lengths : List ℕ) : Type 0 where
  pub loops_are : after.loops ≡ found.loops + length loops
  pub points_are : after.points ≡ found.points + length (flatten loops)
  pub out_is : out ≡ take (2 * found.points) out₀ ++ written (coordinates (flatten loops)) (drop (2 * found.points) out₀)
  pub lengths_are : lengths ≡ take found.loops lengths₀ ++ written (map length loops) (drop found.loops lengths₀)

-- a writer adds these loops to its lists, which stay the same and as long
pub record Added (loops : List (List Point)) (w w' : LoopWriter) : Type 0 where
  pub same_out : Same w.out w'.out
  pub same_lengths : Same w.lengths w'.lengths
  pub adds : Adds loops w.found w'.found w.out.now w.lengths.now w'.out.now w'.lengths.now

-- a writer with few loops and room for n points more, in as many loops
pub record RoomFor (n : ℕ) (w : LoopWriter) : Type 0 where
  pub points_fit : 2 * (w.found.points + n) ≤ length w.out.now
  pub loops_fit : w.found.loops + n ≤ length w.lengths.now
  pub few : (w.found.loops ≤ 2048) × (w.found.points ≤ 2048)

-- lists long enough to split n points with
pub record Working (n : ℕ) (heads nexts : List ℕ) (seen : List ℤ) (numbers : List ℕ) (buffer : List ℤ) : Type 0 where
  pub heads_fit : n < length heads
  pub nexts_fit : n ≤ length nexts
  pub seen_fit : 2 * n ≤ length seen
  pub numbers_fit : n ≤ length numbers
  pub buffer_fits : 2 * n ≤ length buffer
  pub buffer_few : length buffer ≤ 4096

-- lent memory that is
abbrev pub HasRoom : ℕ → SplitMemory → Type 0
HasRoom n m = Working n m.heads.now m.nexts.now m.seen.now m.numbers.now m.buffer.now

-- points that can be split: whole, few and in range
pub record Splittable (points : List ℤ) : Type 0 where
  pub whole : length points % 2 ≡ 0
  pub few : length points ≤ 4096
  pub near : AllInRange (pair_up points)

-- how many loops and points there are
abbrev pub loop_totals : List (List Point) → LoopTotals
loop_totals loops = record { loops = length loops; points = length (flatten loops) }

-- a writer that has written none
abbrev pub IsEmpty : LoopWriter → Type 0
IsEmpty w = w.found ≡ record { loops = 0; points = 0 }

-- these loops stand in the lists of a writer that had none
pub record HoldsLoops (loops : List (List Point)) (w w' : LoopWriter) : Type 0 where
  pub same_out : Same w.out w'.out
  pub same_lengths : Same w.lengths w'.lengths
  pub found_is : w'.found ≡ loop_totals loops
  pub writes : Writes loops w.out.now w.lengths.now w'.out.now w'.lengths.now
