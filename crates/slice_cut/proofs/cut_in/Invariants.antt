-- The contours of the walks passed are written, and each walk's come after them.
use mathlib.Core.Path.{◌≡◌}
use mathlib.Core.List.{List}
use mathlib.Core.Bool.{Bool}
use Prim.Native.Nat.{ℕ, ◌*◌, ◌≤◌}
use lib.ListN.{length, take}
use lib.IntN.{ℤ}
use Rattle.lists.specs.Sums.{tally}
use Rattle.slice_cut.specs.Cutting.{paths_in}
use Rattle.slice_cut.proofs.Cutting.AllWalks.{Cut}
use Rattle.slice_cut.proofs.cut_in.Given as goal

pub record State (clockwise : Bool) (least : ℕ) (walks : List ℤ) (walk_lengths directions : List ℕ) (points₀ : List ℤ) (lengths₀ roles₀ : List ℕ) (points : List ℤ) (lengths roles : List ℕ) (contours at from k : ℕ) : Type 0 where
  pub cut : Cut clockwise least (paths_in walks walk_lengths) directions points₀ lengths₀ roles₀ points lengths roles contours at k
  pub place : from ≡ 2 * tally (λ n. n) (take k walk_lengths)
  pub few : (at ≤ 2048) × (contours ≤ 2048)
  pub inside : (2 * at ≤ length points₀) × (contours ≤ length lengths₀) × (contours ≤ length roles₀)

abbrev pub invariant-loop-k : goal.invariant-loop-k
invariant-loop-k g l =
    State l.clockwise l.min_area l.walks l.walk_lengths l.directions l.initial.points l.initial.lengths l.initial.roles l.points l.lengths l.roles l.contours l.at l.from l.k
