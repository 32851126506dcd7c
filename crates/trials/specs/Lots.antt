-- Lots decide nothing but refusal 13: fills, paths, contours, steps and travel do not depend on them, and acceptance does by 13 alone. Of any two lists of
-- numbers whose drawings differ in lots only.
use Rattle.std.specs.Prelude.{◌≡◌, List, ◌⊎◌, ℕ, length, ℤ}
use Rattle.refusal.specs.Order.{accepted}
use Rattle.refusal.specs.Asked.{Choice, Lent}
use Rattle.segm.specs.Segments.{segments}
use Rattle.segm.specs.Lots.{SameButLots}
use Rattle.faults.specs.Faults.{LotOut}
use Rattle.checks.specs.Runs.{Run, fills_run, verdict}
use Rattle.build.specs.Fills as fills
use Rattle.string_clip.specs.Run as clip
use Rattle.string_slice.specs.Run as slice

-- a run on these numbers, with these choices and lists
abbrev pub run_with : List ℤ → List Choice → List Lent → Run
run_with numbers choices lists = record { numbers = numbers; choices = choices; lists = lists }

pub record LotsDecideNothingElse : Type 0 where
  -- whole runs, where both are accepted
  pub of_fills : (l m : List ℤ) → SameButLots (segments l) (segments m) → (rule : ℤ) (lent : List ℕ)
      → verdict (fills_run l rule (length lent)) ≡ accepted → verdict (fills_run m rule (length lent)) ≡ accepted
      → fills.fills_outcome l rule lent ≡ fills.fills_outcome m rule lent
  pub of_clip : (l m : List ℤ) → SameButLots (segments l) (segments m) → (rule invert boundary : ℤ) (ls : clip.Lists)
      → verdict (clip.run_of l rule invert boundary ls) ≡ accepted → verdict (clip.run_of m rule invert boundary ls) ≡ accepted
      → clip.clip_outcome l rule invert boundary ls ≡ clip.clip_outcome m rule invert boundary ls
  pub of_slice : (l m : List ℤ) → SameButLots (segments l) (segments m) → (rule direction : ℤ) (least : ℕ) (ls : slice.Lists)
      → verdict (slice.run_of l rule direction ls) ≡ accepted → verdict (slice.run_of m rule direction ls) ≡ accepted
      → slice.slice_outcome l rule direction least ls ≡ slice.slice_outcome m rule direction least ls
  -- where one is accepted, the other is, or is refused with 13 at a lot out of range
  pub of_acceptance : (l m : List ℤ) → length l ≡ length m → SameButLots (segments l) (segments m) → (choices : List Choice) (lists : List Lent)
      → verdict (run_with l choices lists) ≡ accepted → (verdict (run_with m choices lists) ≡ accepted) ⊎ LotOut (segments m) (verdict (run_with m choices lists))
