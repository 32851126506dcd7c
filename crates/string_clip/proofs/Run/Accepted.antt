-- An accepted run: its drawing is good, its lists are long enough, and its outcome is its paths.
use mathlib.Core.Path.{◌≡◌, refl}
use mathlib.Core.List.{List, [], ◌∷◌}
use mathlib.Core.Logic.{inl, inr}
use mathlib.Core.Bool.{false}
use Prim.Native.Nat.{◌*◌}
use native.Mathlib.Omega.{arith}
use lib.ListN.{length}
use lib.IntN.{ℤ}
use borrow.Author.Tests.{le-ltb}
use Rattle.integers.proofs.Booleans.{neither}
use Rattle.lists.specs.Members.{any}
use Rattle.segm.specs.Segments.{count, segments}
use Rattle.segm.proofs.Segments.{length-segments}
use Rattle.refusal.specs.Order.{accepted}
use Rattle.refusal.specs.Asked.{too_short, lent}
use Rattle.checks.specs.Runs.{verdict, clip_run}
use Rattle.checks.specs.Accepted.{Good}
use Rattle.checks.proofs.Runs.{verdict_room}
use Rattle.checks.proofs.Accepted.{verdict_good}
use Rattle.fill_rule.specs.FillRule.{rule_of}
use Rattle.build.specs.Links.{filter_of}
use Rattle.clip_paths.specs.Paths.{clip_paths}
use Rattle.string_clip.specs.Run.{Lists, run_of, Room, answered, clip_outcome}

module _ (numbers : List ℤ) (rule invert boundary : ℤ) (ls : Lists) (e : verdict (run_of numbers rule invert boundary ls) ≡ accepted) where
  pub accepted_drawing : Good (segments numbers)
  unfolding clip_run
  accepted_drawing = verdict_good _ e

  pub accepted_outcome : clip_outcome numbers rule invert boundary ls ≡ answered accepted (clip_paths (rule_of rule) (filter_of invert boundary) (segments numbers)) ls
  unfolding clip_outcome
  accepted_outcome = rw e

  pub accepted_room : Room numbers ls
  unfolding clip_run
  accepted_room = record {
    points_fit = omega (arith, length-segments numbers, verdict_room _ e (lent (length ls.points) 8) (inl refl));
    lengths_fit = omega (arith, length-segments numbers, verdict_room _ e (lent (length ls.lengths) 2) (inr (inl refl)));
  }

-- lists with room are not too short
pub room_long : (numbers : List ℤ) (ls : Lists) → Room numbers ls → any (too_short (count numbers)) (lent (length ls.points) 8 ∷ lent (length ls.lengths) 2 ∷ []) ≡ false
unfolding any too_short
room_long numbers ls r = neither
    (le-ltb (length ls.points) (8 * count numbers) (omega (arith, length-segments numbers, r.points_fit)))
    (neither (le-ltb (length ls.lengths) (2 * count numbers) (omega (arith, length-segments numbers, r.lengths_fit))) refl)
