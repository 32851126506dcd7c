-- The first stage of a slice run, the walks: the memory for them, what is answered, and what is left in their lists.
use Rattle.std.specs.Prelude.{◌≡◌, List, map, ℕ, ◌*◌, ◌≤◌, length, take, ℤ, Result, Ok, Err}
use Rattle.std.proofs.Math.Option.{Option, none, some}
use Rattle.segm.specs.Segments.{Drawing, segments}
use Rattle.refusal.specs.declared.Refusal.{Refusal}
use Rattle.refusal.specs.declared.Kind.TheVariants.{StuckWalk}
use Rattle.refusal.specs.Order.{Verdict, refusal}
use Rattle.fill_rule.specs.FillRule.{rule_of}
use Rattle.moves.specs.Moves.{Move}
use Rattle.slice_walk.specs.Walk.{walks}
use Rattle.slice_walk.specs.Writing.{all_points, directions}
use Rattle.slice_cut.specs.Cutting.{paths_in}
use Rattle.string_slice.specs.Contours.{side_bits}

-- memory for the walks of a drawing
pub record WalkRoom (d : Drawing) (points : List ℤ) (lengths dirs : List ℕ) : Type 0 where
  pub points_room : 4 * length d ≤ length points
  pub lengths_room : 2 * length d ≤ length lengths
  pub directions_room : 2 * length d ≤ length dirs

-- walks stand at the fronts of lists: their points, how many each has, and its direction
pub record Standing (links : Drawing) (walks : List (List Move)) (points : List ℤ) (lengths dirs : List ℕ) : Type 0 where
  pub lengths_are : take (length walks) lengths ≡ map length (all_points links walks)
  pub paths_are : paths_in points (take (length walks) lengths) ≡ all_points links walks
  pub directions_are : take (length walks) dirs ≡ directions walks

-- what a call answers by the verdict and the walks, a refusal where one finds no move, and the walks' lists when it returns; where it refuses, they are not looked at
abbrev pub WalkedAre : Verdict → Drawing → Option (List (List Move)) → Result ℕ Refusal → (points : List ℤ) → (lengths directions : List ℕ) → Type 0
WalkedAre (Err refused) links o r points lengths dirs = r ≡ Err refused
WalkedAre (Ok _) links none r points lengths dirs = r ≡ Err (refusal StuckWalk 0)
WalkedAre (Ok _) links (some walks) r points lengths dirs = (r ≡ Ok (length walks)) × Standing links walks points lengths dirs

-- the same for any numbers that have this verdict
abbrev pub WalkedOf : List ℤ → Verdict → (rule : ℤ) → Result ℕ Refusal → (points : List ℤ) → (lengths directions : List ℕ) → Type 0
WalkedOf numbers v rule = WalkedAre v (segments numbers) (walks (segments numbers) (side_bits (rule_of rule) (segments numbers)))
