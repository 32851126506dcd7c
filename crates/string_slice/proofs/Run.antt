-- The run by its stages: what the cut needs of the walks that were made, and the outcome.
use mathlib.Core.Path.{◌≡◌, refl, sym, ap, ◌∙◌}
use mathlib.Core.List.{List, flatten}
use mathlib.Core.Logic.{◌⊎◌, inl, inr}
use mathlib.Core.Option.{Option}
use mathlib.Core.Bool.{Bool, true, false}
use Prim.Native.Nat.{ℕ, ◌*◌, ◌≤◌}
use native.Mathlib.Omega.{arith}
use borrow.Author.Tests.{eqb-true, eqb-false}
use lib.Dec.{eqb, lit<}
use lib.ListN.{length, take}
use lib.IntN.{ℤ, pos}
use mir.Syntax.{w32}
use mir.Val.{SFits, of_z}
use Rattle.integers.proofs.Booleans.{dec}
use Rattle.geom.specs.Points.{eq_z}
use Rattle.segm.specs.Segments.{Drawing, segments}
use Rattle.segm.proofs.Segments.{length-segments}
use Rattle.std.specs.Prelude.{Result, Ok, Err}
use Rattle.refusal.specs.declared.Refusal.{Refusal}
use Rattle.refusal.specs.Order.{Verdict, accepted}
use Rattle.refusal.specs.Asked.{lent}
use Rattle.drawing_check.specs.Drawing.{drawing_verdict}
use Rattle.checks.specs.Runs.{Run, asked, verdict, slice_run}
use Rattle.checks.specs.Accepted.{Good}
use Rattle.checks.proofs.Accepted.{verdict_good}
use Rattle.checks.proofs.Runs.{asked_accepted, verdict_room}
use Rattle.fill_rule.specs.FillRule.{rule_of}
use Rattle.fill_rule.proofs.Choices.{is, is_not}
use Rattle.moves.specs.Moves.{Move}
use Rattle.slice_walk.specs.Walk.{walks}
use Rattle.slice_cut.specs.declared.Contours.{Contours}
use Rattle.slice_cut.specs.Cutting.{Holds, Stand, counts, paths_in, cut_walks}
use Rattle.string_slice.specs.Contours.{side_bits, all_contours, slice_contours}
use Rattle.string_slice.specs.Run.{Lists, lists, run_of, outcome, handed_over, answered, slice_outcome}
use Rattle.string_slice.specs.Walking.{WalkedOf}
use Rattle.string_slice.proofs.Walking.{Made, made, is_accepted, refused, as_many, few_points, stand, contours_are, handed}

-- equal bits are equal numbers
pub is_one : {z : ℤ} → SFits w32 z → eqb (of_z w32 z) 1 ≡ eq_z z (pos 1)
is_one {z} f = go (dec (eqb (of_z w32 z) 1))
  where
    go : (eqb (of_z w32 z) 1 ≡ true) ⊎ (eqb (of_z w32 z) 1 ≡ false) → eqb (of_z w32 z) 1 ≡ eq_z z (pos 1)
    go (inl e) = e ∙ sym (is f 1 (lit< tt) (eqb-true (of_z w32 z) 1 e))
    go (inr e) = e ∙ sym (is_not f 1 (eqb-false (of_z w32 z) 1 e))

-- n walks were made of a run on these numbers, with these choices and lent lists
pub record Staged (numbers : List ℤ) (rule direction : ℤ) (ls : Lists) (n : ℕ) (points : List ℤ) (lengths dirs : List ℕ) : Type 0 where
  pub is_accepted_lem : verdict (run_of numbers rule direction ls) ≡ accepted
  pub walks_made : Made (segments numbers) (walks (segments numbers) (side_bits (rule_of rule) (segments numbers))) n points lengths dirs
  pub room : 4 * length (segments numbers) ≤ length points

-- a run that is refused from the input
pub refused_answer : (numbers : List ℤ) (rule direction : ℤ) (ls : Lists) (least : ℕ) {why : Refusal} → verdict (run_of numbers rule direction ls) ≡ Err why
    → outcome (Err why) ls ≡ slice_outcome numbers rule direction least ls
unfolding slice_outcome
refused_answer numbers rule direction ls least e = rw e

-- ---- by the answer of the first stage, where what was asked first refused nothing
module _ (numbers : List ℤ) (rule direction : ℤ) (ls : Lists) (asks : asked (run_of numbers rule direction ls) ≡ accepted) (r : Result ℕ Refusal) (points : List ℤ) (lengths dirs : List ℕ)
    (w : WalkedOf numbers (drawing_verdict (segments numbers)) rule r points lengths dirs) where
  abbrev given : Verdict
  given = drawing_verdict (segments numbers)

  abbrev found : Option (List (List Move))
  found = walks (segments numbers) (side_bits (rule_of rule) (segments numbers))

  -- the verdict on the drawing is that on the run
  same_verdict : given ≡ verdict (run_of numbers rule direction ls)
  unfolding slice_run
  same_verdict = asked_accepted (run_of numbers rule direction ls) (sym asks) refl

  pub staged : {n : ℕ} → r ≡ Ok n → 4 * length (segments numbers) ≤ length points → Staged numbers rule direction ls n points lengths dirs
  staged e room =
      record { is_accepted_lem = sym same_verdict ∙ is_accepted (segments numbers) r points lengths dirs given found w e; walks_made = made (segments numbers) r points lengths dirs given found w e; room = room }

  pub refused_outcome : (least : ℕ) {why : Refusal} → r ≡ Err why → outcome (Err why) ls ≡ slice_outcome numbers rule direction least ls
  unfolding slice_outcome slice_contours
  refused_outcome least e =
      refused (segments numbers) r points lengths dirs (all_contours (eq_z direction (pos 1)) least (segments numbers)) given found w e
      ∙ ap (λ (v : Verdict). answered v (slice_contours (rule_of rule) (eq_z direction (pos 1)) least (segments numbers)) ls) same_verdict

-- ---- the cut
module _ {numbers : List ℤ} {rule direction : ℤ} {ls : Lists} {n : ℕ} {points : List ℤ} {lengths dirs : List ℕ} (g : Staged numbers rule direction ls n points lengths dirs) where
  abbrev d : Drawing
  d = segments numbers

  abbrev run : Run
  run = run_of numbers rule direction ls

  good : Good d
  unfolding slice_run
  good = verdict_good run g.is_accepted_lem

  pub numbers_fit : length (take n dirs) ≡ length (take n lengths)
  numbers_fit = as_many (rule_of rule) d good g.walks_made

  pub stands : Stand points (take n lengths)
  stands = stand (rule_of rule) d good g.walks_made g.room

  number : length (flatten (paths_in points (take n lengths))) ≤ 2 * length d
  number = few_points (rule_of rule) d good g.walks_made

  pub points_fit : 2 * length (flatten (paths_in points (take n lengths))) ≤ length ls.points
  unfolding slice_run
  points_fit = omega (arith, number, length-segments numbers, verdict_room run g.is_accepted_lem (lent (length ls.points) 4) (inl refl))

  pub lengths_fit : length (flatten (paths_in points (take n lengths))) ≤ length ls.lengths
  unfolding slice_run
  lengths_fit = omega (arith, number, length-segments numbers, verdict_room run g.is_accepted_lem (lent (length ls.lengths) 2) (inr (inl refl)))

  pub roles_fit : length (flatten (paths_in points (take n lengths))) ≤ length ls.roles
  unfolding slice_run
  roles_fit = omega (arith, number, length-segments numbers, verdict_room run g.is_accepted_lem (lent (length ls.roles) 2) (inr (inr (inl refl))))

  pub cut-outcome : (clockwise : Bool) (least : ℕ) {r : Contours} {points₁ : List ℤ} {lengths₁ roles₁ : List ℕ} → clockwise ≡ eq_z direction (pos 1)
      → r ≡ counts (cut_walks clockwise least (paths_in points (take n lengths)) (take n dirs))
      → Holds (cut_walks clockwise least (paths_in points (take n lengths)) (take n dirs)) ls.points ls.lengths ls.roles points₁ lengths₁ roles₁
      → outcome (Ok r) (lists points₁ lengths₁ roles₁) ≡ slice_outcome numbers rule direction least ls
  unfolding slice_outcome
  cut-outcome clockwise least e k h =
      handed _ _ ls (contours_are (rule_of rule) d good g.walks_made clockwise least) k h
      ∙ ap (λ b. handed_over (slice_contours (rule_of rule) b least d) ls) e
      ∙ ap (λ (v : Verdict). answered v (slice_contours (rule_of rule) (eq_z direction (pos 1)) least d) ls) (sym g.is_accepted_lem)
