-- Idle programs, shut out: document 01, "How each operation is bound", c. Each line of that list is the negation of a claim, or of an outcome, as they are stated
-- of all runs. An outcome here is any at all: whatever a program told and left in its lists.
use Rattle.std.specs.Prelude.{◌≡◌, List, [], ◌∷◌, ◌++◌, true, ◌≢◌, ℕ, ◌+◌, ℤ, pos, Err}
use Rattle.std.proofs.Math.Option.{some}
use Rattle.geom.specs.declared.Point.{Point}
use Rattle.segm.specs.Segments.{segments}
use Rattle.refusal.specs.declared.Kind.TheVariants.{StuckWalk}
use Rattle.refusal.specs.declared.Refusal.{Refusal}
use Rattle.refusal.specs.Order.{refusal}
use Rattle.checks.specs.Accepted.{accepts}
use Rattle.fill_rule.specs.FillRule.{rule_of}
use Rattle.moves.specs.Moves.{Move}
use Rattle.string_clip.specs.Run.{Outcome, output}
use Rattle.clip_claim.specs.Claim.{InsideAndOutside}
use Rattle.slice_walk.specs.Walk.{walks}
use Rattle.string_slice.specs.Contours.{side_bits}
use Rattle.string_slice.specs.Run as slice
use Rattle.trials.specs.Trials.{line, clip_of, finds, verdict_on}

-- ---- drawings
-- one line, from (0,0) to (2,0), and no dough
abbrev pub bare : List ℤ
bare = line (pos 0) (pos 0) (pos 2) (pos 0) (pos 1)

-- another line, from (0,0) to (0,2)
abbrev pub upright : List ℤ
upright = line (pos 0) (pos 0) (pos 0) (pos 2) (pos 1)

-- two lines, one going on where the other ends
abbrev pub joined : List ℤ
joined = line (pos 0) (pos 0) (pos 1) (pos 0) (pos 1) ++ line (pos 1) (pos 0) (pos 2) (pos 0) (pos 1)

-- the claim about inside and outside, of the bare line under nonzero, boundary included
abbrev pub Holds : Outcome → Outcome → Type 0
Holds inside outside = InsideAndOutside (segments bare) (rule_of (pos 1)) (pos 1) inside outside

-- the path along the line
abbrev pub line_path : List Point
line_path = record { x = pos 0; y = pos 0 } ∷ record { x = pos 2; y = pos 0 } ∷ []

-- ---- the list
pub record Idle : Type 0 where
  -- the drawing is accepted, and of the two runs themselves the claim holds
  pub accepted : accepts bare (pos 1) (pos 0) (pos 1) ≡ true
  pub runs_hold : Holds (clip_of (pos 0) 1 bare) (clip_of (pos 1) 1 bare)
  -- no cuts ever
  pub no_cuts : (inside outside : Outcome) → output inside ≡ [] → output outside ≡ [] → ¬ Holds inside outside
  -- or one canned path: no two outputs serve two drawings, and of this one none but the line's own path does, inside or outside
  pub canned : (inside outside : Outcome) → Holds inside outside → ¬ InsideAndOutside (segments upright) (rule_of (pos 1)) (pos 1) inside outside
  pub canned_inside : (path : List Point) → path ≢ line_path → (inside outside : Outcome) → output inside ≡ path ∷ [] → output outside ≡ [] → ¬ Holds inside outside
  pub canned_outside : (path : List Point) → path ≢ line_path → (inside outside : Outcome) → output inside ≡ [] → output outside ≡ path ∷ [] → ¬ Holds inside outside
  -- each segment handed back as a path of its own: the two lines are one path
  pub each_alone : clip_of (pos 1) 2 joined ≢ finds 2 2 4 2 2 (pos 0 ∷ pos 0 ∷ pos 1 ∷ pos 0 ∷ pos 1 ∷ pos 0 ∷ pos 2 ∷ pos 0 ∷ []) (2 ∷ 2 ∷ [])
  -- an inside run holding all lines and an empty outside one: the ray fills neither side of the line
  pub all_inside : (inside outside : Outcome) → output outside ≡ [] → ¬ Holds inside outside
  -- everything refused
  pub all_refused : (r : Refusal) → verdict_on 1 bare ≢ Err r
  -- invented steps or travel
  pub steps_altered : (inside outside : Outcome) → inside.numbers.totals.steps + outside.numbers.totals.steps ≢ 1 → ¬ Holds inside outside
  pub travel_altered : (inside outside : Outcome) → inside.numbers.totals.travel + outside.numbers.totals.travel ≢ 2 → ¬ Holds inside outside
  -- "no move" before looking: 12 is not the outcome where every walk finds its moves
  pub no_move : (numbers : List ℤ) (rule direction : ℤ) (least : ℕ) (ls : slice.Lists) (found : List (List Move))
      → walks (segments numbers) (side_bits (rule_of rule) (segments numbers)) ≡ some found → (place : ℕ)
      → (slice.slice_outcome numbers rule direction least ls).answer ≢ Err (refusal StuckWalk place)
