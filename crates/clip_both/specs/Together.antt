-- Both clip runs by code, over their lists before and after. The contracts of `clip_both` cite this.
use Rattle.std.specs.Prelude.{◌≡◌, List, true, ℤ, pos}
use Rattle.segm.specs.Segments.{segments}
use Rattle.checks.specs.Accepted.{accepts}
use Rattle.fill_rule.specs.FillRule.{rule_of}
use Rattle.string_clip.specs.Run.{Lists, Room, Outcome, clip_outcome}
use Rattle.clip_claim.specs.Claim.{InsideAndOutside, Tells}

-- each answers and writes what its definition says; if the drawing is accepted and no list is too short, the claim holds of the two, and each tells what its output holds
pub record Together (numbers : List ℤ) (rule boundary : ℤ) (inside : Outcome) (ls₀ : Lists) (outside : Outcome) (ls₁ : Lists) : Type 0 where
  pub inside_is : inside ≡ clip_outcome numbers rule (pos 0) boundary ls₀
  pub outside_is : outside ≡ clip_outcome numbers rule (pos 1) boundary ls₁
  pub claim : accepts numbers rule (pos 0) boundary ≡ true → Room numbers ls₀ → Room numbers ls₁
      → InsideAndOutside (segments numbers) (rule_of rule) boundary inside outside × Tells (segments numbers) ls₀ inside × Tells (segments numbers) ls₁ outside
