-- Two runs whose lists are long enough have one verdict; and of two runs that are as defined the claim holds.
use mathlib.Core.Path.{◌≡◌, refl, sym, ◌∙◌, ap₂}
use mathlib.Core.List.{List, [], ◌∷◌}
use mathlib.Core.Bool.{Bool}
use lib.ListN.{length}
use lib.IntN.{ℤ, pos}
use Rattle.geom.specs.Points.{within}
use Rattle.lists.specs.Members.{any}
use Rattle.segm.specs.Segments.{width, segments}
use Rattle.refusal.specs.Order.{◌then◌}
use Rattle.refusal.specs.Asked.{wrong_length, unknown_choice, asked_first}
use Rattle.drawing_check.specs.Drawing.{drawing_verdict}
use Rattle.checks.specs.Runs.{rule_choice, flag_choice, clip_run, asked, verdict}
use Rattle.string_clip.specs.Run.{Lists, Room, Outcome, clip_outcome}
use Rattle.string_clip.proofs.Run.Accepted.{room_long}
use Rattle.string_clip.proofs.Run.Answers.{said}
use Rattle.clip_claim.proofs.Claim.Together.{inside_and_outside}
use Rattle.clip_both.specs.Together.{Together}

module _ (numbers : List ℤ) (rule boundary : ℤ) (ls₀ ls₁ : Lists) (r₀ : Room numbers ls₀) (r₁ : Room numbers ls₁) where
  -- inside and outside are both known
  as_known : any unknown_choice (rule_choice rule ∷ flag_choice (pos 1) ∷ flag_choice boundary ∷ []) ≡ any unknown_choice (rule_choice rule ∷ flag_choice (pos 0) ∷ flag_choice boundary ∷ [])
  unfolding any unknown_choice within
  as_known = refl

  pub one-verdict : said numbers rule (pos 1) boundary ls₁ ≡ said numbers rule (pos 0) boundary ls₀
  unfolding verdict asked clip_run
  one-verdict = ap₂ (λ (unknown short : Bool). asked_first (wrong_length width 1024 (length numbers)) unknown short then drawing_verdict (segments numbers)) as_known (room_long numbers ls₁ r₁ ∙ sym (room_long numbers ls₀ r₀))

-- two runs that are as defined
pub both_runs : (numbers : List ℤ) (rule boundary : ℤ) (inside : Outcome) (ls₀ : Lists) (outside : Outcome) (ls₁ : Lists)
    → inside ≡ clip_outcome numbers rule (pos 0) boundary ls₀ → outside ≡ clip_outcome numbers rule (pos 1) boundary ls₁ → Together numbers rule boundary inside ls₀ outside ls₁
both_runs numbers rule boundary inside ls₀ outside ls₁ p q = record { inside_is = p; outside_is = q; claim = λ e r₀ r₁. rw (p, q) (inside_and_outside numbers rule boundary e ls₀ ls₁ r₀ r₁) }
