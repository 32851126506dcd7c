-- A run's answer to its verdict.
use mathlib.Core.Path.{◌≡◌, sym, ◌∙◌, ap}
use mathlib.Core.List.{List}
use Prim.Native.Nat.{ℕ}
use lib.IntN.{ℤ}
use Rattle.geom.specs.declared.Point.{Point}
use Rattle.segm.specs.Segments.{segments}
use Rattle.contour.specs.Points.{Writes}
use Rattle.std.specs.Prelude.{Ok, Err}
use Rattle.refusal.specs.declared.Refusal.{Refusal}
use Rattle.refusal.specs.Order.{Verdict, accepted}
use Rattle.checks.specs.Runs.{verdict}
use Rattle.fill_rule.specs.FillRule.{rule_of}
use Rattle.build.specs.Links.{filter_of, masked_bits}
use Rattle.clip_paths.specs.declared.Totals.{Totals}
use Rattle.clip_paths.specs.Paths.{totals}
use Rattle.string_clip.specs.Run.{Lists, lists, run_of, outcome, answered, clip_outcome}
use Rattle.clip_paths.specs.Writing.{bits_paths}
use Rattle.clip_paths.proofs.Paths.Masked.{masked_paths}
use Rattle.string_clip.proofs.Run.Accepted.{accepted_outcome}

-- ---- one run
module _ (numbers : List ℤ) (rule invert boundary : ℤ) (ls : Lists) where
  abbrev pub said : Verdict
  said = verdict (run_of numbers rule invert boundary ls)

  -- the answer to a verdict: what was written, or nothing
  pub accepted_answer : said ≡ accepted → {bits : List ℕ} {t : Totals} {points : List ℤ} {lengths : List ℕ} → bits ≡ masked_bits (rule_of rule) (filter_of invert boundary) (segments numbers)
      → t ≡ totals (bits_paths (segments numbers) bits) → Writes (bits_paths (segments numbers) bits) ls.points ls.lengths points lengths → outcome (Ok t) (lists points lengths) ≡ clip_outcome numbers rule invert boundary ls
  accepted_answer e kept n w =
      (λ i. outcome (Ok (n i)) (lists (w.points_are i) (w.lengths_are i)))
      ∙ ap (λ (paths : List (List Point)). answered accepted paths ls) (ap (bits_paths (segments numbers)) kept ∙ masked_paths (rule_of rule) (filter_of invert boundary) (segments numbers))
      ∙ sym (accepted_outcome numbers rule invert boundary ls e)

  pub refused_answer : {r : Refusal} → said ≡ Err r → outcome (Err r) ls ≡ clip_outcome numbers rule invert boundary ls
  unfolding clip_outcome
  refused_answer e = rw e
