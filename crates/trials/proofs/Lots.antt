-- Where two runs are accepted, what each finds is what it finds without lots; and the verdict is that without lots, or 13.
use mathlib.Core.Path.{◌≡◌, sym, ap, ap₂, subst, ◌∙◌}
use mathlib.Core.List.{List, map}
use mathlib.Core.Logic.{◌⊎◌, inl, inr}
use mathlib.Core.Option.{Option}
use Prim.Native.Nat.{ℕ, ◌/◌}
use lib.ListN.{length}
use lib.IntN.{ℤ, pos}
use Rattle.lists.specs.Members.{any}
use Rattle.geom.specs.declared.Point.{Point}
use Rattle.geom.specs.Points.{eq_z}
use Rattle.contour.specs.Contour.{Contour}
use Rattle.refusal.specs.Order.{Verdict}
use Rattle.refusal.specs.Order.{accepted}
use Rattle.refusal.specs.Order.{◌then◌}
use Rattle.refusal.specs.Asked.{wrong_length, Choice, unknown_choice, Lent, too_short, asked_first}
use Rattle.refusal.proofs.Order.{not_both, accepted_then}
use Rattle.segm.specs.Segments.{width, count, segments}
use Rattle.segm.specs.Lots.{unlotted, SameButLots}
use Rattle.segm.proofs.Lots.{lots_alike}
use Rattle.faults.specs.Faults.{LotOut}
use Rattle.drawing_check.specs.Drawing.{drawing_verdict}
use Rattle.drawing_check.proofs.Lots.{verdict_lots}
use Rattle.checks.specs.Runs.{asked, verdict}
use Rattle.fill_rule.specs.FillRule.{rule_of}
use Rattle.ray.specs.Ray as ray
use Rattle.ray.proofs.Fills.{fills-unlotted}
use Rattle.build.specs.Fills as fills
use Rattle.build.specs.Links.{filter_of}
use Rattle.clip_paths.specs.Paths.{clip_paths}
use Rattle.clip_paths.proofs.Paths.Lots.{paths_unlotted}
use Rattle.string_clip.specs.Run as clip
use Rattle.string_slice.specs.Contours.{slice_contours}
use Rattle.string_slice.proofs.SliceContours.{slice_unlotted}
use Rattle.string_slice.specs.Run as slice
use Rattle.trials.specs.Lots.{run_with, LotsDecideNothingElse}

-- ---- acceptance
module _ (l m : List ℤ) (n : length l ≡ length m) (q : SameButLots (segments l) (segments m)) (choices : List Choice) (lists : List Lent) where
  asked-same : asked (run_with m choices lists) ≡ asked (run_with l choices lists)
  unfolding asked count
  asked-same = ap (λ k. asked_first (wrong_length width 1024 k) (any unknown_choice choices) (any (too_short (k / width)) lists)) (sym n)

  acceptance : verdict (run_with l choices lists) ≡ accepted → (verdict (run_with m choices lists) ≡ accepted) ⊎ LotOut (segments m) (verdict (run_with m choices lists))
  unfolding verdict
  acceptance e = go (verdict_lots (segments l)) (verdict_lots (segments m))
    where
      passed : (asked (run_with l choices lists) ≡ accepted) × (drawing_verdict (segments l) ≡ accepted)
      passed = accepted_then (asked (run_with l choices lists)) _ e

      -- the other run's verdict is that on its drawing
      decides : verdict (run_with m choices lists) ≡ drawing_verdict (segments m)
      decides = ap (λ (v : Verdict). v then drawing_verdict (segments m)) (asked-same ∙ passed.0)

      go : (drawing_verdict (segments l) ≡ drawing_verdict (map unlotted (segments l))) ⊎ LotOut (segments l) (drawing_verdict (segments l))
          → (drawing_verdict (segments m) ≡ drawing_verdict (map unlotted (segments m))) ⊎ LotOut (segments m) (drawing_verdict (segments m))
          → (verdict (run_with m choices lists) ≡ accepted) ⊎ LotOut (segments m) (verdict (run_with m choices lists))
      go (inl a) (inl b) = inl (decides ∙ b ∙ ap drawing_verdict (sym q) ∙ sym a ∙ passed.1)
      go (inr o) b = absurd (not_both (sym o.thirteen ∙ passed.1))
      go (inl a) (inr o) = inr (subst (LotOut (segments m)) (sym decides) o)

-- ---- whole runs
pub lots : LotsDecideNothingElse
unfolding fills.fills_outcome clip.clip_outcome slice.slice_outcome
lots = record {
  of_fills = λ l m q rule lent a b.
      ap₂ (λ (v : Verdict) (f : List ℕ). fills.answered v f lent) (a ∙ sym b) (lots_alike (ray.fills (rule_of rule)) (fills-unlotted (rule_of rule)) q);
  of_clip = λ l m q rule invert boundary ls a b.
      ap₂ (λ (v : Verdict) (p : List (List Point)). clip.answered v p ls) (a ∙ sym b)
      (lots_alike (clip_paths (rule_of rule) (filter_of invert boundary)) (paths_unlotted (rule_of rule) (filter_of invert boundary)) q);
  of_slice = λ l m q rule direction least ls a b.
      ap₂ (λ (v : Verdict) (c : Option (List Contour)). slice.answered v c ls) (a ∙ sym b)
      (lots_alike (slice_contours (rule_of rule) (eq_z direction (pos 1)) least) (slice_unlotted (rule_of rule) (eq_z direction (pos 1)) least) q);
  of_acceptance = acceptance;
}
