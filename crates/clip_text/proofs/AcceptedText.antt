-- For the text of an accepted drawing its paths are printed.
use mathlib.Core.Path.{◌≡◌, refl, ap, ◌∙◌}
use mathlib.Core.Bool.{true}
use mathlib.Core.List.{List}
use Prim.Native.Nat.{ℕ}
use native.Mathlib.Omega.{arith}
use lib.ListN.{length, replicate, length-replicate}
use lib.IntN.{pos}
use Rattle.geom.specs.declared.Point.{Point}
use Rattle.segm.specs.Segments.{Drawing, segments, laid}
use Rattle.segm.proofs.Segments.Laid.{segments-laid}
use Rattle.std.specs.Prelude.{Ok}
use Rattle.refusal.specs.Order.{accepted}
use Rattle.checks.specs.Runs.{verdict, clip_run}
use Rattle.checks.specs.Accepted.{accepts}
use Rattle.checks.proofs.Runs.{passed}
use Rattle.checks.proofs.Accepted.{accepted_input, accepted_run}
use Rattle.fill_rule.specs.FillRule.{rule_of}
use Rattle.build.specs.Links.{filter_of}
use Rattle.string_clip.specs.Run.{Room, Lists, lists, run_of}
use Rattle.clip_paths.specs.Paths.{clip_paths, totals}
use Rattle.string_clip.proofs.Run.ReadBack.{read_back}
use Rattle.string_clip.proofs.Run.Accepted.{accepted_outcome, room_long}
use Rattle.text.specs.declared.Choices.{Choices}
use Rattle.text.specs.Grammar.{Parsed}
use Rattle.text_forms.specs.declared.Form.TheVariants.{New}
use Rattle.text_forms.specs.Forms.{writing}
use Rattle.stored_text.proofs.Accepted.{good, accepted_text}
use Rattle.clip_print.specs.Printed.{lines_of, printed}
use Rattle.clip_text.specs.Answer.{run_on, text_outcome, answer_to}

module _ (c : Choices) (d : Drawing) (e : accepts (laid d) c.rule c.invert c.boundary ≡ true) where
  -- lists for 1,024 segments are long enough for it
  accepted_clip : (ls : Lists) → length ls.points ≡ 8192 → length ls.lengths ≡ 2048 → verdict (run_of (laid d) c.rule c.invert c.boundary ls) ≡ accepted
  unfolding clip_run
  accepted_clip ls h k =
      let n = ap length (segments-laid d) in
      let room : Room (laid d) ls = record { points_fit = omega (arith, n, h, (good c d e).faultless.few); lengths_fit = omega (arith, n, k, (good c d e).faultless.few) } in
      accepted_run (laid d) c.rule c.invert c.boundary e _ _ (passed _ (accepted_input (laid d) c.rule c.invert c.boundary e)).asks.known (room_long (laid d) ls room)

  abbrev paths : Drawing → List (List Point)
  paths = clip_paths (rule_of c.rule) (filter_of c.invert c.boundary)

  printed_run : (ls : Lists) → length ls.points ≡ 8192 → length ls.lengths ≡ 2048 → printed (text_outcome (writing New c d) ls) ≡ lines_of (Ok (totals (paths d))) (paths d)
  unfolding text_outcome printed
  printed_run ls h k =
      ap (λ (p : Parsed). printed (run_on p ls)) (accepted_text c d e New (λ s m. refl))
      ∙ ap printed (accepted_outcome (laid d) c.rule c.invert c.boundary ls (accepted_clip ls h k))
      ∙ ap (lines_of (Ok (totals (paths (segments (laid d)))))) (read_back (paths (segments (laid d))) ls)
      ∙ ap (λ (f : Drawing). lines_of (Ok (totals (paths f))) (paths f)) (segments-laid d)

  -- for the text of an accepted drawing its paths are printed, and their totals
  pub accepted_answer : answer_to (writing New c d) ≡ lines_of (Ok (totals (paths d))) (paths d)
  unfolding answer_to
  accepted_answer = printed_run (lists (replicate 8192 (pos 0)) (replicate 2048 0)) (length-replicate 8192 (pos 0)) (length-replicate {A = ℕ} 2048 0)
