-- An accepted run's paths stand in its lists.
use mathlib.Core.Path.{◌≡◌, refl, sym, subst}
use mathlib.Core.List.{List, map, flatten}
use Prim.Native.Nat.{ℕ, ◌*◌, ◌≤◌}
use native.Mathlib.Omega.{arith}
use lib.ListN.{length, length-map}
use lib.IntN.{ℤ}
use Rattle.geom.specs.declared.Point.{Point}
use Rattle.lists.specs.Sums.{tally}
use Rattle.segm.specs.Segments.{segments}
use Rattle.lists.proofs.Written.{length_written, take_written}
use Rattle.std.specs.Prelude.{Ok, Err}
use Rattle.refusal.specs.Order.{Verdict, accepted}
use Rattle.checks.specs.Runs.{verdict}
use Rattle.fill_rule.specs.FillRule.{rule_of}
use Rattle.build.specs.Links.{filter_of}
use Rattle.clip_paths.specs.Paths.{clip_paths, totals}
use Rattle.clip_claim.specs.Claim.{Tells}
use Rattle.string_clip.specs.Run.{Lists, run_of, written_to, Outcome, answered, clip_outcome}
use Rattle.contour.specs.Points.{coordinates}
use Rattle.contour.proofs.Points.Coordinates.{length-coordinates}
use Rattle.string_clip.proofs.Run.Accepted.{accepted_outcome, accepted_room}
use Rattle.clip_claim.proofs.Claim.Together.{accepted_tells}
use Rattle.text.specs.Grammar.{Parsed, BadLine, Drawn}
use Rattle.text_forms.specs.declared.Form.TheVariants.{New}
use Rattle.text_forms.specs.Reading.{parsed_in}
use Rattle.clip_print.specs.Printed.{Held}
use Rattle.contour.proofs.Points.CutWritten.{tally_lengths}
use Rattle.clip_text.specs.Answer.{run_on, text_outcome}

-- what a run writes stands there
written_held : (paths : List (List Point)) (ls : Lists) → 2 * length (flatten paths) ≤ length ls.points → length paths ≤ length ls.lengths
    → (let w = written_to paths ls in Held (length paths) w.points w.lengths)
written_held paths ls h k =
    let n = length-map paths length in
    let m = length-coordinates (flatten paths) in
    let p = length_written (coordinates (flatten paths)) ls.points (omega (arith, m, h)) in
    let l = length_written (map length paths) ls.lengths (omega (arith, n, k)) in
    record {
      few_paths = omega (arith, l, k);
      few_points = rw (take_written (map length paths) ls.lengths (length paths) (sym n), tally_lengths paths, p) h;
    }

module _ (ls : Lists) where
  abbrev HeldOf : Outcome → Type 0
  HeldOf o = Held o.numbers.totals.paths o.lists.points o.lists.lengths

  nothing_held : Held 0 ls.points ls.lengths
  unfolding tally
  nothing_held = record { few_paths = omega arith; few_points = omega arith }

  accepted_held : (numbers : List ℤ) (rule invert boundary : ℤ) → verdict (run_of numbers rule invert boundary ls) ≡ accepted
      → HeldOf (answered accepted (clip_paths (rule_of rule) (filter_of invert boundary) (segments numbers)) ls)
  unfolding totals
  accepted_held numbers rule invert boundary e =
      let d = segments numbers in
      let paths = clip_paths (rule_of rule) (filter_of invert boundary) d in
      let tells = subst (Tells d ls) (accepted_outcome numbers rule invert boundary ls e) (accepted_tells numbers rule invert boundary ls e) in
      let room = accepted_room numbers rule invert boundary ls e in
      written_held paths ls (omega (arith, tells.few_points, room.points_fit)) (omega (arith, tells.few_paths, room.lengths_fit))

  run_held : (numbers : List ℤ) (rule invert boundary : ℤ) → HeldOf (clip_outcome numbers rule invert boundary ls)
  unfolding clip_outcome
  run_held numbers rule invert boundary = by (verdict (run_of numbers rule invert boundary ls)) refl where
    by : (v : Verdict) → verdict (run_of numbers rule invert boundary ls) ≡ v → HeldOf (answered v (clip_paths (rule_of rule) (filter_of invert boundary) (segments numbers)) ls)
    by (Ok _) e = accepted_held numbers rule invert boundary e
    by (Err r) e = nothing_held

  pub text_held : (text : List ℕ) → HeldOf (text_outcome text ls)
  unfolding text_outcome
  text_held text = by (parsed_in New text) where
    by : (p : Parsed) → HeldOf (run_on p ls)
    by (BadLine line) = nothing_held
    by (Drawn c numbers) = run_held numbers c.rule c.invert c.boundary
