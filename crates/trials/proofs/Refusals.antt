-- The verdict decides: an accepted run answers no refusal, but a slice whose walk finds no move.
use mathlib.Core.Path.{◌≡◌, ap}
use mathlib.Core.List.{List}
use mathlib.Core.Option.{Option, none, some}
use Prim.Native.Nat.{ℕ}
use lib.ListN.{length}
use lib.IntN.{ℤ, pos}
use Rattle.geom.specs.declared.Point.{Point}
use Rattle.geom.specs.Points.{eq_z}
use Rattle.segm.specs.Segments.{segments}
use Rattle.contour.specs.Points.{pair_up}
use Rattle.contour.specs.Contour.{Contour}
use Rattle.std.specs.Prelude.{Result, Ok, Err}
use Rattle.refusal.specs.declared.Kind.TheVariants.{TooShort}
use Rattle.refusal.specs.declared.Refusal.{Refusal}
use Rattle.refusal.specs.Order.{Verdict, refuse_if, ◌then◌}
use Rattle.refusal.specs.Asked.{too_short}
use Rattle.refusal.specs.Asked as asked
use Rattle.checks.specs.Runs.{verdict, fills_run}
use Rattle.fill_rule.specs.FillRule.{rule_of}
use Rattle.ray.specs.Ray as ray
use Rattle.clip_paths.specs.declared.Totals.{Totals}
use Rattle.slice_cut.specs.declared.Contours.{Contours}
use Rattle.split_loops.specs.declared.buffer.LoopTotals.{LoopTotals}
use Rattle.build.specs.Fills as fills
use Rattle.build.specs.Links.{filter_of}
use Rattle.clip_paths.specs.Paths.{clip_paths}
use Rattle.string_clip.specs.Run as clip
use Rattle.string_slice.specs.Contours.{slice_contours}
use Rattle.string_slice.specs.Run as slice
use Rattle.split_loops.specs.Loops.{split_loops}
use Rattle.string_split.specs.Run as split
use Rattle.text.specs.declared.Reading.{Reading}
use Rattle.text.specs.Grammar.{Parsed, parsed}
use Rattle.text.specs.Storing as text
use Rattle.text_forms.specs.declared.Form.TheVariants.{New}
use Rattle.text_forms.specs.Forms.{writing}
use Rattle.stored_text.specs.Outcome as writer
use Rattle.trials.specs.Refusals.{RefusalsWriteNothing}

module _ (r : Refusal) where
  fills_refused : (v : Verdict) (found lent : List ℕ) → (let o = fills.answered v found lent in o.answer ≡ Err r → o ≡ fills.outcome (Err r) lent)
  fills_refused (Ok _) found lent e = let bad : ⊥ = cc in absurd bad
  fills_refused (Err _) found lent e = ap (λ (a : Result ℕ Refusal). fills.outcome a lent) e

  clip_refused : (v : Verdict) (paths : List (List Point)) (ls : clip.Lists) → (let o = clip.answered v paths ls in o.answer ≡ Err r → o ≡ clip.outcome (Err r) ls)
  clip_refused (Ok _) paths ls e = let bad : ⊥ = cc in absurd bad
  clip_refused (Err _) paths ls e = ap (λ (a : Result Totals Refusal). clip.outcome a ls) e

  slice_refused : (v : Verdict) (found : Option (List Contour)) (ls : slice.Lists) → (let o = slice.answered v found ls in o.answer ≡ Err r → o ≡ slice.outcome (Err r) ls)
  slice_refused (Ok _) none ls e = ap (λ (a : Result Contours Refusal). slice.outcome a ls) e
  slice_refused (Ok _) (some contours) ls e = let bad : ⊥ = cc in absurd bad
  slice_refused (Err _) found ls e = ap (λ (a : Result Contours Refusal). slice.outcome a ls) e

  split_refused : (v : Verdict) (loops : List (List Point)) (ls : split.Lists) → (let o = split.answered v loops ls in o.answer ≡ Err r → o ≡ split.outcome (Err r) ls)
  split_refused (Ok _) loops ls e = let bad : ⊥ = cc in absurd bad
  split_refused (Err _) loops ls e = ap (λ (a : Result LoopTotals Refusal). split.outcome a ls) e

  read_refused : (v : Verdict) (p : Parsed) (lent : List ℤ) → (let o = text.answered v p lent in o.answer ≡ Err r → o ≡ text.outcome (Err r) lent)
  read_refused (Ok _) p lent e = let bad : ⊥ = cc in absurd bad
  read_refused (Err _) p lent e = ap (λ (a : Result Reading Refusal). text.outcome a lent) e

  write_refused : (v : Verdict) (bytes lent : List ℕ) → (let o = writer.answered v bytes lent in o.answer ≡ Err r → o ≡ writer.outcome (Err r) lent)
  write_refused (Ok _) bytes lent e = let bad : ⊥ = cc in absurd bad
  write_refused (Err _) bytes lent e = ap (λ (a : Result ℕ Refusal). writer.outcome a lent) e

  unless_refused : (before : Verdict) (bytes lent : List ℕ) → (let o = writer.written_unless before bytes lent in o.answer ≡ Err r → o ≡ writer.outcome (Err r) lent)
  unfolding writer.written_unless
  unless_refused before bytes lent = write_refused (before then refuse_if TooShort (too_short (length bytes) (asked.lent (length lent) 1))) bytes lent

pub refusals : RefusalsWriteNothing
unfolding fills.fills_outcome clip.clip_outcome slice.slice_outcome split.split_outcome text.read_outcome writer.write_outcome writer.move_outcome
refusals = record {
  of_fills = λ numbers rule lent r. fills_refused r (verdict (fills_run numbers rule (length lent))) (ray.fills (rule_of rule) (segments numbers)) lent;
  of_clip = λ numbers rule invert boundary ls r. clip_refused r (verdict (clip.run_of numbers rule invert boundary ls)) (clip_paths (rule_of rule) (filter_of invert boundary) (segments numbers)) ls;
  of_slice = λ numbers rule direction least ls r. slice_refused r (verdict (slice.run_of numbers rule direction ls)) (slice_contours (rule_of rule) (eq_z direction (pos 1)) least (segments numbers)) ls;
  of_split = λ points least ls r. split_refused r (split.split_verdict points (length ls.out) (length ls.lengths)) (split_loops least (pair_up points)) ls;
  of_read = λ width bytes lent r. read_refused r (text.read_verdict (parsed width bytes) (length lent)) (parsed width bytes) lent;
  of_write = λ numbers c lent r. unless_refused r (writer.input_verdict c numbers) (writing New c (segments numbers)) lent;
  of_move = λ from to bytes lent r. unless_refused r _ _ lent;
}
