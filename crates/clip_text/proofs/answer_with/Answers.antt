-- The run decides the arm.
use mathlib.Core.Path.{◌≡◌, sym, ap, subst, ◌∙◌}
use mathlib.Core.List.{List}
use Prim.Native.Nat.{ℕ, ◌≤◌}
use native.Mathlib.Omega.{arith}
use lib.ListN.{length}
use lib.IntN.{ℤ}
use Rattle.lists.specs.Written.{written}
use Rattle.std.specs.Prelude.{Result}
use Rattle.refusal.specs.declared.Refusal.{Refusal}
use Rattle.clip_paths.specs.declared.Totals.{Totals}
use Rattle.contour.specs.Points.{pair_up, cut}
use Rattle.string_clip.specs.Run.{told, Lists, lists, Outcome, outcome, output}
use Rattle.writing.specs.Lines.{refused_line}
use Rattle.writing.specs.Puts.{Put}
use Rattle.clip_print.specs.Printed.{Held, lines_of, printed}
use Rattle.clip_print.specs.Lengths.{longest}
use Rattle.clip_text.specs.Answer.{text_outcome}
use Rattle.clip_text.proofs.Held.{text_held}
use Rattle.clip_print.proofs.Lengths.{length-printed, printed_short}
use Rattle.writing.proofs.Puts.{put_whole}
use Rattle.clip_text.proofs.answer_with.Goals as goal

-- what the run told
module _ (text : List ℕ) (ls : Lists) (points : List ℤ) (lengths : List ℕ) {a : Result Totals Refusal} (q : outcome a (lists points lengths) ≡ text_outcome text ls) where
  is : {r : Result Totals Refusal} → a ≡ r → outcome r (lists points lengths) ≡ text_outcome text ls
  is e = ap (λ (r : Result Totals Refusal). outcome r (lists points lengths)) (sym e) ∙ q

  held : {r : Result Totals Refusal} → a ≡ r → Held (told r).totals.paths points lengths
  held e = subst (λ (o : Outcome). Held o.numbers.totals.paths o.lists.points o.lists.lengths) (sym (is e)) (text_held ls text)

  -- there is room for its lines
  room : (out : List ℕ) → longest (length points) ≤ length out → {r : Result Totals Refusal} → a ≡ r → length (lines_of r (cut (told r).totals.paths lengths (pair_up points))) ≤ length out
  unfolding printed output
  room out h {r} e = let o = outcome r (lists points lengths) in omega (arith, length-printed o, printed_short o, h)

  -- and they stand at the front
  whole : (out : List ℕ) → longest (length points) ≤ length out → {r : Result Totals Refusal} {k : ℕ} {new : List ℕ} → a ≡ r → Put out 0 (lines_of r (cut (told r).totals.paths lengths (pair_up points))) k new
      → (k ≤ length out) × ((k ≡ length (printed (text_outcome text ls))) × (new ≡ written (printed (text_outcome text ls)) out))
  unfolding printed output
  whole out h {r = r} {k = k} {new = new} e p =
      let w = put_whole p (room out h e) in
      (omega (arith, w.0, room out h e), subst (λ (l : List ℕ). (k ≡ length l) × (new ≡ written l out)) (ap printed (is e)) w)

-- the list of points keeps its length
fits : (points new : List ℤ) (out : List ℕ) → length new ≡ length points → longest (length points) ≤ length out → longest (length new) ≤ length out
fits points new out e h = subst (λ n. longest n ≤ length out) (sym e) h

pub put_run-requires : goal.put_run-requires
put_run-requires c =
    let ls = lists c.args.points.now c.args.lengths.now in
    let h = fits c.args.points.now c.clip_text.new.points c.args.out.now c.clip_text.auto.points c.requires in
    record { held = held c.args.text.now ls c.clip_text.new.points c.clip_text.new.lengths c.clip_text.ensures c.in-Ok.is; points_in_bounds = room c.args.text.now ls c.clip_text.new.points c.clip_text.new.lengths c.clip_text.ensures c.args.out.now h c.in-Ok.is }

pub put_refused-requires : goal.put_refused-requires
put_refused-requires c =
    let ls = lists c.args.points.now c.args.lengths.now in
    let h = fits c.args.points.now c.clip_text.new.points c.args.out.now c.clip_text.auto.points c.requires in
    let r = room c.args.text.now ls c.clip_text.new.points c.clip_text.new.lengths c.clip_text.ensures c.args.out.now h c.in-Err.is in
    subst (λ n. length (refused_line n c.in-Err.refusal.place) ≤ length c.args.out.now) (sym c.number.ensures) r

pub returns-in-Ok : goal.returns-in-Ok
returns-in-Ok c =
    let ls = lists c.args.points.now c.args.lengths.now in
    let h = fits c.args.points.now c.clip_text.new.points c.args.out.now c.clip_text.auto.points c.requires in
    let w = whole c.args.text.now ls c.clip_text.new.points c.clip_text.new.lengths c.clip_text.ensures c.args.out.now h c.in-Ok.is c.put_run.ensures in
    record { upper_bound = w.0; value = w.1 }

pub returns-in-Err : goal.returns-in-Err
returns-in-Err c =
    let ls = lists c.args.points.now c.args.lengths.now in
    let h = fits c.args.points.now c.clip_text.new.points c.args.out.now c.clip_text.auto.points c.requires in
    let put = subst (λ n. Put c.args.out.now 0 (refused_line n c.in-Err.refusal.place) c.put_refused.result c.put_refused.new.out) c.number.ensures c.put_refused.ensures in
    let w = whole c.args.text.now ls c.clip_text.new.points c.clip_text.new.lengths c.clip_text.ensures c.args.out.now h c.in-Err.is put in
    record { upper_bound = w.0; value = w.1 }
