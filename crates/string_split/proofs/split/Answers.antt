-- The verdict decides; the loops are found in memory for few points or for any.
use mathlib.Core.Path.{◌≡◌, sym, ap, ◌∙◌}
use mathlib.Core.List.{List}
use native.Mathlib.Omega.{arith}
use Prim.Native.Nat.{ℕ}
use lib.ListN.{length}
use lib.IntN.{ℤ}
use Rattle.std.specs.Prelude.{Ok}
use Rattle.std.proofs.lemmas.Result.{err_from_is_err_and}
use Rattle.contour.specs.Points.{pair_up, Writes}
use Rattle.refusal.specs.Order.{Verdict, accepted}
use Rattle.split_loops.specs.declared.buffer.LoopTotals.{LoopTotals}
use Rattle.split_loops.specs.Loops.{split_loops}
use Rattle.split_loops.specs.Splitting.{loop_totals}
use Rattle.string_split.specs.Run.{Lists, lists, outcome, answered, split_verdict, split_outcome}
use Rattle.string_split.proofs.Run.{accepted_split}
use Rattle.string_split.proofs.split.Goals as goal

pub returns-in_err-check_split : goal.returns-in_err-check_split
unfolding split_outcome
returns-in_err-check_split c =
    let a = c.args in
    let old : Lists = lists a.out.now a.lengths.now in
    let p = err_from_is_err_and c.from_residual.result c.from_residual.ensures.1 in
    rw (p.1, p.2) (ap (λ (w : Verdict). answered w (split_loops a.min_area (pair_up a.points.now)) old) (sym c.in_err-check_split.was ∙ c.check_split.ensures))

pub split_in-requires-clause-splittable : goal.split_in-requires-clause-splittable
split_in-requires-clause-splittable c =
    let a = c.args in
    let g = accepted_split a.points.now (length a.out.now) (length a.lengths.now) (sym c.check_split.ensures ∙ c.in_ok-check_split.was) in
    (g.splittable, omega arith)

pub split_in-requires-clause-room : goal.split_in-requires-clause-room
split_in-requires-clause-room c =
    let a = c.args in
    let g = accepted_split a.points.now (length a.out.now) (length a.lengths.now) (sym c.check_split.ensures ∙ c.in_ok-check_split.was) in
    (g.out_fits, g.lengths_fit)

-- an accepted run
module _ (points : List ℤ) (least : ℕ) (old : Lists) (v : Verdict) (is : v ≡ split_verdict points (length old.out) (length old.lengths)) (ok : v ≡ accepted) where
  done : (found : LoopTotals) (out : List ℤ) (lengths : List ℕ) → (found ≡ loop_totals (split_loops least (pair_up points))) × Writes (split_loops least (pair_up points)) old.out old.lengths out lengths
      → outcome (Ok found) (lists out lengths) ≡ split_outcome points least old
  unfolding split_outcome
  done found out lengths e =
      (λ i. outcome (Ok (e.0 i)) (lists (e.1.points_are i) (e.1.lengths_are i))) ∙ ap (λ (w : Verdict). answered w (split_loops least (pair_up points)) old) (sym ok ∙ is)

pub returns-then-points-le-SMALL_COORDINATES : goal.returns-then-points-le-SMALL_COORDINATES
returns-then-points-le-SMALL_COORDINATES c =
    let a = c.args in
    done a.points.now a.min_area (lists a.out.now a.lengths.now) c.check_split.result c.check_split.ensures c.in_ok-check_split.was _ _ _ c.split_in.ensures

pub split_in-requires-2-clause-splittable : goal.split_in-requires-2-clause-splittable
split_in-requires-2-clause-splittable c =
    let a = c.args in
    let g = accepted_split a.points.now (length a.out.now) (length a.lengths.now) (sym c.check_split.ensures ∙ c.in_ok-check_split.was) in
    (g.splittable, g.splittable.few)

pub split_in-requires-2-clause-room : goal.split_in-requires-2-clause-room
split_in-requires-2-clause-room c =
    let a = c.args in
    let g = accepted_split a.points.now (length a.out.now) (length a.lengths.now) (sym c.check_split.ensures ∙ c.in_ok-check_split.was) in
    (g.out_fits, g.lengths_fit)

pub returns : goal.returns
returns c =
    let a = c.args in
    done a.points.now a.min_area (lists a.out.now a.lengths.now) c.check_split.result c.check_split.ensures c.in_ok-check_split.was _ _ _ c.split_in-2.ensures
