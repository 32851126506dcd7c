-- As many ends as were passed are gone from the list.
use mathlib.Core.Path.{refl, sym, ap, subst, ◌∙◌}
use mathlib.Core.List.{List}
use native.Mathlib.Omega.{arith}
use Rattle.integers.proofs.Booleans.{clash}
use native.Mathlib.Numerals.{add-one}
use Prim.Native.Nat.{ℕ, ◌<◌}
use lib.ListN.{length, get_or, take}
use lib.Seq.{take-suc}
use Rattle.segm.specs.Segments.{segments}
use Rattle.lists.proofs.Members.{in_at}
use Rattle.open_list.specs.OpenList.{HasLeft}
use Rattle.open_list.proofs.OpenList.{left_more, left_known, can_leave_next}
use Rattle.open_list.proofs.leave_all.Goals as goal

pub leave_one-requires : goal.leave_one-requires
leave_one-requires c =
    let v = c.loop-e.invariant in
    (c.requires.0, c.requires.1 _ (in_at c.args.ends.now 0 c.loop-e.e-index (omega arith)), omega (arith, v.fewer, c.requires.2), left_known c.requires.3 v.left, v.left.order, v.left.distinct)

pub returns-in_err-held-clause-can : goal.returns-in_err-held-clause-can
returns-in_err-held-clause-can c =
    let l = c.loop-e in
    λ w. absurd (clash (c.in_err-held.ensures.can (can_leave_next (segments c.args.s.now) c.args.ends.now (take c.args.status.used c.args.list.now) (take l.held.used l.list) l.e-index (omega arith) w l.invariant.left)) refl)

pub loop-e-preserved : goal.loop-e-preserved
loop-e-preserved c =
    let l = c.loop-e in
    let ends = c.args.ends.now in
    let r = c.in_ok-held.ensures.passed in
    let h : l.e-index < length ends = omega arith in
    record {
      fewer = omega (arith, r.0, l.invariant.fewer);
      left = subst (λ (a : List ℕ). HasLeft (segments c.args.s.now) a (take c.args.status.used c.args.list.now) (take c.in_ok-held.held.used c.leave_one.new.list))
          (sym (ap (λ n. take n ends) (add-one l.e-index) ∙ take-suc ends l.e-index 0 h)) (left_more (get_or ends l.e-index 0) l.invariant.left r.1);
    }
