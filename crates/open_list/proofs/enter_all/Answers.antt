-- As many segments as were passed have entered the list.
use mathlib.Core.Path.{refl}
use native.Mathlib.Omega.{arith}
use Rattle.integers.proofs.Booleans.{clash}
use Prim.Native.Nat.{◌+◌, ◌≤◌}
use lib.ListN.{take}
use Rattle.segm.specs.Segments.{segments}
use Rattle.open_list.proofs.OpenList.{none_entered, entered_more, entered_known, marks_more, can_enter_next}
use Rattle.open_list.proofs.enter_all.Goals as goal

pub loop-i-init : goal.loop-i-init
loop-i-init c = record { fewer = c.requires.3; entered = none_entered c.args.from c.requires.6; marks = λ older i m k. absurd (let h = older i m in omega arith) }

pub enter_one-requires : goal.enter_one-requires
enter_one-requires c =
    let l = c.loop-i in
    (c.requires.0, omega (arith, c.requires.2), omega (arith, l.invariant.fewer, c.requires.2, c.requires.4), entered_known (omega (arith, c.requires.2)) c.requires.5 l.invariant.entered, l.invariant.entered.order)

pub returns-in_err-held-clause-can : goal.returns-in_err-held-clause-can
returns-in_err-held-clause-can c =
    let l = c.loop-i in
    let since : c.args.from ≤ l.i = omega arith in
    λ w. absurd (clash (c.in_err-held.ensures.can (can_enter_next (segments c.args.s.now) c.args.from l.i (l.i + 1) c.args.to (take c.args.status.used c.args.list.now) (take l.held.used l.list) since (omega arith) (omega arith) w l.invariant.entered)) refl)

pub loop-i-preserved : goal.loop-i-preserved
loop-i-preserved c =
    let l = c.loop-i in
    let r = c.in_ok-held.ensures.passed in
    let since : c.args.from ≤ l.i = omega arith in
    record {
      fewer = omega (arith, r.0, l.invariant.fewer);
      entered = entered_more c.args.from l.i (l.i + 1) since (omega arith) l.invariant.entered r.1;
      marks = λ older. marks_more since (l.invariant.marks older) r.2;
    }
