-- A vertical segment does not enter; another one goes to a place where it may stand.
use mathlib.Core.Path.{◌≡◌, sym, ap, subst, ◌∙◌}
use mathlib.Core.Bool.{false}
use mathlib.Core.List.{List}
use mathlib.Core.Logic.{inr}
use mathlib.Core.Path.{refl}
use native.Mathlib.Omega.{arith}
use Rattle.integers.proofs.Booleans.{clash}
use Prim.Native.Nat.{ℕ, ◌+◌, ◌-◌, ◌≤◌}
use lib.ListN.{length, get_or, take}
use Rattle.segm.specs.Segments.{segments, segment_at}
use Rattle.strip.specs.Strip.{is_vertical}
use Rattle.scan.proofs.Scan.{length_insert}
use Rattle.open_list.specs.OpenList.{Entered}
use Rattle.open_list.proofs.OpenList.{one_enters, put_at, spanning_with}
use Rattle.open_list.proofs.enter_one.Goals as goal

pub returns-in_err-k-clause-can : goal.returns-in_err-k-clause-can
returns-in_err-k-clause-can c =
    let slanted = ap is_vertical (sym c.segment_in-t.ensures) ∙ sym c.is_vertical.ensures ∙ c.if-is_vertical.false in
    λ w. absurd (clash (c.in_err-k.ensures.can w.x (spanning_with w.spanning c.args.i (w.starting c.args.i (omega arith) (omega arith) slanted)) (λ m. let h = w.earlier c.args.i m in omega arith)) refl)

pub returns-clause-passed : goal.returns-clause-passed
returns-clause-passed c =
    let k = c.in_ok-k.k in
    let d = segments c.args.s.now in
    let i = c.args.i in
    let l = take c.args.status.used c.args.list.now in
    let put = c.insert.ensures in
    let fits = c.in_ok-k.ensures.fits in
    let slanted : is_vertical (segment_at d i) ≡ false = ap is_vertical (sym c.segment_in-t.ensures) ∙ sym c.is_vertical.ensures ∙ c.if-is_vertical.false in (
      omega arith,
      subst (Entered d i (i + 1) l) (sym put) (one_enters k i c.requires.4 slanted fits),
      inr (omega arith, subst (λ (l : List ℕ). k + 1 ≤ length l) (sym put) (omega (arith, length_insert k i l, fits.till)), ap (λ (l : List ℕ). get_or l (k + 1 - 1) 0) put ∙ put_at k i l fits.till),
    )
