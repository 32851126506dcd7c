-- What is beside the place must close.
use mathlib.Core.Path.{refl, sym, subst}
use mathlib.Core.List.{[], ◌∷◌}
use native.Mathlib.Omega.{arith}
use Prim.Native.Nat.{◌+◌}
use lib.ListN.{length, take}
use Rattle.integers.proofs.Booleans.{clash}
use Rattle.segm.specs.Segments.{segments}
use Rattle.open_list.specs.OpenList.{HasLeft}
use Rattle.open_list.proofs.OpenList.{one_leaves, closes}
use Rattle.open_list.proofs.take_out.Goals as goal

pub returns-in_err-k-clause-can : goal.returns-in_err-k-clause-can
returns-in_err-k-clause-can c = λ x w m. absurd (clash (c.in_err-k.ensures.can x w m) refl)

pub returns-then-not-closes_at-clause-can : goal.returns-then-not-closes_at-clause-can
returns-then-not-closes_at-clause-can c =
    λ x w m. absurd (clash (c.closes_at.ensures.1 (closes (segments c.args.s.now) (take c.args.status.used c.args.list.now) c.requires.4 c.requires.5 w c.in_ok-k.k)) c.if-not-closes_at.true)

pub returns-clause-passed : goal.returns-clause-passed
returns-clause-passed c =
    let stands = c.in_ok-k.ensures.stands in (
      omega arith,
      subst (HasLeft (segments c.args.s.now) ((length (segments c.args.s.now) + c.args.i) ∷ []) (take c.args.status.used c.args.list.now)) (sym c.remove.ensures)
          (one_leaves c.in_ok-k.k c.args.i stands.0 stands.1 c.requires.5 c.requires.6 (c.closes_at.ensures.0 (c.if-not-closes_at.false))),
    )
