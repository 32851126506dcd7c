-- The one below the gap has its count.
use mathlib.Core.Path.{◌≡◌, sym, ap, subst}
use native.Mathlib.Omega.{arith}
use Prim.Native.Nat.{◌+◌, ◌≤◌}
use lib.ListN.{take, set}
use lib.IntN.{ℤ, nat_abs, ◌+ℤ◌}
use mir.Syntax.{w32}
use Rattle.integers.proofs.Machine.{Is, add, ret, read, got}
use Rattle.segm.specs.declared.Segment.{Segment}
use Rattle.lists.proofs.Members.{in_take}
use Rattle.faults.specs.Faultless.{Proper}
use Rattle.faults.proofs.Faultless.{proper_at, winding_at}
use Rattle.count_up.proofs.CountUp.{last_within}
use Rattle.verticals.proofs.stand_one.Goals as goal

pub gap_of-requires : goal.gap_of-requires
gap_of-requires c = let p = c.requires in (p.0, subst Proper (sym p.1) (proper_at p.0 c.args.i p.2), p.3)

pub count_below-requires : goal.count_below-requires
count_below-requires c = λ i m. omega (arith, c.requires.3 i (in_take c.in_ok-k.k c.args.list.now i m), c.requires.4)

-- the count below and the winding
summed : {count winding count' winding' : ℤ} → count' ≡ count → nat_abs count ≤ 2110000000 → winding' ≡ winding → nat_abs winding ≤ 1000 → Is w32 (2110000000 + 1000) (count' +ℤ winding') (count +ℤ winding)
summed count-is small winding-is few = add (record { is = count-is; bound = small }) (record { is = winding-is; bound = few }) (omega arith)

pub overflow_add-tops : goal.overflow_add-tops
overflow_add-tops c =
    let under = got w32 c.count_below.result (omega arith) c.count_below.ensures in
    let small = last_within c.args.tops.now (take c.in_ok-k.k c.args.list.now) c.requires.5 in
    let few = subst (λ (v : Segment). nat_abs v.winding ≤ 1000) (sym c.requires.1) (winding_at c.requires.0 c.args.i c.requires.2) in
    (summed under small (read w32 c.args.v.winding (omega arith)) few).fits

pub returns-clause-stands : goal.returns-clause-stands
returns-clause-stands c =
    let under = got w32 c.count_below.result (omega arith) c.count_below.ensures in
    let small = last_within c.args.tops.now (take c.in_ok-k.k c.args.list.now) c.requires.5 in
    let few = subst (λ (v : Segment). nat_abs v.winding ≤ 1000) (sym c.requires.1) (winding_at c.requires.0 c.args.i c.requires.2) in
    (c.in_ok-k.ensures.gap, ap (set c.args.tops.now c.args.i) (ret (summed under small (read w32 c.args.v.winding (omega arith)) few)))
