-- The stretch about the place, counted up from the one below it.
use mathlib.Core.Path.{sym, ap, subst, ◌∙◌}
use native.Mathlib.Omega.{arith}
use Prim.Native.Nat.{◌-◌, ◌≤◌}
use lib.ListN.{take, drop, length-take, length-drop}
use lib.IntN.{nat_abs}
use mir.Syntax.{w32}
use Rattle.integers.proofs.Machine.{got}
use lib.Seq.{length-take-le}
use Rattle.segm.specs.Segments.{segments}
use Rattle.lists.proofs.Members.{in_take, in_drop}
use Rattle.count_up.specs.CountUp.{count_up}
use Rattle.count_up.proofs.CountUp.{last_within}
use Rattle.count_up.proofs.count_node.Goals as goal

pub slice_bounds-count_below-end : goal.slice_bounds-count_below-end
slice_bounds-count_below-end c =
    sym (length-take-le c.low_end-low.result c.args.list.now (omega (arith, c.low_end-low.ensures.till, c.requires.3)))

pub count_below-under-requires : goal.count_below-under-requires
count_below-under-requires c =
    λ i m. omega (arith, c.requires.1 i (in_take c.low_end-low.result c.args.list.now i m), c.requires.5)

pub slice_bounds-count_up-count : goal.slice_bounds-count_up-count
slice_bounds-count_up-count c = omega (arith, c.low_end-low.ensures.till, c.high_end-high.ensures.from)

pub count_up-requires : goal.count_up-requires
count_up-requires c =
    let low = c.low_end-low in
    let high = c.high_end-high in
    let l = c.args.list.now in
    let under = c.count_below-under in (
      c.requires.0,
      (λ i m. c.requires.1 i (in_drop low.result l i (in_take (high.result - low.result) (drop low.result l) i m))),
      omega (arith, length-take (high.result - low.result) (drop low.result l), length-drop low.result l, c.requires.2),
      subst (λ z. nat_abs z ≤ 2100000000) (sym (got w32 under.result under.type_inv under.ensures)) (last_within c.args.tops.now (take low.result l) c.requires.4),
      c.requires.5,
    )

pub returns : goal.returns
returns c =
    let low = c.low_end-low in
    let high = c.high_end-high in
    let under = c.count_below-under in
    let l = c.args.list.now in
    record {
      low = low.result;
      low_end = low.ensures;
      high_end = high.ensures;
      written = c.count_up.ensures ∙ ap (λ z. count_up (segments c.args.s.now) z (take (high.result - low.result) (drop low.result l)) c.args.tops.now) (got w32 under.result under.type_inv under.ensures);
    }
