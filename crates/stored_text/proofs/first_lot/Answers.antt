-- What is left decides.
use mathlib.Core.Path.{◌≡◌, sym, ap, ◌∙◌}
use native.Mathlib.Omega.{arith}
use Prim.Native.Nat.{◌-◌}
use lib.ListN.{length}
use Rattle.refusal.specs.Order.{first_from, first}
use Rattle.refusal.proofs.Order.{step_end}
use Rattle.segm.specs.Segments.{segments}
use Rattle.segm.proofs.Segments.{length-segments, count_inside}
use Rattle.text_forms.specs.declared.Form.TheVariants.{Old}
use Rattle.stored_text.specs.Outcome.{lot_at, lots_of}
use Rattle.stored_text.proofs.first_lot.Goals as goal

pub loop-i-init : goal.loop-i-init
unfolding lots_of first
loop-i-init c =
    let l = c.args.numbers.now in
    let all : length (segments l) ≡ c.count-i-end.result - 0 = omega (arith, c.count-i-end.ensures, length-segments l) in
    ap (λ n. first_from (lot_at Old (segments l)) n 0) all

pub segment_in-t-requires : goal.segment_in-t-requires
segment_in-t-requires c = count_inside c.args.numbers.now c.count-i-end.ensures c.loop-i-test.true

pub returns : goal.returns
returns c = sym (c.loop-i.invariant ∙ step_end (lot_at Old (segments c.args.numbers.now)) c.count-i-end.result c.loop-i.i c.loop-i-test.false)
