-- The machine's cross product is the side, and where that does not decide the end does.
use mathlib.Core.Path.{sym, ap, ◌∙◌}
use lib.IntN.{pos}
use lib.Signed.{lt_z}
use Rattle.integers.proofs.Booleans.{or_l}
use Rattle.verticals.specs.Verticals.{lies_above}
use Rattle.verticals.proofs.Sides.{side_got, start_got}
use Rattle.verticals.proofs.lies_above.Goals as goal

pub returns-then-above : goal.returns-then-above
unfolding lies_above
returns-then-above c = c.if-above.true ∙ sym (or_l _ (ap (λ z. lt_z z (pos 0)) (sym (side_got c.segment_in-t.ensures c.args.p c.cross-above.result c.cross-above.type_inv c.cross-above.ensures)) ∙ c.if-above.true))

pub returns-else-above : goal.returns-else-above
unfolding lies_above
returns-else-above c = start_got c.segment_in-t.ensures c.args.p (ap (λ z. lt_z z (pos 0)) (sym (side_got c.segment_in-t.ensures c.args.p c.cross-above.result c.cross-above.type_inv c.cross-above.ensures)) ∙ c.if-above.false) c.same.ensures
