-- The machine's cross product is the side, and where that does not decide the end does.
use mathlib.Core.Path.{sym, ap, ◌∙◌}
use lib.IntN.{pos}
use lib.Signed.{lt_z}
use Rattle.integers.proofs.Booleans.{or_l}
use Rattle.strip.specs.Strip.{above}
use Rattle.verticals.specs.Verticals.{lies_under}
use Rattle.verticals.proofs.Sides.{side_got, start_got}
use Rattle.verticals.proofs.lies_under.Goals as goal

pub returns-then-under : goal.returns-then-under
unfolding lies_under above
returns-then-under c = c.if-under.true ∙ sym (or_l _ (ap (lt_z (pos 0)) (sym (side_got c.segment_in-t.ensures c.args.p c.cross-under.result c.cross-under.type_inv c.cross-under.ensures)) ∙ c.if-under.true))

pub returns-else-under : goal.returns-else-under
unfolding lies_under above
returns-else-under c = start_got c.segment_in-t.ensures c.args.p (ap (lt_z (pos 0)) (sym (side_got c.segment_in-t.ensures c.args.p c.cross-under.result c.cross-under.type_inv c.cross-under.ensures)) ∙ c.if-under.false) c.same.ensures
