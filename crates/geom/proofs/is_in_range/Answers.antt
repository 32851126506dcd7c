-- Each coordinate is within the limits.
use mathlib.Core.Path.{◌≡◌, sym, ap, ◌∙◌}
use native.Mathlib.Omega.{arith}
use mir.Syntax.{w32}
use Rattle.integers.proofs.Machine.{read}
use Rattle.geom.specs.Points.{coordinate, in_range}
use Rattle.geom.proofs.is_in_range.Goals as goal
use Rattle.geom.proofs.is_in_range.Lts
use Rattle.geom.proofs.is_in_range.Reads
use Rattle.geom.proofs.is_in_range.Tie

abbrev After-is_within : Type 0
After-is_within = Lts.After-is_within Tie.the-claims Reads.Pre Reads.Post

-- the first call, at the coordinate itself
first : (c : After-is_within) → c.is_within.result ≡ coordinate c.before.before.args.p.x
unfolding coordinate
first c = c.is_within.ensures ∙ ap coordinate (read w32 c.before.before.args.p.x (omega arith))

pub returns-then-is_within : goal.returns-then-is_within
unfolding in_range coordinate
returns-then-is_within c =
    let d = c.before.before.before in
    let p = d.before.before.args.p in
    c.is_within-then-is_within.ensures ∙ ap coordinate (read w32 p.y (omega arith)) ∙ sym (simp (sym (first d) ∙ c.before.before.if-is_within.true))

pub returns-else-is_within : goal.returns-else-is_within
unfolding in_range
returns-else-is_within c = c.if-is_within.false ∙ sym (simp (sym (first c.before) ∙ c.if-is_within.false))
