-- Both tests are of the number itself.
use mathlib.Core.Path.{refl, sym, ◌∙◌}
use Rattle.integers.proofs.Machine.{any, flag_le}
use Rattle.geom.specs.Points.{within}
use Rattle.geom.proofs.is_within.Goals as goal

pub returns-then-low-z : goal.returns-then-low-z
unfolding within
returns-then-low-z c =
    let s = c.before in
    sym (simp (flag_le (any s.ranges.low) (any s.ranges.z) c.if-low-z.true) (flag_le (any s.ranges.z) (any s.ranges.high) refl))

pub returns-else-low-z : goal.returns-else-low-z
unfolding within
returns-else-low-z c =
    let s = c.before in
    c.if-low-z.false ∙ sym (simp (flag_le (any s.ranges.low) (any s.ranges.z) c.if-low-z.false))
