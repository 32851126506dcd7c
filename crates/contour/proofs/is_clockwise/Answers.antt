-- The sum is negative.
use mathlib.Core.Path.{ap}
use lib.IntN.{ℤ, pos}
use lib.Signed.{lt_z}
use mir.Syntax.{w64}
use Rattle.integers.proofs.Machine.{got}
use Rattle.contour.specs.Area.{is_clockwise}
use Rattle.contour.proofs.is_clockwise.Goals as goal

pub returns : goal.returns
unfolding is_clockwise
returns c = ap (λ (z : ℤ). lt_z z (pos 0)) (got w64 c.shoelace.result c.shoelace.type_inv c.shoelace.ensures)
