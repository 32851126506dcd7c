-- Equal bits are equal coordinates.
use native.Mathlib.Omega.{arith}
use mir.Syntax.{w32}
use Rattle.geom.proofs.Points.{bits_eq_z}
use Rattle.strip.specs.Strip.{is_vertical}
use Rattle.scan.proofs.is_vertical.Goals as goal

pub returns : goal.returns
unfolding is_vertical
returns c = let t = c.args.t in bits_eq_z w32 t.a.x t.b.x (omega arith) (omega arith)
