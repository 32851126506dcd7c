-- Equal bits are equal coordinates.
use mathlib.Core.Path.{ap₂, ◌∙◌}
use native.Mathlib.Omega.{arith}
use mir.Syntax.{w32}
use Rattle.geom.specs.declared.Point.{Point}
use Rattle.geom.specs.Points.{eq_z}
use Rattle.geom.proofs.Points.{bits_eq_z}
use Rattle.meeting_sweep.proofs.at_one_x.Goals as goal

pub returns : goal.returns
returns c =
    bits_eq_z w32 c.end_point-p.result.x c.end_point-q.result.x (omega arith) (omega arith)
    ∙ ap₂ (λ (p q : Point). eq_z p.x q.x) c.end_point-p.ensures c.end_point-q.ensures
