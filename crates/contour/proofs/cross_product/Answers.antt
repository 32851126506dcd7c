-- About the origin.
use mathlib.Core.Path.{◌∙◌}
use mir.Syntax.{w64}
use Rattle.integers.proofs.Machine.{got}
use Rattle.contour.proofs.Area.{cross-origin, origin_near}
use Rattle.contour.proofs.cross_product.Goals as goal

pub cross-requires : goal.cross-requires
cross-requires c = (origin_near, c.requires.0, c.requires.1)

pub returns : goal.returns
returns c = got w64 c.cross.result c.cross.type_inv c.cross.ensures ∙ cross-origin c.before.args.p c.before.args.q
