-- A loop is turned round where the definition turns it.
use mathlib.Core.Path.{◌∙◌}
use Rattle.contour.proofs.Contour.OneContour.{role_is, turned, left}
use Rattle.contour.proofs.finish.Goals as goal
use Rattle.contour.proofs.finish.Goals.{then-hole-clockwise, else-hole-clockwise}

pub returns : goal.returns
returns c =
    let a = c.args in
    let order = c.is_clockwise-order.ensures in (
      c.from.ensures ∙ role_is a.clockwise a.direction a.points.now order,
      elim c.if-hole-clockwise.branch [
        | then-hole-clockwise w ↦ w.points-is ∙ w.reverse.ensures ∙ turned a.clockwise a.direction a.points.now order w.if-hole-clockwise.true
        | else-hole-clockwise w ↦ w.points-is ∙ left a.clockwise a.direction a.points.now order c.requires.0 w.if-hole-clockwise.false
      ],
    )
