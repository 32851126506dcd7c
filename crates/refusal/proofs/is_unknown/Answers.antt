-- The choice is not within its limits.
use mathlib.Core.Path.{ap, ap₂, ◌∙◌}
use mathlib.Core.Bool.{not}
use lib.IntN.{pos}
use mir.Facts.{to_z-of_z}
use Rattle.geom.specs.Points.{within}
use Rattle.refusal.specs.Asked.{unknown_choice}
use Rattle.refusal.proofs.is_unknown.Goals as goal

pub returns : goal.returns
unfolding unknown_choice
returns c =
    let s = c.before in
    ap not (c.is_within.ensures ∙ ap₂ (within (pos 0)) (to_z-of_z s.ranges.greatest) (to_z-of_z s.ranges.choice))
