-- No list can be too short.
use Rattle.std.proofs.Common.{refl, ◌∙◌}
use mir.Facts.{to_z-of_z}
use Rattle.lists.specs.Members.{any}
use Rattle.refusal.proofs.Asked.{same_asked}
use Rattle.checks.specs.Runs.{asked}
use Rattle.checks.proofs.ask_input.Goals as goal

pub returns : goal.returns
unfolding asked any
returns c =
    c.asked_first.ensures ∙ same_asked c.is_wrong.ensures
    (rw (to_z-of_z c.ranges.rule, to_z-of_z c.ranges.invert, to_z-of_z c.ranges.boundary) at c.is_unknown_clip.ensures)
    refl
