-- The three flags are those of the definition.
use mathlib.Core.Path.{◌∙◌}
use mir.Facts.{to_z-of_z}
use Rattle.integers.proofs.Booleans.{or_false}
use Rattle.lists.specs.Members.{any}
use Rattle.refusal.proofs.Asked.{same_asked}
use Rattle.checks.specs.Runs.{clip_run, asked}
use Rattle.checks.proofs.ask_clip.Goals as goal

pub returns : goal.returns
unfolding clip_run asked any
returns c =
    let n = c in
    let s = n in
    c.asked_first.ensures ∙ same_asked c.is_wrong.ensures
    (rw (to_z-of_z s.ranges.rule, to_z-of_z s.ranges.invert, to_z-of_z s.ranges.boundary) at c.is_unknown_clip.ensures)
    (simp (c.is_short.ensures, c.is_short-2.ensures, n.count-n.ensures, or_false))
