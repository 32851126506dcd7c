-- The three flags are those of the definition.
use mathlib.Core.Path.{◌∙◌}
use mir.Facts.{to_z-of_z}
use Rattle.integers.proofs.Booleans.{or_false}
use Rattle.lists.specs.Members.{any}
use Rattle.refusal.proofs.Asked.{same_asked}
use Rattle.checks.specs.Runs.{slice_run, asked}
use Rattle.checks.proofs.ask_slice.Goals as goal

pub returns : goal.returns
unfolding slice_run asked any
returns c =
    let s = c in
    let n = c in
    let w = c in
    c.asked_first.ensures ∙ same_asked w.is_wrong.ensures
    (simp (c.is_unknown.ensures, c.is_unknown-2.ensures, to_z-of_z s.ranges.rule, to_z-of_z s.ranges.direction, or_false))
    (simp (c.is_short.ensures, c.is_short-2.ensures, c.is_short-3.ensures, n.count-n.ensures, or_false))
