-- Each of the three is a known choice.
use mir.Facts.{to_z-of_z}
use Rattle.integers.proofs.Booleans.{or_false}
use Rattle.lists.specs.Members.{any}
use Rattle.checks.proofs.is_unknown_clip.Goals as goal

pub returns : goal.returns
unfolding any
returns c =
    let s = c in
    simp (c.is_unknown.ensures, c.is_unknown-2.ensures, c.is_unknown-3.ensures, to_z-of_z s.ranges.rule, to_z-of_z s.ranges.invert, to_z-of_z s.ranges.boundary, or_false)
