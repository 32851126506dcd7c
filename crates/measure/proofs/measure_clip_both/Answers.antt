-- Each of the two runs is as defined.
use mathlib.Core.Path.{◌≡◌, ap₂, ◌∙◌}
use lib.IntN.{pos}
use mir.Facts.{to_z-of_z}
use Rattle.clip_both.specs.declared.Both.{Both}
use Rattle.string_clip.specs.Run.{Lists, lists, outcome, clip_outcome}
use Rattle.measure.specs.Numbers.{returned_both, of_both, both_numbers}
use Rattle.measure.proofs.measure_clip_both.Goals as goal

pub returns : goal.returns
unfolding both_numbers
returns c =
    let inside : Lists =
    lists c.args.inside_points.now c.args.inside_lengths.now in
    let outside : Lists =
    lists c.args.outside_points.now c.args.outside_lengths.now in
    let both : Both =
    c.clip_both-both.result in
    let inside-after : Lists =
    lists c.clip_both-both.new.inside_points c.clip_both-both.new.inside_lengths in
    let outside-after : Lists =
    lists c.clip_both-both.new.outside_points c.clip_both-both.new.outside_lengths in
    let are : of_both (outcome both.inside inside-after) (outcome both.outside outside-after) ≡ both_numbers c.args.numbers.now c.args.rule c.args.boundary inside outside =
    ap₂ of_both
    (c.clip_both-both.ensures.inside_is ∙ (λ i. clip_outcome c.args.numbers.now (to_z-of_z c.ranges.rule i) (pos 0) (to_z-of_z c.ranges.boundary i) inside))
    (c.clip_both-both.ensures.outside_is ∙ (λ i. clip_outcome c.args.numbers.now (to_z-of_z c.ranges.rule i) (pos 1) (to_z-of_z c.ranges.boundary i) outside)) in
    (λ i. returned_both (record { inside = c.from.ensures i; outside = c.from-2.ensures i }) inside-after outside-after)
    ∙ are
