-- What `clip` answered, in C's struct.
use mathlib.Core.Path.{ap, ◌∙◌}
use mir.Facts.{to_z-of_z}
use Rattle.string_clip.specs.Run.{lists, Outcome, clip_outcome}
use Rattle.c_structs.specs.declared.Clip.{Clip}
use Rattle.c_structs.specs.Structs.{clip_struct}
use Rattle.overlay.specs.Numbers.{returned_clip, clip_numbers}
use Rattle.overlay.proofs.overlay_clip.Goals as goal

pub returns : goal.returns
unfolding clip_numbers
returns c =
    ap (λ (a : Clip). returned_clip a (lists c.clip-answer.new.points c.clip-answer.new.lengths)) c.from.ensures
    ∙ ap (λ (o : Outcome). returned_clip (clip_struct o.numbers) o.lists)
    (c.clip-answer.ensures ∙ (λ i. clip_outcome c.args.numbers.now (to_z-of_z c.ranges.rule i) (to_z-of_z c.ranges.invert i) (to_z-of_z c.ranges.boundary i) (lists c.args.points.now c.args.lengths.now)))
