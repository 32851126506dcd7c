-- What `slice` answered, in C's struct.
use mathlib.Core.Path.{ap, ◌∙◌}
use mir.Facts.{to_z-of_z}
use Rattle.string_slice.specs.Run.{lists, Outcome, slice_outcome}
use Rattle.c_structs.specs.declared.Slice.{Slice}
use Rattle.c_structs.specs.Structs.{slice_struct}
use Rattle.overlay.specs.Numbers.{returned_slice, slice_numbers}
use Rattle.overlay.proofs.overlay_slice.Goals as goal

pub returns : goal.returns
unfolding slice_numbers
returns c =
    ap (λ (a : Slice). returned_slice a (lists c.slice-answer.new.points c.slice-answer.new.lengths c.slice-answer.new.roles)) c.from.ensures
    ∙ ap (λ (o : Outcome). returned_slice (slice_struct o.numbers) o.lists)
    (c.slice-answer.ensures ∙ (λ i. slice_outcome c.args.numbers.now (to_z-of_z c.ranges.rule i) (to_z-of_z c.ranges.direction i) c.args.min_area (lists c.args.points.now c.args.lengths.now c.args.roles.now)))
