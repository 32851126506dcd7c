-- What `write` answered, in C's struct.
use mathlib.Core.Path.{◌≡◌, ap, ◌∙◌}
use mir.Facts.{to_z-of_z}
use Rattle.text.specs.declared.Choices.{Choices}
use Rattle.stored_text.specs.Outcome.{write_outcome}
use Rattle.c_structs.specs.declared.Write.{Write}
use Rattle.overlay.specs.Numbers.{returned_write, write_returned, write_numbers}
use Rattle.overlay.proofs.overlay_write.Goals as goal

pub returns : goal.returns
unfolding write_numbers
returns c =
    let chosen : ◌≡◌ {A = Choices} _ _ = λ i. record { rule = to_z-of_z c.ranges.rule i; invert = to_z-of_z c.ranges.invert i; boundary = to_z-of_z c.ranges.boundary i } in
    ap (λ (a : Write). returned_write a c.write-answer.new.out) c.from.ensures ∙ ap write_returned (c.write-answer.ensures ∙ (λ i. write_outcome c.args.numbers.now (chosen i) c.args.text.now))
