-- What `move_text` answered, in C's struct.
use mathlib.Core.Path.{ap, ◌∙◌}
use Rattle.c_structs.specs.declared.Write.{Write}
use Rattle.overlay.specs.Numbers.{returned_write, write_returned, move_numbers}
use Rattle.overlay.proofs.overlay_old_to_new.Goals as goal

pub returns : goal.returns
unfolding move_numbers
returns c =
    ap (λ (a : Write). returned_write a c.move_text-answer.new.out) c.from.ensures ∙ ap write_returned c.move_text-answer.ensures
