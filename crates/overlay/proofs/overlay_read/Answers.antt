-- What `read` answered, in C's struct.
use mathlib.Core.Path.{ap, ◌∙◌}
use Rattle.text.specs.Storing.{Outcome}
use Rattle.c_structs.specs.declared.Read.{Read}
use Rattle.c_structs.specs.Structs.{read_struct}
use Rattle.overlay.specs.Numbers.{returned_read, read_numbers}
use Rattle.overlay.proofs.overlay_read.Goals as goal

pub returns : goal.returns
unfolding read_numbers
returns c =
    ap (λ (a : Read). returned_read a c.read-answer.new.numbers) c.from.ensures
    ∙ ap (λ (o : Outcome). returned_read (read_struct o.numbers) o.list)
    c.read-answer.ensures
