-- What `split` answered, in C's struct.
use mathlib.Core.Path.{ap, ◌∙◌}
use Rattle.string_split.specs.Run.{lists, Outcome}
use Rattle.c_structs.specs.declared.Split.{Split}
use Rattle.c_structs.specs.Structs.{split_struct}
use Rattle.overlay.specs.Numbers.{returned_split, split_numbers}
use Rattle.overlay.proofs.overlay_split.Goals as goal

pub returns : goal.returns
unfolding split_numbers
returns c =
    ap (λ (a : Split). returned_split a (lists c.split-answer.new.out c.split-answer.new.lengths)) c.from.ensures
    ∙ ap (λ (o : Outcome). returned_split (split_struct o.numbers) o.lists)
    c.split-answer.ensures
