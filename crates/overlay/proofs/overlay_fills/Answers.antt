-- What `fills` answered, in C's struct.
use mathlib.Core.Path.{ap, ◌∙◌}
use lib.IntN.{ℤ}
use mir.Facts.{to_z-of_z}
use Rattle.build.specs.Fills.{Outcome, fills_outcome}
use Rattle.c_structs.specs.declared.Fills.{Fills}
use Rattle.c_structs.specs.Structs.{fills_struct}
use Rattle.overlay.specs.Numbers.{returned, fills_numbers}
use Rattle.overlay.proofs.overlay_fills.Goals as goal

pub returns : goal.returns
unfolding fills_numbers
returns c =
    ap (λ (a : Fills). returned a c.fills-answer.new.fills) c.from.ensures
    ∙ ap (λ (o : Outcome). returned (fills_struct o.numbers) o.list)
    (c.fills-answer.ensures ∙ ap (λ (z : ℤ). fills_outcome c.args.numbers.now z c.args.fills.now) (to_z-of_z c.ranges.rule))
