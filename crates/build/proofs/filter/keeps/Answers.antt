-- The ones of the masked fill are its sides set.
use mathlib.Core.Path.{ap, ◌∙◌}
use mathlib.Core.Bool.{Bool, not, ◌&&◌}
use Prim.Native.Nat.{◌/◌}
use lib.Dec.{eqb}
use Rattle.build.specs.Links.{keeps_sides, keeps}
use Rattle.build.proofs.Links.{ones-set}
use Rattle.build.proofs.filter.keeps.Goals as goal

pub returns : goal.returns
unfolding keeps
returns c =
    let a = c.args in
    ap (λ (b : Bool). not (eqb (a.fill / 4) 0) && b) (c.keeps_sides.ensures ∙ ap (keeps_sides a.filter) (ones-set a.fill))
