-- The entries passed have their side bits left.
use Rattle.std.proofs.Common.{refl, ap, ◌∙◌, List, map, ℕ, ◌%◌, arith}
use lib.ListN.{length-map}
use lib.Seq.{take_all}
use Rattle.lists.specs.Written.{written}
use Rattle.lists.proofs.Written.{written_whole}
use Rattle.string_slice.proofs.SliceContours.{next_side}
use Rattle.string_slice.proofs.walks.keep_sides.Goals as goal

pub loop-f-init : goal.loop-f-init
unfolding written
loop-f-init c = refl

pub loop-f-preserved : goal.loop-f-preserved
loop-f-preserved c =
    next_side (λ f. f % 4) c.args.fills.now c.loop-f.fills c.loop-f.f-index c.loop-f.invariant c.loop-f-test.true

pub returns : goal.returns
returns c =
    let old = c.args.fills.now in
    c.loop-f.invariant
    ∙ ap (λ (l : List ℕ). written (map (λ f. f % 4) l) old) (take_all c.loop-f.f-index old c.loop-f-test.false)
    ∙ written_whole (map (λ f. f % 4) old) old (omega (arith, length-map old (λ f. f % 4)))
