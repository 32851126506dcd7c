-- What is passed is written.
use mathlib.Core.Path.{◌≡◌, refl, sym, ap, ap₂, ◌∙◌}
use mathlib.Core.List.{List}
use native.Mathlib.Omega.{arith}
use native.Mathlib.Numerals.{add-one}
use borrow.Author.Rules.{rules}
use lib.ListN.{length, take, set, get_or, length-take, length-set}
use lib.Seq.{take-suc, take_all}
use lib.IntN.{ℤ, pos}
use mir.Syntax.{w32}
use mir.Val.{SFits}
use mir.Facts.{to_z-of_z}
use Rattle.lists.specs.Written.{written}
use Rattle.lists.proofs.Written.{written_more}
use Rattle.contour.proofs.copy.Goals as goal

pub loop-k-init : goal.loop-k-init
unfolding written
loop-k-init c = (refl, refl)

pub loop-k-preserved : goal.loop-k-preserved
loop-k-preserved c =
    let points = c.args.points.now in
    let k = c.loop-k.k in
    let z = get_or points k (pos 0) in
    let f : SFits w32 z = search rules in
    let n : k ≡ length (take k points) = sym (length-take k points ∙ omega (arith, c.loop-k-test.true)) in (
      length-set c.loop-k.out k _ ∙ c.loop-k.invariant.0,
      ap₂ (λ (t : List ℤ) (v : ℤ). set t k v) c.loop-k.invariant.1 (to_z-of_z f)
          ∙ written_more (take k points) c.args.out.now k z n (omega (arith, c.loop-k-test.true, c.requires))
          ∙ ap (λ (a : List ℤ). written a c.args.out.now) (sym (ap (λ m. take m points) (add-one k) ∙ take-suc points k (pos 0) c.loop-k-test.true)),
    )

pub returns : goal.returns
returns c = c.loop-k.invariant.1 ∙ ap (λ (a : List ℤ). written a c.args.out.now) (take_all c.loop-k.k c.args.points.now (omega (arith, c.loop-k-test.false)))
