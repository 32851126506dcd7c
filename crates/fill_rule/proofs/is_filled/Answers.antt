-- The rule decides the arm, and each arm is the definition's test.
use mathlib.Core.Path.{◌≡◌, sym, ap, subst, ◌∙◌}
use mathlib.Core.Bool.{not}
use lib.Dec.{eqb, lit<}
use lib.IntN.{ℤ, pos}
use lib.Signed.{lt_z, rem_z}
use mir.Syntax.{w32}
use mir.Val.{SFits, of_z}
use mir.Facts.{to_z-of_z}
use Rattle.integers.proofs.Parity.{half_fits, odd}
use Rattle.geom.proofs.Points.{bits_eq_z}
use Rattle.fill_rule.specs.declared.Rule.{Rule}
use Rattle.fill_rule.specs.FillRule.{filled}
use Rattle.fill_rule.proofs.is_filled.Goals as goal

pub nonzero_rem-result : goal.nonzero_rem-result
nonzero_rem-result c = let f = c.ranges.count in (lit< tt, half_fits (subst (SFits w32) (sym (to_z-of_z f)) f))

-- the rule that led to an arm
at : {r q : Rule} (n : ℤ) → r ≡ q → filled q n ≡ filled r n
at n e = ap (λ (i : Rule). filled i n) (sym e)

pub returns-in-EvenOdd : goal.returns-in-EvenOdd
unfolding filled
returns-in-EvenOdd c =
    ap (λ z. not (eqb (of_z w32 (rem_z z (pos 2))) 0)) (to_z-of_z c.ranges.count) ∙ odd c.args.count ∙ at c.args.count c.in-EvenOdd.is

pub returns-in-NonZero : goal.returns-in-NonZero
unfolding filled
returns-in-NonZero c =
    ap not (bits_eq_z w32 c.args.count (pos 0) c.ranges.count.sfits (lit< tt)) ∙ at c.args.count c.in-NonZero.is

pub returns-in-Positive : goal.returns-in-Positive
unfolding filled
returns-in-Positive c = ap (lt_z (pos 0)) (to_z-of_z c.ranges.count) ∙ at c.args.count c.in-Positive.is

pub returns-in-Negative : goal.returns-in-Negative
unfolding filled
returns-in-Negative c = ap (λ z. lt_z z (pos 0)) (to_z-of_z c.ranges.count) ∙ at c.args.count c.in-Negative.is
