-- Fill rules: which counts are filled, and the fill of a segment with two counts. The contracts of `fill_rule` cite these.
use Rattle.std.specs.Prelude.{Bool, not, cond, ℕ, ◌+◌, ◌*◌, ◌%◌, eqb, ℤ, pos, nat_abs}
use Rattle.std.specs.Int.Signed.{lt_z}
use Rattle.geom.specs.Points.{eq_z}
use Rattle.fill_rule.specs.declared.Rule.{Rule}
use Rattle.fill_rule.specs.declared.Rule.TheVariants.{EvenOdd, NonZero, Positive, Negative}

-- the rule holds of a side's count: SVG 2's fill-rule evenodd (a negative count is odd where its size is) and nonzero,
-- GLU 1.3's GLU_TESS_WINDING_POSITIVE and GLU_TESS_WINDING_NEGATIVE
unfoldable pub filled : Rule → ℤ → Bool
filled EvenOdd n = eqb (nat_abs n % 2) 1
filled NonZero n = not (eq_z n (pos 0))
filled Positive n = lt_z (pos 0) n
filled Negative n = lt_z n (pos 0)

-- rules: 0 even-odd, 1 nonzero, 2 positive, 3 negative. (No other number passes refusal 10)
unfoldable pub rule_of : ℤ → Rule
rule_of z = cond (eq_z z (pos 0)) EvenOdd (cond (eq_z z (pos 1)) NonZero (cond (eq_z z (pos 2)) Positive Negative))

-- the fill: 1 if the top is filled, plus 2 if the bottom is, plus 4 times the line bits
unfoldable pub fill_of : Rule → (top bottom bits : ℤ) → ℕ
fill_of rule top bottom bits = cond (filled rule top) 1 0 + cond (filled rule bottom) 2 0 + 4 * nat_abs bits
