-- Below ten to as many digits as were read.
use mathlib.Core.Path.{◌≡◌, sym, ap, ◌∙◌}
use mathlib.Core.Bool.{true}
use Prim.Native.Nat.{ℕ, ◌+◌, ◌*◌, ◌^◌, ◌≤◌}
use native.Mathlib.Nat.{pow-suc, pow-le-pow_right}
use native.Mathlib.Numerals.{add-one}
use native.Mathlib.Omega.{arith}
use lib.Dec.{lit<}
use lib.IntN.{ℤ}
use lib.ListN.{get_or, drop}
use Rattle.std.specs.Prelude.{Some}
use Rattle.std.specs.Char.{is_ascii_digit}
use Rattle.std.proofs.lemmas.Int.{ints}
use Rattle.decimal.specs.Decimal.{worth}
use Rattle.decimal.proofs.Decimal.{digit}
use Rattle.decimal.proofs.Reading.{worth_more, worth_none}
use Rattle.decimal.proofs.positive.Goals as goal

tens : (k m : ℕ) → k ≤ m → 10 ^ k ≤ 10 ^ m
tens k m h = pow-le-pow_right (lit< tt) h

ten : (k : ℕ) → 10 ^ (k + 1) ≡ 10 ^ k * 10
ten k = rw (add-one, pow-suc)

pub overflow_mul-v : goal.overflow_mul-v
overflow_mul-v c = omega (arith, tens c.loop-b.b-index 8 (omega arith))

pub overflow_add-v : goal.overflow_add-v
overflow_add-v c = omega (arith, tens c.loop-b.b-index 8 (omega arith))

pub loop-b-preserved : goal.loop-b-preserved
loop-b-preserved c =
    let s = c.args.s.now in
    let i = c.loop-b.b-index in
    let d : is_ascii_digit (get_or s i 0) ≡ true = sym c.is_ascii_digit.ensures.value ∙ c.if-not-is_ascii_digit.false in
    record {
      few = omega arith;
      small = omega (arith, ten i, digit (get_or s i 0) d, c.loop-b.invariant.small);
      rest = c.loop-b.invariant.rest ∙ worth_more s i c.loop-b.v c.loop-b-test.true d ∙ ap (λ x. worth (c.loop-b.v * 10 + x) (drop (i + 1) s)) (sym c.from.ensures);
    }

pub returns : goal.returns
returns c =
    let e = c.loop-b.invariant.rest ∙ worth_none c.args.s.now c.loop-b.b-index c.loop-b.v c.loop-b-test.false in
    rw e (ap (λ (z : ℤ). Some z) (omega (arith, ints, c.loop-b.invariant.small, tens c.loop-b.b-index 9 (omega arith))))
