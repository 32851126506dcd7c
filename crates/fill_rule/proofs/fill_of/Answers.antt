-- Three parts, at most 1, 2 and 12.
use mathlib.Core.Path.{◌≡◌, ap, ap₂, ◌∙◌}
use mathlib.Core.Bool.{Bool, cond}
use native.Mathlib.Omega.{arith}
use Prim.Native.Nat.{◌+◌, ◌*◌, ◌≤◌}
use lib.Dec.{lit<}
use lib.IntN.{nat_abs}
use mir.Syntax.{w32}
use mir.Val.{to_z, of_z}
use mir.Facts.{to_z-of_z}
use Rattle.integers.proofs.Machine.{Val, par, to_u, u_is}
use Rattle.fill_rule.specs.FillRule.{filled, fill_of}
use Rattle.fill_rule.proofs.Parts.{bit_bound, bits_abs}
use Rattle.fill_rule.proofs.fill_of.Goals as goal

pub overflow_add-result : goal.overflow_add-result
overflow_add-result c =
    let top_bit : c.bit.result ≡ cond (filled c.args.rule c.args.top) 1 0 =
    c.bit.ensures ∙ ap (λ (b : Bool). cond b 1 0) (c.is_filled.ensures ∙ ap (filled c.args.rule) (to_z-of_z c.ranges.top)) in
    let bottom-bit : c.bit-2.result ≡ cond (filled c.args.rule c.args.bottom) 2 0 =
    c.bit-2.ensures ∙ ap (λ (b : Bool). cond b 2 0) (c.is_filled-2.ensures ∙ ap (filled c.args.rule) (to_z-of_z c.ranges.bottom)) in
    let at-most-1 : c.bit.result ≤ 1 =
    omega (arith, top_bit, bit_bound (filled c.args.rule c.args.top) 1) in
    let at-most-2 : c.bit-2.result ≤ 2 =
    omega (arith, bottom-bit, bit_bound (filled c.args.rule c.args.bottom) 2) in
    record { fits = omega (arith, at-most-1, at-most-2) }

pub overflow_cast-result : goal.overflow_cast-result
overflow_cast-result c =
    let bits : Val 3 (to_z w32 (of_z w32 c.args.bits)) c.args.bits =
    par c.ranges.bits (bits_abs c.args.bits c.requires) in
    to_u bits c.requires.0 (lit< tt)

pub overflow_mul-result : goal.overflow_mul-result
overflow_mul-result c =
    let bits : Val 3 (to_z w32 (of_z w32 c.args.bits)) c.args.bits =
    par c.ranges.bits (bits_abs c.args.bits c.requires) in
    let at-most-3 : nat_abs (to_z w32 (of_z w32 c.args.bits)) ≤ 3 =
    omega (arith, u_is bits, bits.bound) in
    record { fits = omega (arith, at-most-3) }

pub overflow_add-result-2 : goal.overflow_add-result-2
overflow_add-result-2 c =
    let top_bit : c.bit.result ≡ cond (filled c.args.rule c.args.top) 1 0 =
    c.bit.ensures ∙ ap (λ (b : Bool). cond b 1 0) (c.is_filled.ensures ∙ ap (filled c.args.rule) (to_z-of_z c.ranges.top)) in
    let bottom-bit : c.bit-2.result ≡ cond (filled c.args.rule c.args.bottom) 2 0 =
    c.bit-2.ensures ∙ ap (λ (b : Bool). cond b 2 0) (c.is_filled-2.ensures ∙ ap (filled c.args.rule) (to_z-of_z c.ranges.bottom)) in
    let bits : Val 3 (to_z w32 (of_z w32 c.args.bits)) c.args.bits =
    par c.ranges.bits (bits_abs c.args.bits c.requires) in
    let at-most-1 : c.bit.result ≤ 1 =
    omega (arith, top_bit, bit_bound (filled c.args.rule c.args.top) 1) in
    let at-most-2 : c.bit-2.result ≤ 2 =
    omega (arith, bottom-bit, bit_bound (filled c.args.rule c.args.bottom) 2) in
    let at-most-3 : nat_abs (to_z w32 (of_z w32 c.args.bits)) ≤ 3 =
    omega (arith, u_is bits, bits.bound) in
    record { fits = omega (arith, at-most-1, at-most-2, at-most-3) }

pub returns : goal.returns
unfolding fill_of
returns c =
    let top_bit : c.bit.result ≡ cond (filled c.args.rule c.args.top) 1 0 =
    c.bit.ensures ∙ ap (λ (b : Bool). cond b 1 0) (c.is_filled.ensures ∙ ap (filled c.args.rule) (to_z-of_z c.ranges.top)) in
    let bottom-bit : c.bit-2.result ≡ cond (filled c.args.rule c.args.bottom) 2 0 =
    c.bit-2.ensures ∙ ap (λ (b : Bool). cond b 2 0) (c.is_filled-2.ensures ∙ ap (filled c.args.rule) (to_z-of_z c.ranges.bottom)) in
    let bits : Val 3 (to_z w32 (of_z w32 c.args.bits)) c.args.bits =
    par c.ranges.bits (bits_abs c.args.bits c.requires) in
    ap₂ ◌+◌ (ap₂ ◌+◌ top_bit bottom-bit) (ap (λ n. 4 * n) (u_is bits))
