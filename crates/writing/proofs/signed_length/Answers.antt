-- The digits, and one for the minus.
use mathlib.Core.Path.{◌≡◌, ap, ◌∙◌}
use Prim.Native.Nat.{◌+◌}
use native.Mathlib.Omega.{arith}
use lib.IntN.{pos, nat_abs}
use lib.Signed.{lt_z}
use mir.Val.{bool_byte}
use mir.Facts.{to_z-of_z}
use Rattle.writing.specs.Lengths.{digits_in, signed_length}
use Rattle.writing.proofs.Lengths.{sign_and_digits, at_most_21}
use Rattle.writing.proofs.signed_length.Goals as goal

counted : (c : goal.After-from-2) → c.decimal_length.result + c.from-2.result ≡ signed_length c.args.z
counted c =
    let z = to_z-of_z c.ranges.z in
    let digits = c.decimal_length.ensures ∙ ap digits_in (c.from.ensures ∙ c.unsigned_abs.ensures.value ∙ ap nat_abs z) in
    let sign = c.from-2.ensures ∙ ap (λ y. bool_byte (lt_z y (pos 0))) z in
    omega (arith, digits, sign, sign_and_digits c.args.z)

pub overflow_add-result : goal.overflow_add-result
overflow_add-result c = omega (arith, counted c, at_most_21 c.args.z)

pub returns : goal.returns
returns c = counted c
