-- What std prints of a number is how it is written.
use mathlib.Core.Path.{◌≡◌, sym, ap, ◌∙◌}
use mathlib.Core.List.{[], append-nil}
use Prim.Native.Nat.{ℕ, suc, ◌^◌, ◌<◌}
use native.Mathlib.Omega.{arith}
use lib.IntN.{ℤ, pos, negsuc}
use mathlib.Core.List.{◌∷◌, List}
use lib.Signed.{mag}
use Rattle.std.specs.Fmt as std
use Rattle.std.proofs.lemmas.Fmt.{decimal_from_prepends, length-decimal-le}
use Rattle.decimal.specs.Decimal.{digits, decimal, signed}
use Rattle.decimal.proofs.Decimal.{digits-one, digits_more}

pub printed : (n : ℕ) → n < 2 ^ 64 → std.decimal n ≡ decimal n
unfolding decimal
printed n h =
    let few = length-decimal-le 20 n (omega arith) (omega arith) h in
    sym (append-nil (std.decimal n)) ∙ sym (decimal_from_prepends digits (record { one = digits-one; more = digits_more }) 20 n [] h few)

pub printed_signed : (z : ℤ) → mag z < 2 ^ 63 → std.signed_decimal z ≡ signed z
unfolding signed
printed_signed (pos n) h = printed n (omega arith)
printed_signed (negsuc n) h = ap (λ (s : List ℕ). 45 ∷ s) (printed (suc n) (omega arith))
