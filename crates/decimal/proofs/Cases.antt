-- Somes by computing.
use mathlib.Core.Path.{◌≡◌, refl}
use Prim.Native.String.{String}
use lib.IntN.{ℤ, pos, negsuc}
use Rattle.std.specs.Prelude.{Option, Some, None}
use Rattle.decimal.specs.Decimal.{worth, positive, field_of, digits, decimal, signed}
use Rattle.decimal.proofs.Spelled.{bytes}

abbrev field : String → Option ℤ
field s = field_of (bytes s)

pub record Cases : Type 0 where
  pub zero : field "0" ≡ Some (pos 0)
  pub nine_digits : field "-999999999" ≡ Some (negsuc 999999998)
  pub ten_digits : field "1000000000" ≡ None
  pub leading_zero : field "01" ≡ None
  pub minus_zero : field "-0" ≡ None
  pub lone_minus : field "-" ≡ None
  pub two_minuses : field "--1" ≡ None
  pub plus : field "+1" ≡ None
  pub blank : field " 1" ≡ None
  pub no_byte : field "" ≡ None
  pub written : signed (negsuc 1029) ≡ bytes "-1030"

pub cases : Cases
unfolding worth positive field_of digits decimal signed
cases = record { zero = refl; nine_digits = refl; ten_digits = refl; leading_zero = refl; minus_zero = refl; lone_minus = refl; two_minuses = refl; plus = refl; blank = refl; no_byte = refl; written = refl }
