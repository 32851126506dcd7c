-- Lengths by computing.
use mathlib.Core.Path.{◌≡◌, refl}
use mathlib.Core.List.{[], ◌∷◌, map, flatten}
use Prim.Native.Nat.{◌^◌, ◌-◌}
use lib.IntN.{pos, negsuc}
use Rattle.lists.specs.Sums.{tally}
use Rattle.decimal.specs.Decimal.{digits, decimal, signed}
use Rattle.decimal.proofs.Spelled.{bytes}
use Rattle.writing.specs.Lines.{joined, line_of, text_of}
use Rattle.writing.specs.Lengths.{digits_up_to, digits_in, signed_length, line_length, row_length, text_length}

pub record Cases : Type 0 where
  pub zero : digits_in 0 ≡ 1
  pub nine : digits_in 9 ≡ 1
  pub ten : digits_in 10 ≡ 2
  pub largest : digits_in (2 ^ 64 - 1) ≡ 20
  pub minus_one : signed_length (negsuc 0) ≡ 2
  -- -16,777,216 and 16,777,216
  pub lowest : signed_length (negsuc 16777215) ≡ 9
  pub highest : signed_length (pos 16777216) ≡ 8
  pub no_field : row_length [] ≡ 1
  pub line : row_length (negsuc 4 ∷ pos 5 ∷ pos 0 ∷ pos 10 ∷ []) ≡ 10
  pub line_bytes : line_of (map signed (negsuc 4 ∷ pos 5 ∷ pos 0 ∷ pos 10 ∷ [])) ≡ bytes "-5,5,0,10\n"
  pub text : text_length ((pos 1 ∷ pos 0 ∷ pos 1 ∷ []) ∷ (pos 0 ∷ pos 0 ∷ pos 2 ∷ []) ∷ []) ≡ 12
  pub text_bytes : text_of ((pos 1 ∷ pos 0 ∷ pos 1 ∷ []) ∷ (pos 0 ∷ pos 0 ∷ pos 2 ∷ []) ∷ []) ≡ bytes "1,0,1\n0,0,2\n"

pub cases : Cases
unfolding digits decimal signed digits_up_to digits_in signed_length line_length row_length text_length tally joined line_of text_of flatten
cases = record { zero = refl; nine = refl; ten = refl; largest = refl; minus_one = refl; lowest = refl; highest = refl; no_field = refl; line = refl; line_bytes = refl; text = refl; text_bytes = refl }
