-- How many bytes numbers, lines, texts and the line of a refusal have, by counting.
use Rattle.std.specs.Prelude.{List, [], ◌∷◌, map, cond, ℕ, zero, suc, ◌/◌, ltb, ℤ, pos, negsuc}
use Rattle.lists.specs.Sums.{tally}

-- how many digits n has, at most k
unfoldable pub digits_up_to : ℕ → ℕ → ℕ
digits_up_to zero n = 0
digits_up_to (suc k) n = cond (ltb n 10) 1 (suc (digits_up_to k (n / 10)))

-- how many digits n has: a number of 64 bits has at most twenty
unfoldable pub digits_in : ℕ → ℕ
digits_in n = digits_up_to 20 n

-- one more for the minus
unfoldable pub signed_length : ℤ → ℕ
signed_length (pos n) = digits_in n
signed_length (negsuc n) = suc (digits_in (suc n))

-- a line of fields of these lengths: after each one byte, a comma or LF; with no field LF alone
unfoldable pub line_length : List ℕ → ℕ
line_length [] = 1
line_length (n ∷ l) = tally suc (n ∷ l)

-- the line of a row of numbers
unfoldable pub row_length : List ℤ → ℕ
row_length row = line_length (map signed_length row)

-- the lines of all rows
unfoldable pub text_length : List (List ℤ) → ℕ
text_length rows = tally row_length rows

-- the word `refused`, then number and place
unfoldable pub refused_length : (number place : ℕ) → ℕ
refused_length number place = line_length (7 ∷ digits_in number ∷ digits_in place ∷ [])
