-- Whole numbers as bytes: 48 to 57 are the digits, 45 is the minus.
use Rattle.std.specs.Prelude.{List, [], ◌∷◌, ◌||◌, cond, ℕ, zero, suc, ◌+◌, ◌*◌, ◌-◌, ◌/◌, ◌%◌, ◌^◌, ◌<◌, eqb, ltb, length, ℤ, pos, negsuc, neg_ℤ, nat_abs, Option, Some, None}
use Rattle.std.specs.Char.{is_ascii_digit}
use Rattle.std.specs.Option.{option_map}

-- ---- reading
-- the value of digits that come after digits worth v, if each of them is a digit
unfoldable pub worth : ℕ → List ℕ → Option ℕ
worth v [] = Some v
worth v (b ∷ s) = cond (is_ascii_digit b) (worth (v * 10 + (b - 48)) s) None

-- the value of at most nine digits, the first of them no 0
unfoldable pub positive : List ℕ → Option ℕ
positive [] = None
positive (b ∷ s) = cond (eqb b 48 || ltb 9 (length (b ∷ s))) None (worth 0 (b ∷ s))

-- numbers have at most nine digits, a minus if negative, no leading zero, no -0
unfoldable pub field_of : List ℕ → Option ℤ
field_of [] = None
field_of (b ∷ s) =
    cond (eqb b 45)
    (option_map (λ n. neg_ℤ (pos n)) (positive s))
    (cond (eqb b 48)
    (cond (eqb (length s) 0) (Some (pos 0)) None)
    (option_map pos (positive (b ∷ s))))

-- ---- writing
-- at most k digits of n, before the bytes s
unfoldable pub digits : ℕ → ℕ → List ℕ → List ℕ
digits zero n s = s
digits (suc k) n s = cond (ltb n 10) ((48 + n) ∷ s) (digits k (n / 10) ((48 + n % 10) ∷ s))

-- twenty digits hold every number of 64 bits
unfoldable pub decimal : ℕ → List ℕ
decimal n = digits 20 n []

-- a minus if negative
unfoldable pub signed : ℤ → List ℕ
signed (pos n) = decimal n
signed (negsuc n) = 45 ∷ decimal (suc n)

-- at most nine digits
abbrev pub NineDigits : ℤ → Type 0
NineDigits z = nat_abs z < 10 ^ 9
