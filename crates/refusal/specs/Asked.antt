-- What operations ask before they look at what they are given, with place 0: the length, the choices, the lent lists.
use Rattle.std.specs.Prelude.{Bool, not, ◌||◌, ℕ, ◌*◌, ◌/◌, ◌%◌, eqb, ltb, ℤ, pos}
use Rattle.geom.specs.Points.{within}
use Rattle.refusal.specs.declared.Kind.TheVariants.{WrongLength, UnknownChoice, TooShort}
use Rattle.refusal.specs.Order.{Verdict, refuse_if, ◌then◌}

-- 2: so many numbers are not whole entries of `each` numbers, or are more than `most` of them
unfoldable pub wrong_length : (each most : ℕ) → ℕ → Bool
wrong_length each most numbers = not (eqb (numbers % each) 0) || ltb most (numbers / each)

-- a choice, known from 0 to the greatest
pub record Choice : Type 0 where
  pub value : ℤ
  pub greatest : ℤ

-- a choice from 0 to the greatest
abbrev pub up_to : ℤ → ℤ → Choice
up_to greatest z = record { value = z; greatest = greatest }

-- 10: an unknown choice
unfoldable pub unknown_choice : Choice → Bool
unknown_choice c = not (within (pos 0) c.greatest c.value)

-- a lent list: how many entries it has, and how many it needs for each of n
pub record Lent : Type 0 where
  pub entries : ℕ
  pub each : ℕ

-- a lent list of so many entries, of which each of n needs so many
abbrev pub lent : ℕ → ℕ → Lent
lent entries each = record { entries = entries; each = each }

-- 11: a lent list too short for n
unfoldable pub too_short : ℕ → Lent → Bool
too_short n l = ltb l.entries (l.each * n)

-- 2, 10, 11
unfoldable pub asked_first : (wrong unknown short : Bool) → Verdict
asked_first wrong unknown short = refuse_if WrongLength wrong then refuse_if UnknownChoice unknown then refuse_if TooShort short
