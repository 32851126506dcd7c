-- What the rows of a text are.
use Rattle.std.specs.Prelude.{List, [], ◌∷◌, ℤ}
use Rattle.lists.specs.Members.{◌∈◌}
use Rattle.text.specs.declared.Choices.{Choices}
use Rattle.decimal.specs.Decimal.{NineDigits}

-- rule, invert, boundary
unfoldable pub choice_numbers : Choices → List ℤ
choice_numbers c = c.rule ∷ c.invert ∷ c.boundary ∷ []

-- at most nine digits in each number of each row
abbrev pub AllNineDigits : List (List ℤ) → Type 0
AllNineDigits rows = (row : List ℤ) → row ∈ rows → (z : ℤ) → z ∈ row → NineDigits z
