-- Members of a list, its pairs of places, and the members that pass a test.
use Rattle.std.specs.Prelude.{◌≡◌, List, [], ◌∷◌, ◌⊎◌, Bool, false, ◌||◌, cond}

module _ {A : Type 0} where
  infix 50 ◌∈◌
  -- x is a member
  abbrev pub ◌∈◌ : A → List A → Type 0
  x ∈ [] = ⊥
  x ∈ (y ∷ l) = (x ≡ y) ⊎ (x ∈ l)

  -- R holds of every two places, the earlier first
  abbrev pub Pairs : (A → A → Type 0) → List A → Type 0
  Pairs R [] = Unit {0}
  Pairs R (x ∷ l) = ((y : A) → y ∈ l → R x y) × Pairs R l

  -- some member passes a test
  unfoldable pub any : (A → Bool) → List A → Bool
  any P [] = false
  any P (x ∷ l) = P x || any P l

  -- the members that pass a test, in their order
  unfoldable pub keep : (A → Bool) → List A → List A
  keep P [] = []
  keep P (x ∷ l) = cond (P x) (x ∷ keep P l) (keep P l)
