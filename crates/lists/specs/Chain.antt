-- Lists in which neighbours are related.
use Rattle.std.specs.Prelude.{List, [], ◌∷◌}

module _ {A : Type 0} where
  -- P holds of the first, where there is one
  abbrev pub OfFirst : (A → Type 0) → List A → Type 0
  OfFirst P [] = Unit {0}
  OfFirst P (x ∷ l) = P x

  -- P holds of the last, where there is one
  abbrev pub OfLast : (A → Type 0) → List A → Type 0
  OfLast P [] = Unit {0}
  OfLast P (x ∷ []) = P x
  OfLast P (x ∷ (y ∷ l)) = OfLast P (y ∷ l)

  -- R holds of every two neighbours
  abbrev pub Chain : (A → A → Type 0) → List A → Type 0
  Chain R [] = Unit {0}
  Chain R (x ∷ l) = OfFirst (R x) l × Chain R l
