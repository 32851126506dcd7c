-- Sums over the members of a list.
use Rattle.std.specs.Prelude.{List, [], ◌∷◌, Bool, cond, ℕ, ◌+◌, ℤ, pos, ◌+ℤ◌}

module _ {A : Type 0} where
  -- the sum of f over the members
  unfoldable pub sum : (A → ℤ) → List A → ℤ
  sum f [] = pos 0
  sum f (x ∷ l) = f x +ℤ sum f l

  -- the same of natural numbers
  unfoldable pub tally : (A → ℕ) → List A → ℕ
  tally f [] = 0
  tally f (x ∷ l) = f x + tally f l

-- 1 if b, else 0
abbrev pub one : Bool → ℕ
one b = cond b 1 0

-- w if b, else 0
abbrev pub only : Bool → ℤ → ℤ
only b w = cond b w (pos 0)
