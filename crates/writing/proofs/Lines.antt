-- Fields, lines and rows as bytes: of which bytes they are, and a row more.
use mathlib.Core.Path.{◌≡◌, refl, subst}
use mathlib.Core.List.{List, [], ◌∷◌, ◌++◌, map, flatten, append_assoc}
use mathlib.Core.Logic.{◌⊎◌, inl, inr}
use Prim.Native.Nat.{ℕ, ◌≤◌}
use native.Mathlib.Omega.{arith}
use lib.IntN.{ℤ}
use Rattle.lists.specs.Members.{◌∈◌}
use Rattle.lists.proofs.Members.{in-++, in_map}
use Rattle.decimal.specs.Decimal.{signed}
use Rattle.decimal.proofs.Decimal.{signed_bytes}
use Rattle.writing.specs.Lines.{joined, line_of, text_of}

-- ---- the bytes of what is joined
joined_bytes : (b : ℕ) (P : ℕ → Type 0) → P b → (ps : List (List ℕ)) → ((p : List ℕ) → p ∈ ps → (x : ℕ) → x ∈ p → P x) → (x : ℕ) → x ∈ joined b ps → P x
unfolding joined
joined_bytes b P pb [] h x m = absurd m
joined_bytes b P pb (p ∷ []) h x m = h p (inl refl) x m
joined_bytes b P pb (p ∷ q ∷ ps) h x m = go (in-++ x p (b ∷ joined b (q ∷ ps)) m) (λ i. joined_bytes b P pb (q ∷ ps) (λ r j. h r (inr j)) x i)
  where
    go : (x ∈ p) ⊎ (x ∈ (b ∷ joined b (q ∷ ps))) → (x ∈ joined b (q ∷ ps) → P x) → P x
    go (inl i) k = h p (inl refl) x i
    go (inr (inl e)) k = rw e pb
    go (inr (inr i)) k = k i

-- the bytes of a line of numbers
pub field_bytes : (row : List ℤ) (p : List ℕ) → p ∈ map signed row → (x : ℕ) → x ∈ p → 45 ≤ x
field_bytes row p m x i = let f = in_map signed p row m in signed_bytes f.0 x (subst (λ (s : List ℕ). x ∈ s) f.2 i)

pub line_bytes : (row : List ℤ) (x : ℕ) → x ∈ joined 44 (map signed row) → 44 ≤ x
line_bytes row = joined_bytes 44 (λ x. 44 ≤ x) (omega arith) (map signed row) (λ p m x i. omega (arith, field_bytes row p m x i))

-- ---- a row, and those after it
pub text_cons : (row : List ℤ) (rows : List (List ℤ)) → text_of (row ∷ rows) ≡ joined 44 (map signed row) ++ 10 ∷ text_of rows
unfolding text_of line_of flatten
text_cons row rows = append_assoc (joined 44 (map signed row)) (10 ∷ []) (text_of rows)
