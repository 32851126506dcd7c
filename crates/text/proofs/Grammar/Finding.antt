-- Where a byte is found, a text is cut.
use mathlib.Core.Path.{◌≡◌, refl, sym, ap, ◌∙◌}
use mathlib.Core.List.{List, [], ◌∷◌}
use mathlib.Core.Bool.{Bool, true, false, not, cond}
use Prim.Native.Nat.{ℕ, suc, ◌+◌, ◌-◌, ◌<◌, ◌≤◌}
use native.Mathlib.Numerals.{add-one}
use native.Mathlib.Omega.{arith}
use borrow.Author.Tests.{ltb-true, ltb-false}
use lib.Dec.{eqb, ltb}
use lib.ListN.{length, take, drop, length-drop}
use lib.Seq.{take-length, take_all}
use Rattle.std.specs.Prelude.{Option, Some, None}
use Rattle.std.specs.List.{position_or_len, position}
use Rattle.std.specs.Option.{unwrap_or}
use Rattle.text.specs.Grammar.{onto, pieces}

-- the bytes after a place
pub past : (s : List ℕ) (i : ℕ) → take (length s - (i + 1)) (drop (i + 1) s) ≡ drop (i + 1) s
past s i = take_all _ _ (omega (arith, length-drop (i + 1) s))

module _ (b : ℕ) where
  abbrev is : ℕ → Bool
  is x = eqb x b

  abbrev index : List ℕ → ℕ
  index s = position_or_len is s

  -- at the first such byte
  at_first : (s : List ℕ) → index s < length s → pieces b s ≡ take (index s) s ∷ pieces b (drop (suc (index s)) s)
  unfolding pieces
  at_first [] h = absurd (omega arith)
  at_first (x ∷ s) h = go (eqb x b) (at_first s) h
    where
      go : (t : Bool) → (index s < length s → pieces b s ≡ take (index s) s ∷ pieces b (drop (suc (index s)) s)) → cond (not t) (1 + index s) 0 < suc (length s)
          → cond t ([] ∷ pieces b s) (onto x (pieces b s)) ≡ take (cond (not t) (1 + index s) 0) (x ∷ s) ∷ pieces b (drop (suc (cond (not t) (1 + index s) 0)) (x ∷ s))
      go true rest h = refl
      go false rest h = let e : 1 + index s ≡ suc (index s) = omega arith in rw (rest (omega arith), e)

  -- where there is none
  no_first : (s : List ℕ) → length s ≤ index s → pieces b s ≡ s ∷ []
  unfolding pieces
  no_first [] h = refl
  no_first (x ∷ s) h = go (eqb x b) (no_first s) h
    where
      go : (t : Bool) → (length s ≤ index s → pieces b s ≡ s ∷ []) → suc (length s) ≤ cond (not t) (1 + index s) 0 → cond t ([] ∷ pieces b s) (onto x (pieces b s)) ≡ (x ∷ s) ∷ []
      go true rest h = absurd (omega arith)
      go false rest h = rw (rest (omega arith))

  pub cut_at : (s : List ℕ) (i : ℕ) → Some i ≡ position is s → (i < length s) × (pieces b s ≡ take i s ∷ pieces b (drop (i + 1) s))
  cut_at s i e = go (ltb (index s) (length s)) refl e
    where
      go : (t : Bool) → ltb (index s) (length s) ≡ t → Some i ≡ cond t (Some (index s)) None → (i < length s) × (pieces b s ≡ take i s ∷ pieces b (drop (i + 1) s))
      go true l e = let q : i ≡ index s = cc in let n : index s < length s = ltb-true (index s) (length s) l in rw (q, add-one) (n, at_first s n)
      go false l e = let bad : ⊥ = cc in absurd bad

  pub not_cut : (s : List ℕ) → None ≡ position is s → pieces b s ≡ s ∷ []
  not_cut s e = go (ltb (index s) (length s)) refl e
    where
      go : (t : Bool) → ltb (index s) (length s) ≡ t → None ≡ cond {A = Option ℕ} t (Some (index s)) None → pieces b s ≡ s ∷ []
      go true l e = let bad : ⊥ = cc in absurd bad
      go false l e = no_first s (ltb-false (index s) (length s) l)

  -- the first piece, and those after it
  abbrev pub after : List ℕ → Option ℕ → List (List ℕ)
  after s None = []
  after s (Some i) = pieces b (drop (i + 1) s)

  pub cut : (s : List ℕ) (o : Option ℕ) → o ≡ position is s → pieces b s ≡ take (unwrap_or o (length s)) s ∷ after s o
  cut s None e = not_cut s e ∙ ap (λ (t : List ℕ). t ∷ []) (sym (take-length s))
  cut s (Some i) e = (cut_at s i e).1
