-- A text cut at a byte, and joined by it again.
use mathlib.Core.Path.{◌≡◌, refl, sym, ◌∙◌, ap}
use mathlib.Core.Bool.{Bool, true, false, cond}
use mathlib.Core.List.{List, [], ◌∷◌, ◌++◌}
use mathlib.Core.Logic.{inl, inr}
use Prim.Native.Nat.{ℕ, suc, ◌≤◌}
use native.Mathlib.Omega.{arith}
use borrow.Author.Tests.{eqb-true, eq-eqb, ne_eqb}
use lib.Dec.{eqb}
use lib.ListN.{length}
use Rattle.lists.specs.Members.{◌∈◌}
use Rattle.text.specs.Grammar.{onto, pieces}
use Rattle.writing.specs.Lines.{joined}

-- not empty
abbrev pub NonEmpty : {A : Type 0} → List A → Type 0
NonEmpty [] = ⊥
NonEmpty (x ∷ l) = Unit {0}

onto-some : (x : ℕ) (ps : List (List ℕ)) → NonEmpty (onto x ps)
onto-some x [] = tt
onto-some x (p ∷ ps) = tt

onto_few : (x : ℕ) (ps : List (List ℕ)) → length (onto x ps) ≤ suc (length ps)
onto_few x [] = omega arith
onto_few x (p ∷ ps) = omega arith

module _ (b : ℕ) where
  pub pieces-some : (s : List ℕ) → NonEmpty (pieces b s)
  unfolding pieces
  pieces-some [] = tt
  pieces-some (x ∷ s) = go (eqb x b)
    where
      go : (t : Bool) → NonEmpty (cond t ([] ∷ pieces b s) (onto x (pieces b s)))
      go true = tt
      go false = onto-some x (pieces b s)

  -- one piece more than there are bytes, at most
  pub pieces_few : (s : List ℕ) → length (pieces b s) ≤ suc (length s)
  unfolding pieces
  pieces_few [] = omega arith
  pieces_few (x ∷ s) = go (eqb x b) (pieces_few s)
    where
      go : (t : Bool) → length (pieces b s) ≤ suc (length s) → length (cond t ([] ∷ pieces b s) (onto x (pieces b s))) ≤ suc (suc (length s))
      go true h = omega (arith, h)
      go false h = omega (arith, h, onto_few x (pieces b s))

  -- ---- cut, then joined
  joined-onto : (x : ℕ) (ps : List (List ℕ)) → joined b (onto x ps) ≡ x ∷ joined b ps
  unfolding joined
  joined-onto x [] = refl
  joined-onto x (p ∷ []) = refl
  joined-onto x (p ∷ q ∷ ps) = refl

  joined-cut : (p : List ℕ) (ps : List (List ℕ)) → NonEmpty ps → joined b (p ∷ ps) ≡ p ++ b ∷ joined b ps
  unfolding joined
  joined-cut p [] h = absurd h
  joined-cut p (q ∷ ps) h = refl

  pub joined-pieces : (s : List ℕ) → joined b (pieces b s) ≡ s
  unfolding pieces joined
  joined-pieces [] = refl
  joined-pieces (x ∷ s) = go (eqb x b) refl (joined-pieces s)
    where
      go : (t : Bool) → eqb x b ≡ t → joined b (pieces b s) ≡ s → joined b (cond t ([] ∷ pieces b s) (onto x (pieces b s))) ≡ x ∷ s
      go true e h = joined-cut [] (pieces b s) (pieces-some s) ∙ ap (λ (r : List ℕ). b ∷ r) h ∙ ap (λ y. y ∷ s) (sym (eqb-true x b e))
      go false e h = joined-onto x (pieces b s) ∙ ap (λ (r : List ℕ). x ∷ r) h

  -- ---- joined, then cut
  abbrev pub Lacks : List ℕ → Type 0
  Lacks s = b ∈ s → ⊥

  pieces-other : (x : ℕ) (s : List ℕ) → (b ≡ x → ⊥) → pieces b (x ∷ s) ≡ onto x (pieces b s)
  unfolding pieces
  pieces-other x s h = rw (ne_eqb x b (λ e. h (sym e)))

  pub pieces-cut : (p s : List ℕ) → Lacks p → pieces b (p ++ b ∷ s) ≡ p ∷ pieces b s
  unfolding pieces
  pieces-cut [] s h = rw (eq-eqb b b refl)
  pieces-cut (x ∷ p) s h = pieces-other x (p ++ b ∷ s) (λ e. h (inl e)) ∙ ap (onto x) (pieces-cut p s (λ m. h (inr m)))

  pieces_whole : (p : List ℕ) → Lacks p → pieces b p ≡ p ∷ []
  unfolding pieces
  pieces_whole [] h = refl
  pieces_whole (x ∷ p) h = pieces-other x p (λ e. h (inl e)) ∙ ap (onto x) (pieces_whole p (λ m. h (inr m)))

  pub pieces-joined : (ps : List (List ℕ)) → NonEmpty ps → ((p : List ℕ) → p ∈ ps → Lacks p) → pieces b (joined b ps) ≡ ps
  unfolding joined
  pieces-joined [] n h = absurd n
  pieces-joined (p ∷ []) n h = pieces_whole p (h p (inl refl))
  pieces-joined (p ∷ q ∷ ps) n h = pieces-cut p (joined b (q ∷ ps)) (h p (inl refl)) ∙ ap (λ (r : List (List ℕ)). p ∷ r) (pieces-joined (q ∷ ps) tt (λ r m. h r (inr m)))
