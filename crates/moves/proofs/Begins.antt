-- The first move whose bit remains, and the lowest link of which a bit does.
use mathlib.Core.Path.{◌≡◌, refl, sym, ◌∙◌, ap, subst}
use mathlib.Core.List.{List, [], ◌∷◌, ◌++◌}
use mathlib.Core.Logic.{◌⊎◌, inl, inr}
use mathlib.Core.Option.{none, some, or_else}
use mathlib.Core.Bool.{Bool, true, false, cond}
use Prim.Native.Nat.{ℕ, zero, suc, ◌+◌, ◌%◌, ◌<◌, ◌≤◌}
use native.Mathlib.Omega.{arith}
use native.Mathlib.Decide.{dec_le}
use lib.ListN.{length, get_or}
use Rattle.integers.proofs.Booleans.{clash}
use Rattle.lists.specs.Members.{◌∈◌}
use Rattle.lists.specs.UpFrom.{up_from}
use Rattle.lists.proofs.UpFrom.{in_up_from, up_from_in}
use Rattle.segm.specs.Segments.{Drawing}
use Rattle.moves.specs.Bits.{has}
use Rattle.moves.specs.Steps.{Step}
use Rattle.moves.specs.Moves.{Move, move, remains, Makes}
use Rattle.moves.specs.Begins.{first_remaining, both_moves, begins}
use Rattle.moves.specs.Worth.{worth}
use Rattle.moves.proofs.Bits.{none-set, second_set}
use Rattle.moves.proofs.Worth.{worth-none}

-- ---- joined lists
pub both-++ : (k l : List ℕ) → both_moves (k ++ l) ≡ both_moves k ++ both_moves l
unfolding both_moves
both-++ [] l = refl
both-++ (j ∷ k) l = ap (λ (ms : List Move). move j true ∷ move j false ∷ ms) (both-++ k l)

-- the first that remains is of the first list, or else of the second
pub first-++ : (bits : List ℕ) (k l : List Move) → first_remaining bits (k ++ l) ≡ or_else (first_remaining bits k) (first_remaining bits l)
unfolding first_remaining or_else
first-++ bits [] l = refl
first-++ bits (m ∷ k) l = go (remains bits m) (first-++ bits k l)
  where
    go : (b : Bool) → first_remaining bits (k ++ l) ≡ or_else (first_remaining bits k) (first_remaining bits l)
        → cond b (some m) (first_remaining bits (k ++ l)) ≡ or_else (cond b (some m) (first_remaining bits k)) (first_remaining bits l)
    go true e = refl
    go false e = e

-- ---- the first of a list of moves
pub first_some : (bits : List ℕ) (l : List Move) (m : Move) → first_remaining bits l ≡ some m → (m ∈ l) × (remains bits m ≡ true)
unfolding first_remaining
first_some bits [] m e = let z : ◌≡◌ {A = ℕ} 0 1 = cc in absurd (omega arith)
first_some bits (n ∷ l) m e = go (remains bits n) refl e (first_some bits l m)
  where
    go : (b : Bool) → remains bits n ≡ b → cond b (some n) (first_remaining bits l) ≡ some m
        → (first_remaining bits l ≡ some m → (m ∈ l) × (remains bits m ≡ true)) → ((m ≡ n) ⊎ (m ∈ l)) × (remains bits m ≡ true)
    go true p q ih = let r : n ≡ m = cc in (inl (sym r), subst (λ x. remains bits x ≡ true) r p)
    go false p q ih = let r = ih q in (inr r.0, r.1)

first-none : (bits : List ℕ) (l : List Move) → first_remaining bits l ≡ none → (m : Move) → m ∈ l → remains bits m ≡ false
unfolding first_remaining
first-none bits [] e m i = absurd i
first-none bits (n ∷ l) e m i = go (remains bits n) refl e i (λ q. first-none bits l q m)
  where
    go : (b : Bool) → remains bits n ≡ b → cond b (some n) (first_remaining bits l) ≡ none → (m ≡ n) ⊎ (m ∈ l)
        → (first_remaining bits l ≡ none → m ∈ l → remains bits m ≡ false) → remains bits m ≡ false
    go true p q i ih = let z : ◌≡◌ {A = ℕ} 0 1 = cc in absurd (omega arith)
    go false p q (inl r) ih = subst (λ x. remains bits x ≡ false) (sym r) p
    go false p q (inr i) ih = ih q i

-- ---- both moves of each link
in_both_moves : (l : List ℕ) (m : Move) → m ∈ both_moves l → m.place ∈ l
unfolding both_moves
in_both_moves [] m i = absurd i
in_both_moves (k ∷ l) m (inl e) = inl (ap (λ (n : Move). n.place) e)
in_both_moves (k ∷ l) m (inr (inl e)) = inl (ap (λ (n : Move). n.place) e)
in_both_moves (k ∷ l) m (inr (inr i)) = inr (in_both_moves l m i)

both_moves_in : (l : List ℕ) (k : ℕ) (forth : Bool) → k ∈ l → move k forth ∈ both_moves l
unfolding both_moves
both_moves_in [] k forth i = absurd i
both_moves_in (j ∷ l) k true (inl e) = inl (ap (λ z. move z true) e)
both_moves_in (j ∷ l) k false (inl e) = inr (inl (ap (λ z. move z false) e))
both_moves_in (j ∷ l) k forth (inr i) = inr (inr (both_moves_in l k forth i))

pub begins-some : (links : Drawing) (bits : List ℕ) (m : Move) → begins links bits ≡ some m → Makes links bits m
unfolding begins
begins-some links bits m e =
    let r = first_some bits (both_moves (up_from 0 (length links))) m e in
    record { within = omega (arith, (in_up_from m.place 0 (length links) (in_both_moves (up_from 0 (length links)) m r.0)).1); bit_remains = r.1 }

pub begins-none : (f : Step → ℕ) (links : Drawing) (bits : List ℕ) → begins links bits ≡ none → worth f links bits ≡ 0
unfolding begins remains
begins-none f links bits e =
    let all = up_from 0 (length links) in
    worth-none f links bits (λ m c.
    clash c.bit_remains (first-none bits (both_moves all) e (move m.place m.forth)
    (both_moves_in all m.place m.forth (up_from_in m.place 0 (length links) (omega arith) (omega (arith, c.within))))))

-- ---- the lowest link
module _ (bits : List ℕ) where
  -- the bit that a walk begins with: bit 1 if it remains, otherwise bit 2
  pub first-remains : (k : ℕ) → (get_or bits k 0 % 4 ≡ 0 → ⊥) → remains bits (move k (has true (get_or bits k 0))) ≡ true
  unfolding remains
  first-remains k h = go (has true (get_or bits k 0)) refl
    where
      go : (b : Bool) → has true (get_or bits k 0) ≡ b → has b (get_or bits k 0) ≡ true
      go true e = e
      go false e = second_set (get_or bits k 0) h e

  -- links without bits are passed over
  passed : (j : ℕ) (l : List Move) → get_or bits j 0 % 4 ≡ 0 → first_remaining bits (move j true ∷ move j false ∷ l) ≡ first_remaining bits l
  unfolding first_remaining remains
  passed j l h = rw (none-set (get_or bits j 0) true h, none-set (get_or bits j 0) false h)

  found : (k : ℕ) (l : List Move) → (get_or bits k 0 % 4 ≡ 0 → ⊥) → first_remaining bits (move k true ∷ move k false ∷ l) ≡ some (move k (has true (get_or bits k 0)))
  unfolding first_remaining remains
  found k l h = go (has true (get_or bits k 0)) refl
    where
      go : (b : Bool) → has true (get_or bits k 0) ≡ b
          → cond b (some (move k true)) (cond (has false (get_or bits k 0)) (some (move k false)) (first_remaining bits l)) ≡ some (move k b)
      go true e = refl
      go false e = rw (second_set (get_or bits k 0) h e)

  first_from_lem : (i n k : ℕ) → i ≤ k → k < i + n → ((j : ℕ) → j < k → get_or bits j 0 % 4 ≡ 0) → (get_or bits k 0 % 4 ≡ 0 → ⊥)
      → first_remaining bits (both_moves (up_from i n)) ≡ some (move k (has true (get_or bits k 0)))
  unfolding up_from both_moves
  first_from_lem i zero k h l p q = absurd (omega arith)
  first_from_lem i (suc n) k h l p q = go (dec_le k i) (λ (r : suc i ≤ k). first_from_lem (suc i) n k r (omega arith) p q)
    where
      go : Dec (k ≤ i) → (suc i ≤ k → first_remaining bits (both_moves (up_from (suc i) n)) ≡ some (move k (has true (get_or bits k 0))))
          → first_remaining bits (move i true ∷ move i false ∷ both_moves (up_from (suc i) n)) ≡ some (move k (has true (get_or bits k 0)))
      go (yes r) ih = let e : i ≡ k = omega arith in ap (λ j. first_remaining bits (move j true ∷ move j false ∷ both_moves (up_from (suc i) n))) e ∙ found k (both_moves (up_from (suc i) n)) q
      go (no r) ih = passed i (both_moves (up_from (suc i) n)) (p i (omega arith)) ∙ ih (omega arith)

  none_from : (i n : ℕ) → ((j : ℕ) → j < i + n → get_or bits j 0 % 4 ≡ 0) → first_remaining bits (both_moves (up_from i n)) ≡ none
  unfolding up_from both_moves first_remaining
  none_from i zero p = refl
  none_from i (suc n) p = passed i (both_moves (up_from (suc i) n)) (p i (omega arith)) ∙ none_from (suc i) n (λ j h. p j (omega arith))

  module _ (links : Drawing) where
    pub begins-at : (k : ℕ) → k < length links → ((j : ℕ) → j < k → get_or bits j 0 % 4 ≡ 0) → (get_or bits k 0 % 4 ≡ 0 → ⊥) → begins links bits ≡ some (move k (has true (get_or bits k 0)))
    unfolding begins
    begins-at k h p q = first_from_lem 0 (length links) k (omega arith) (omega arith) p q

    pub begins-nowhere : ((j : ℕ) → j < length links → get_or bits j 0 % 4 ≡ 0) → begins links bits ≡ none
    unfolding begins
    begins-nowhere p = none_from 0 (length links) (λ j h. p j (omega arith))
