-- Each move takes one bit that remained: what the bits of links come to is less by its step.
use mathlib.Core.Path.{◌≡◌, refl}
use mathlib.Core.List.{List, [], ◌∷◌}
use mathlib.Core.Logic.{◌⊎◌, inl, inr}
use mathlib.Core.Bool.{Bool, true, false, cond}
use Prim.Native.Nat.{ℕ, zero, suc, ◌+◌, ◌<◌}
use native.Mathlib.Omega.{arith}
use lib.ListN.{length, get_or, set}
use Rattle.integers.proofs.Booleans.{clash}
use Rattle.lists.specs.Sums.{tally}
use Rattle.segm.specs.Segments.{Drawing, segment_at}
use Rattle.moves.specs.Bits.{has, clear}
use Rattle.moves.specs.Steps.{Step, as_drawn}
use Rattle.moves.specs.Moves.{Move, move, remains, Makes, taken, bits_remaining}
use Rattle.moves.specs.Worth.{worth, ones, drawn_by}
use Rattle.moves.proofs.Bits.{none-set, spend_bit}

-- as many as bits remain, where each step counts one
pub worth-ones : (links : Drawing) (bits : List ℕ) → length bits ≡ length links → worth ones links bits ≡ bits_remaining bits
unfolding worth bits_remaining tally
worth-ones [] [] e = refl
worth-ones [] (b ∷ bits) e = absurd (omega arith)
worth-ones (s ∷ links) [] e = absurd (omega arith)
worth-ones (s ∷ links) (b ∷ bits) e = omega (arith, worth-ones links bits (omega arith))

-- one of three is not 0
one_of_three : (l m n : ℕ) → 0 < (l + m) + n → (0 < l) ⊎ ((0 < m) ⊎ (0 < n))
one_of_three (suc l) m n h = inl (omega arith)
one_of_three zero (suc m) n h = inr (inl (omega arith))
one_of_three zero zero n h = inr (inr (omega arith))

-- what counts if b, and is not 0
pub cond_some : (b : Bool) {n : ℕ} → 0 < cond b n 0 → (b ≡ true) × (0 < n)
cond_some true h = (refl, h)
cond_some false h = absurd (omega arith)

module _ (f : Step → ℕ) where
  spend : (links : Drawing) (bits : List ℕ) (k : ℕ) (forth : Bool) → k < length links → has forth (get_or bits k 0) ≡ true
      → worth f links bits ≡ f (as_drawn forth (segment_at links k)) + worth f links (set bits k (clear forth (get_or bits k 0)))
  unfolding worth segment_at
  spend [] bits k forth h e = absurd (omega arith)
  spend (s ∷ links) [] zero forth h e = absurd (clash e (none-set 0 forth refl))
  spend (s ∷ links) [] (suc k) forth h e = absurd (clash e (none-set 0 forth refl))
  spend (s ∷ links) (b ∷ bits) zero forth h e = omega (arith, spend_bit (λ c. f (as_drawn c s)) forth b e)
  spend (s ∷ links) (b ∷ bits) (suc k) forth h e = omega (arith, spend links bits k forth (omega arith) e)

  pub make : (links : Drawing) (bits : List ℕ) (m : Move) → Makes links bits m → worth f links bits ≡ f (drawn_by links m) + worth f links (taken bits m)
  unfolding remains taken
  make links bits m h = spend links bits m.place m.forth h.within h.bit_remains

  -- where they come to something, one of them does
  pub worth-some : (links : Drawing) (bits : List ℕ) → 0 < worth f links bits → (m : Move) × Makes links bits m × (0 < f (drawn_by links m))
  unfolding worth remains segment_at
  worth-some [] bits h = absurd (omega arith)
  worth-some (s ∷ links) [] h = absurd (omega arith)
  worth-some (s ∷ links) (b ∷ bits) h =
      go (one_of_three (cond (has true b) (f (as_drawn true s)) 0) (cond (has false b) (f (as_drawn false s)) 0) (worth f links bits) h) (worth-some links bits)
    where
      go : (0 < cond (has true b) (f (as_drawn true s)) 0) ⊎ ((0 < cond (has false b) (f (as_drawn false s)) 0) ⊎ (0 < worth f links bits))
          → (0 < worth f links bits → (m : Move) × Makes links bits m × (0 < f (drawn_by links m)))
          → (m : Move) × Makes (s ∷ links) (b ∷ bits) m × (0 < f (drawn_by (s ∷ links) m))
      go (inl t) ih = let c = cond_some (has true b) t in (move 0 true, record { within = omega arith; bit_remains = c.0 }, c.1)
      go (inr (inl t)) ih = let c = cond_some (has false b) t in (move 0 false, record { within = omega arith; bit_remains = c.0 }, c.1)
      go (inr (inr t)) ih =
          let r = ih t in
          (move (suc r.0.place) r.0.forth, record { within = omega (arith, r.1.within); bit_remains = r.1.bit_remains }, r.2)

  -- where no move can be made, they come to nothing
  pub worth-none : (links : Drawing) (bits : List ℕ) → ((m : Move) → Makes links bits m → ⊥) → worth f links bits ≡ 0
  worth-none links bits h = go (worth f links bits) (worth-some links bits)
    where
      go : (n : ℕ) → (0 < n → (m : Move) × Makes links bits m × (0 < f (drawn_by links m))) → n ≡ 0
      go zero some = refl
      go (suc n) some = let r = some (omega arith) in absurd (h r.0 r.1)

-- no bits, no worth
pub no_worth : (f : Step → ℕ) (links : Drawing) (bits : List ℕ) → worth ones links bits ≡ 0 → worth f links bits ≡ 0
no_worth f links bits e = worth-none f links bits (λ m c. omega (arith, make ones links bits m c))
