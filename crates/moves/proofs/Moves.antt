-- A move takes one bit: one less remains, and other links keep theirs.
use mathlib.Core.Path.{◌≡◌, refl, ◌∙◌, ap, subst}
use mathlib.Core.List.{List, [], ◌∷◌}
use mathlib.Core.Bool.{Bool, true}
use Prim.Native.Nat.{ℕ, zero, suc, ◌+◌, ◌*◌, ◌%◌, ◌≤◌}
use native.Mathlib.Omega.{arith}
use lib.ListN.{length, get_or, set, length-set}
use lib.Seq.{get_or-set_other}
use Rattle.integers.proofs.Booleans.{clash}
use Rattle.lists.specs.Sums.{tally}
use Rattle.moves.specs.Bits.{has, clear}
use Rattle.moves.specs.Moves.{Move, remains, taken, taken_all, Takes, bits_remaining}
use Rattle.moves.proofs.Bits.{none-set, set_are, spend_bit}

pub bits_few : (bits : List ℕ) → bits_remaining bits ≤ 2 * length bits
unfolding bits_remaining tally
bits_few [] = omega arith
bits_few (b ∷ bits) = omega (arith, bits_few bits, set_are b)

pub length_taken : (bits : List ℕ) (m : Move) → length (taken bits m) ≡ length bits
unfolding taken
length_taken bits m = length-set bits m.place _

one_set : (bits : List ℕ) (k : ℕ) (forth : Bool) → has forth (get_or bits k 0) ≡ true → bits_remaining bits ≡ suc (bits_remaining (set bits k (clear forth (get_or bits k 0))))
unfolding bits_remaining tally
one_set [] zero forth e = absurd (clash e (none-set 0 forth refl))
one_set [] (suc k) forth e = absurd (clash e (none-set 0 forth refl))
one_set (b ∷ bits) zero forth e = omega (arith, spend_bit (λ c. 1) forth b e)
one_set (b ∷ bits) (suc k) forth e = omega (arith, one_set bits k forth e)

-- a move takes one bit
pub takes_one : (bits : List ℕ) (m : Move) → remains bits m ≡ true → bits_remaining bits ≡ suc (bits_remaining (taken bits m))
unfolding remains taken
takes_one bits m e = one_set bits m.place m.forth e

-- a link without bits stays so
pub taken-other : (bits : List ℕ) (m : Move) (j : ℕ) → remains bits m ≡ true → get_or bits j 0 % 4 ≡ 0 → get_or (taken bits m) j 0 % 4 ≡ 0
unfolding taken remains
taken-other bits m j e h =
    let apart : j ≡ m.place → ⊥ = λ q. clash e (none-set (get_or bits m.place 0) m.forth (subst (λ i. get_or bits i 0 % 4 ≡ 0) q h)) in
    ap (◌% 4) (get_or-set_other bits m.place j _ 0 apart) ∙ h

-- ---- several moves
-- what each keeps true of the bits is true after the last
pub takes_keep : (P : List ℕ → Type 0) → ((rest : List ℕ) (m : Move) → remains rest m ≡ true → P rest → P (taken rest m))
    → (bits : List ℕ) (l : List Move) → Takes bits l → P bits → P (taken_all bits l)
unfolding taken_all
takes_keep P keeps bits [] t h = h
takes_keep P keeps bits (m ∷ l) t h = takes_keep P keeps (taken bits m) l t.1 (keeps bits m t.0 h)

-- each takes one
pub takes_spent : (bits : List ℕ) (l : List Move) → Takes bits l → length l + bits_remaining (taken_all bits l) ≡ bits_remaining bits
unfolding taken_all
takes_spent bits [] t = omega arith
takes_spent bits (m ∷ l) t = omega (arith, takes_one bits m t.0, takes_spent (taken bits m) l t.1)
