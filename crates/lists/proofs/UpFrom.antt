-- Numbers in a row.
use mathlib.Core.Path.{◌≡◌, refl, ap, ap₂, ◌∙◌}
use mathlib.Core.List.{List, [], ◌∷◌, ◌++◌, map}
use mathlib.Core.Logic.{◌⊎◌, inl, inr}
use Prim.Native.Nat.{ℕ, zero, suc, ◌<◌, ◌≤◌, ◌+◌}
use native.Mathlib.Omega.{arith}
use lib.ListN.{length, get_or}
use native.Mathlib.Decide.{dec_le}
use Rattle.lists.specs.Members.{◌∈◌, Pairs}
use Rattle.lists.specs.UpFrom.{up_from}

pub in_up_from : (k j n : ℕ) → k ∈ up_from j n → (j ≤ k) × (k < j + n)
unfolding up_from
in_up_from k j zero m = absurd m
in_up_from k j (suc n) (inl e) = (omega arith, omega arith)
in_up_from k j (suc n) (inr m) = let r = in_up_from k (suc j) n m in (omega (arith, r.0), omega (arith, r.1))

pub up_from_in : (k j n : ℕ) → j ≤ k → k < j + n → k ∈ up_from j n
unfolding up_from
up_from_in k j zero h l = absurd (omega arith)
up_from_in k j (suc n) h l = go (dec_le (suc j) k) (up_from_in k (suc j) n)
  where
    go : Dec (suc j ≤ k) → (suc j ≤ k → k < suc j + n → k ∈ up_from (suc j) n) → (k ≡ j) ⊎ (k ∈ up_from (suc j) n)
    go (yes p) ih = inr (ih p (omega arith))
    go (no p) ih = inl (omega arith)

pub length_up_from : (k n : ℕ) → length (up_from k n) ≡ n
unfolding up_from
length_up_from k zero = refl
length_up_from k (suc n) = ap suc (length_up_from (suc k) n)

pub up_from_at : (k n i : ℕ) → i < n → get_or (up_from k n) i 0 ≡ k + i
unfolding up_from
up_from_at k zero i h = absurd (omega arith)
up_from_at k (suc n) zero h = omega arith
up_from_at k (suc n) (suc i) h = omega (arith, up_from_at (suc k) n i (omega arith))

pub up_from-++ : (k m n : ℕ) → up_from k (m + n) ≡ up_from k m ++ up_from (k + m) n
unfolding up_from
up_from-++ k zero n = let e : k + 0 ≡ k = omega arith in let f : 0 + n ≡ n = omega arith in rw (e, f)
up_from-++ k (suc m) n = let e : k + suc m ≡ suc k + m = omega arith in let f : suc m + n ≡ suc (m + n) = omega arith in rw (e, f) (ap (k ∷◌) (up_from-++ (suc k) m n))

-- R holds of every two, the lesser first
pub pairs_up_from : (R : ℕ → ℕ → Type 0) (k n : ℕ) → ((i j : ℕ) → i < j → j < k + n → R i j) → Pairs R (up_from k n)
unfolding up_from
pairs_up_from R k zero f = tt
pairs_up_from R k (suc n) f = (λ j m. let b = in_up_from j (suc k) n m in f k j (omega (arith, b.0)) (omega (arith, b.1)), pairs_up_from R (suc k) n (λ i j h l. f i j h (omega arith)))

-- the members place by place
pub map_places : {A : Type 0} (l : List A) (z : A) (f : ℕ → A) (k : ℕ) → ((i : ℕ) → i < length l → f (k + i) ≡ get_or l i z) → map f (up_from k (length l)) ≡ l
unfolding up_from
map_places [] z f k h = refl
map_places (x ∷ l) z f k h =
    let e : k ≡ k + 0 = omega arith in
    ap₂ ◌∷◌ (ap f e ∙ h 0 (omega arith)) (map_places l z f (suc k) (λ i m. let e : suc k + i ≡ k + suc i = omega arith in ap f e ∙ h (suc i) (omega arith)))
