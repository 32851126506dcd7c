-- Sums of integers and tallies of natural numbers over the members of a list.
use mathlib.Core.Path.{◌≡◌, refl, sym, ◌∙◌, ap, ap₂}
use mathlib.Core.List.{List, [], ◌∷◌, ◌++◌, map}
use mathlib.Core.Logic.{◌⊎◌, inl, inr}
use mathlib.Core.Bool.{Bool, true, false, cond}
use Prim.Native.Nat.{ℕ, zero, suc, ◌<◌, ◌≤◌, ◌+◌, ◌*◌}
use native.Mathlib.Omega.{arith}
use lib.ListN.{length, get_or, take, drop, take-append-drop}
use native.Mathlib.Numerals.{add-one}
use lib.Seq.{take-suc}
use lib.IntN.{ℤ, pos, nat_abs, ◌+ℤ◌, ◌-ℤ◌, +ℤ_idl, +ℤ_assoc}
use lib.Signed.{◌≤ℤ◌, ≤ℤ_refl}
use Rattle.integers.proofs.Linear.{ints, of-+}
use Rattle.integers.proofs.Order.{abs-+}
use Rattle.integers.proofs.Ring.{◌⊞◌, ◌⊟◌, ◌≐◌, ring4}
use Rattle.lists.specs.Members.{◌∈◌, keep}
use Rattle.lists.specs.Sums.{sum, tally, only}

four- : (a b c d : ℤ) → (a -ℤ b) +ℤ (c -ℤ d) ≡ (a +ℤ c) -ℤ (b +ℤ d)
four- = ring4 (λ a b c d. (a ⊟ b) ⊞ (c ⊟ d) ≐ (a ⊞ c) ⊟ (b ⊞ d)) tt

four : (a b c d : ℤ) → (a +ℤ b) +ℤ (c +ℤ d) ≡ (a +ℤ c) +ℤ (b +ℤ d)
four = ring4 (λ a b c d. (a ⊞ b) ⊞ (c ⊞ d) ≐ (a ⊞ c) ⊞ (b ⊞ d)) tt

cancel : (a b c d : ℤ) → a +ℤ b ≡ c +ℤ d → b ≡ d → a ≡ c
cancel a b c d e q = omega (ints, of-+ a b, of-+ c d)

module _ {A : Type 0} where
  -- ---- sums
  pub sum_cong : {f g : A → ℤ} (l : List A) → ((x : A) → x ∈ l → f x ≡ g x) → sum f l ≡ sum g l
  unfolding sum
  sum_cong [] h = refl
  sum_cong (x ∷ l) h = ap₂ ◌+ℤ◌ (h x (inl refl)) (sum_cong l (λ y m. h y (inr m)))

  pub sum-zero : {f : A → ℤ} (l : List A) → ((x : A) → x ∈ l → f x ≡ pos 0) → sum f l ≡ pos 0
  unfolding sum
  sum-zero [] h = refl
  sum-zero (x ∷ l) h = ap₂ ◌+ℤ◌ (h x (inl refl)) (sum-zero l (λ y m. h y (inr m)))

  pub sum-++ : (f : A → ℤ) (k l : List A) → sum f (k ++ l) ≡ sum f k +ℤ sum f l
  unfolding sum
  sum-++ f [] l = sym (+ℤ_idl (sum f l))
  sum-++ f (x ∷ k) l = ap (λ z. f x +ℤ z) (sum-++ f k l) ∙ sym (+ℤ_assoc (f x) (sum f k) (sum f l))

  -- no summand is larger than k
  pub sum_bound : (f : A → ℤ) (k : ℕ) (l : List A) → ((x : A) → x ∈ l → nat_abs (f x) ≤ k) → nat_abs (sum f l) ≤ length l * k
  unfolding sum
  sum_bound f k [] h = omega arith
  sum_bound f k (x ∷ l) h = omega (arith, abs-+ (f x) (sum f l), h x (inl refl), sum_bound f k l (λ y m. h y (inr m)))

  pub sum_mono : {f g : A → ℤ} (l : List A) → ((x : A) → x ∈ l → f x ≤ℤ g x) → sum f l ≤ℤ sum g l
  unfolding sum
  sum_mono [] h = ≤ℤ_refl (pos 0)
  sum_mono {f} {g} (x ∷ l) h =
      let first = h x (inl refl) in
      let rest = sum_mono {f = f} {g = g} l (λ y m. h y (inr m)) in
      omega (ints, of-+ (f x) (sum f l), of-+ (g x) (sum g l))

  pub sum-map : {B : Type 0} (f : B → ℤ) (g : A → B) (l : List A) → sum f (map g l) ≡ sum (λ x. f (g x)) l
  unfolding sum
  sum-map f g [] = refl
  sum-map f g (x ∷ l) = ap (λ z. f (g x) +ℤ z) (sum-map f g l)

  pub sum-- : (f g : A → ℤ) (l : List A) → sum (λ x. f x -ℤ g x) l ≡ sum f l -ℤ sum g l
  unfolding sum
  sum-- f g [] = refl
  sum-- f g (x ∷ l) = ap (λ z. (f x -ℤ g x) +ℤ z) (sum-- f g l) ∙ four- (f x) (g x) (sum f l) (sum g l)

  pub sum-+ : (f g : A → ℤ) (l : List A) → sum (λ x. f x +ℤ g x) l ≡ sum f l +ℤ sum g l
  unfolding sum
  sum-+ f g [] = refl
  sum-+ f g (x ∷ l) = ap (λ z. (f x +ℤ g x) +ℤ z) (sum-+ f g l) ∙ four (f x) (g x) (sum f l) (sum g l)

  -- f = g + k at every member
  pub sum_split : (f g k : A → ℤ) (l : List A) → ((x : A) → x ∈ l → f x ≡ g x +ℤ k x) → sum f l ≡ sum g l +ℤ sum k l
  sum_split f g k l h = sum_cong l h ∙ sum-+ g k l

  -- f + g = f' + g' at every member, and the sums of g and g' are equal: so are those of f and f'
  pub sum_trade : (f g f' g' : A → ℤ) (l : List A) → ((x : A) → x ∈ l → f x +ℤ g x ≡ f' x +ℤ g' x) → sum g l ≡ sum g' l → sum f l ≡ sum f' l
  sum_trade f g f' g' l h e = cancel (sum f l) (sum g l) (sum f' l) (sum g' l) (sym (sum-+ f g l) ∙ sum_cong l h ∙ sum-+ f' g' l) e

  -- ---- tallies
  pub tally-++ : (f : A → ℕ) (l m : List A) → tally f (l ++ m) ≡ tally f l + tally f m
  unfolding tally
  tally-++ f [] m = omega arith
  tally-++ f (x ∷ l) m = omega (arith, tally-++ f l m)

  pub tally_cong : {f g : A → ℕ} (l : List A) → ((x : A) → x ∈ l → f x ≡ g x) → tally f l ≡ tally g l
  unfolding tally
  tally_cong [] h = refl
  tally_cong (x ∷ l) h = ap₂ ◌+◌ (h x (inl refl)) (tally_cong l (λ y m. h y (inr m)))

  pub tally-+ : (f g : A → ℕ) (l : List A) → tally (λ x. f x + g x) l ≡ tally f l + tally g l
  unfolding tally
  tally-+ f g [] = refl
  tally-+ f g (x ∷ l) = omega (arith, tally-+ f g l)

  pub tally_one : (l : List A) → tally (λ x. 1) l ≡ length l
  unfolding tally
  tally_one [] = refl
  tally_one (x ∷ l) = omega (arith, tally_one l)

  pub tally_map : {B : Type 0} (f : B → ℕ) (g : A → B) (l : List A) → tally f (map g l) ≡ tally (λ x. f (g x)) l
  unfolding tally
  tally_map f g [] = refl
  tally_map f g (x ∷ l) = ap (f (g x) +◌) (tally_map f g l)

  pub sum_tally : (f : A → ℕ) (l : List A) → sum (λ x. pos (f x)) l ≡ pos (tally f l)
  unfolding sum tally
  sum_tally f [] = refl
  sum_tally f (x ∷ l) = ap (λ z. pos (f x) +ℤ z) (sum_tally f l)

  pub tally_in : (f : A → ℕ) (x : A) (l : List A) → x ∈ l → f x ≤ tally f l
  unfolding tally
  tally_in f x [] m = absurd m
  tally_in f x (y ∷ l) (inl e) = omega (arith, ap f e)
  tally_in f x (y ∷ l) (inr m) = omega (arith, tally_in f x l m)

  -- a tally that is not 0 is so somewhere
  pub tally_some : (f : A → ℕ) (l : List A) → 0 < tally f l → (x : A) × (x ∈ l) × (0 < f x)
  unfolding tally
  tally_some f [] h = absurd (omega arith)
  tally_some f (x ∷ l) h = go (f x) refl (tally_some f l)
    where
      go : (n : ℕ) → f x ≡ n → (0 < tally f l → (y : A) × (y ∈ l) × (0 < f y)) → (y : A) × ((y ≡ x) ⊎ (y ∈ l)) × (0 < f y)
      go zero e ih = let r = ih (omega arith) in (r.0, inr r.1, r.2)
      go (suc n) e ih = (x, inl refl, omega arith)

  -- one place more
  pub tally_take : (f : A → ℕ) (l : List A) (z : A) (i : ℕ) → i < length l → tally f (take (i + 1) l) ≡ tally f (take i l) + f (get_or l i z)
  unfolding tally
  tally_take f l z i h = ap (λ k. tally f (take k l)) (add-one i) ∙ ap (tally f) (take-suc l i z h) ∙ tally-++ f (take i l) (get_or l i z ∷ []) ∙ omega arith

  pub tally_part : (f : A → ℕ) (l : List A) (i : ℕ) → tally f (take i l) ≤ tally f l
  tally_part f l i = omega (arith, ap (tally f) (take-append-drop i l), tally-++ f (take i l) (drop i l))

  -- no summand is larger than k
  pub tally_bound : (f : A → ℕ) (k : ℕ) (l : List A) → ((x : A) → x ∈ l → f x ≤ k) → tally f l ≤ length l * k
  unfolding tally
  tally_bound f k [] h = omega arith
  tally_bound f k (x ∷ l) h = omega (arith, h x (inl refl), tally_bound f k l (λ y m. h y (inr m)))

  pub tally_nil : (f : A → ℕ) (l : List A) → ((x : A) → x ∈ l → f x ≡ 0) → tally f l ≡ 0
  unfolding tally
  tally_nil f [] h = refl
  tally_nil f (x ∷ l) h = omega (arith, h x (inl refl), tally_nil f l (λ y m. h y (inr m)))

  -- ---- over those that pass a test
  module _ (P : A → Bool) where
    pub keep_sum : (f : A → ℤ) (l : List A) → sum f (keep P l) ≡ sum (λ x. only (P x) (f x)) l
    unfolding keep sum
    keep_sum f [] = refl
    keep_sum f (x ∷ l) = go (P x) (keep_sum f l)
      where
        go : (b : Bool) → sum f (keep P l) ≡ sum (λ y. only (P y) (f y)) l → sum f (cond b (x ∷ keep P l) (keep P l)) ≡ only b (f x) +ℤ sum (λ y. only (P y) (f y)) l
        go true e = ap (λ z. f x +ℤ z) e
        go false e = e ∙ sym (+ℤ_idl (sum (λ y. only (P y) (f y)) l))
