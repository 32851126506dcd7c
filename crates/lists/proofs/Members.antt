-- Members, pairs of places, and members that pass a test.
use mathlib.Core.Path.{◌≡◌, refl, sym, ◌∙◌, ap, subst}
use mathlib.Core.List.{List, [], ◌∷◌, ◌++◌, map}
use mathlib.Core.Logic.{◌⊎◌, inl, inr}
use mathlib.Core.Bool.{Bool, true, false, ◌||◌, true≢false, cond}
use Prim.Native.Nat.{ℕ, zero, suc, ◌<◌, ◌≤◌, ◌+◌}
use native.Mathlib.Omega.{arith}
use lib.ListN.{length, get_or, take, drop}
use native.Mathlib.Numerals.{add-one}
use lib.Seq.{drop-cons}
use Rattle.integers.proofs.Booleans.{dec, clash, nor_l, nor_r, one_of}
use Rattle.lists.specs.Members.{◌∈◌, Pairs, any, keep}

pub cases : {A B C : Type 0} → (A → C) → (B → C) → A ⊎ B → C
cases f g (inl a) = f a
cases f g (inr b) = g b

-- ---- members and places
module _ {A : Type 0} where
  pub in_at : (l : List A) (z : A) (i : ℕ) → i < length l → get_or l i z ∈ l
  in_at [] z i h = absurd (omega arith)
  in_at (x ∷ l) z zero h = inl refl
  in_at (x ∷ l) z (suc i) h = inr (in_at l z i (omega arith))

  -- a member stands at a place
  pub record Stands (l : List A) (z x : A) : Type 0 where
    pub place : ℕ
    pub inside : place < length l
    pub is : get_or l place z ≡ x

  pub stands : (l : List A) (z x : A) → x ∈ l → Stands l z x
  stands [] z x m = absurd m
  stands (y ∷ l) z x (inl e) = record { place = 0; inside = omega arith; is = sym e }
  stands (y ∷ l) z x (inr m) = let s = stands l z x m in record { place = suc s.place; inside = omega (arith, s.inside); is = s.is }

  -- two places, the earlier first
  pub pairs_of : (R : A → A → Type 0) (l : List A) (z : A) → ((i : ℕ) → i < length l → (y : A) → y ∈ drop (suc i) l → R (get_or l i z) y) → Pairs R l
  pairs_of R [] z h = tt
  pairs_of R (x ∷ l) z h = (λ y m. h 0 (omega arith) y m, pairs_of R l z (λ i k. h (suc i) (omega arith)))

  pub pairs_places : (R : A → A → Type 0) (l : List A) (z : A) → Pairs R l → (i : ℕ) → i < length l → (y : A) → y ∈ drop (suc i) l → R (get_or l i z) y
  pairs_places R [] z p i h = absurd (omega arith)
  pairs_places R (x ∷ l) z p zero h = p.0
  pairs_places R (x ∷ l) z p (suc i) h = pairs_places R l z p.1 i (omega arith)

  pub pairs_map : {R S : A → A → Type 0} → (l : List A) → ((x y : A) → x ∈ l → y ∈ l → R x y → S x y) → Pairs R l → Pairs S l
  pairs_map [] f h = tt
  pairs_map (x ∷ l) f h = (λ y m. f x y (inl refl) (inr m) (h.0 y m), pairs_map l (λ y z m n. f y z (inr m) (inr n)) h.1)

  -- two members stand at one place or at two
  pub pairs_at : (R : A → A → Type 0) (l : List A) → Pairs R l → (x y : A) → x ∈ l → y ∈ l → (x ≡ y) ⊎ (R x y ⊎ R y x)
  pairs_at R [] h x y m n = absurd m
  pairs_at R (z ∷ l) h x y (inl e) (inl f) = inl (e ∙ sym f)
  pairs_at R (z ∷ l) h x y (inl e) (inr n) = inr (inl (subst (λ w. R w y) (sym e) (h.0 y n)))
  pairs_at R (z ∷ l) h x y (inr m) (inl f) = inr (inr (subst (λ w. R w x) (sym f) (h.0 x m)))
  pairs_at R (z ∷ l) h x y (inr m) (inr n) = pairs_at R l h.1 x y m n

  -- a later place
  pub in_after : (l : List A) (z : A) (i j : ℕ) → i < j → j < length l → get_or l j z ∈ drop (suc i) l
  in_after [] z i j h k = absurd (omega arith)
  in_after (x ∷ l) z i zero h k = absurd (omega arith)
  in_after (x ∷ l) z zero (suc j) h k = in_at l z j (omega arith)
  in_after (x ∷ l) z (suc i) (suc j) h k = in_after l z i j (omega arith) (omega arith)

  -- among the first k
  pub in_take : (k : ℕ) (l : List A) (x : A) → x ∈ take k l → x ∈ l
  in_take zero l x m = absurd m
  in_take (suc k) [] x m = absurd m
  in_take (suc k) (y ∷ l) x (inl e) = inl e
  in_take (suc k) (y ∷ l) x (inr m) = inr (in_take k l x m)

  -- past the first k
  pub in_drop : (k : ℕ) (l : List A) (x : A) → x ∈ drop k l → x ∈ l
  in_drop zero l x m = m
  in_drop (suc k) [] x m = m
  in_drop (suc k) (y ∷ l) x m = inr (in_drop k l x m)

  -- the same of parts of a list
  pub pairs_take : (R : A → A → Type 0) (k : ℕ) (l : List A) → Pairs R l → Pairs R (take k l)
  pairs_take R zero l p = tt
  pairs_take R (suc k) [] p = tt
  pairs_take R (suc k) (x ∷ l) p = (λ y m. p.0 y (in_take k l y m), pairs_take R k l p.1)

  pub pairs_drop : (R : A → A → Type 0) (k : ℕ) (l : List A) → Pairs R l → Pairs R (drop k l)
  pairs_drop R zero l p = p
  pairs_drop R (suc k) [] p = tt
  pairs_drop R (suc k) (x ∷ l) p = pairs_drop R k l p.1

  -- one of the first k, and the one at place k
  pub pairs_before : (R : A → A → Type 0) (l : List A) (z : A) → Pairs R l → (k : ℕ) → k < length l → (y : A) → y ∈ take k l → R y (get_or l k z)
  pairs_before R [] z p k h y m = absurd (omega arith)
  pairs_before R (x ∷ l) z p zero h y m = absurd m
  pairs_before R (x ∷ l) z p (suc k) h y (inl e) = subst (λ w. R w (get_or l k z)) (sym e) (p.0 (get_or l k z) (in_at l z k (omega arith)))
  pairs_before R (x ∷ l) z p (suc k) h y (inr m) = pairs_before R l z p.1 k (omega arith) y m

  -- ---- joined and mapped lists
  pub in-++ : (x : A) (l m : List A) → x ∈ (l ++ m) → (x ∈ l) ⊎ (x ∈ m)
  in-++ x [] m h = inr h
  in-++ x (y ∷ l) m (inl e) = inl (inl e)
  in-++ x (y ∷ l) m (inr h) = cases (λ n. inl (inr n)) (λ n. inr n) (in-++ x l m h)

  pub in_left : (x : A) (l m : List A) → x ∈ l → x ∈ (l ++ m)
  in_left x [] m h = absurd h
  in_left x (y ∷ l) m (inl e) = inl e
  in_left x (y ∷ l) m (inr h) = inr (in_left x l m h)

  pub in_right : (x : A) (l m : List A) → x ∈ m → x ∈ (l ++ m)
  in_right x [] m h = h
  in_right x (y ∷ l) m h = inr (in_right x l m h)

  pub in_map : {B : Type 0} (g : A → B) (y : B) (l : List A) → y ∈ map g l → (x : A) × (x ∈ l) × (y ≡ g x)
  in_map g y [] m = absurd m
  in_map g y (x ∷ l) (inl e) = (x, inl refl, e)
  in_map g y (x ∷ l) (inr m) = let r = in_map g y l m in (r.0, inr r.1, r.2)

  pub map_in : {B : Type 0} (g : A → B) (x : A) (l : List A) → x ∈ l → g x ∈ map g l
  map_in g x [] m = absurd m
  map_in g x (y ∷ l) (inl e) = inl (ap g e)
  map_in g x (y ∷ l) (inr m) = inr (map_in g x l m)

  -- R holds of two lists, and of one of each
  pub pairs-++ : (R : A → A → Type 0) (l m : List A) → Pairs R l → Pairs R m → ((x y : A) → x ∈ l → y ∈ m → R x y) → Pairs R (l ++ m)
  pairs-++ R [] m h k f = k
  pairs-++ R (x ∷ l) m h k f = (λ y n. cases (h.0 y) (f x y (inl refl)) (in-++ y l m n), pairs-++ R l m h.1 k (λ y z n o. f y z (inr n) o))

  -- ---- some member
  pub any_false : (P : A → Bool) (l : List A) → any P l ≡ false → (x : A) → x ∈ l → P x ≡ false
  unfolding any
  any_false P [] e x m = absurd m
  any_false P (y ∷ l) e x (inl q) = ap P q ∙ nor_l (P y) (any P l) e
  any_false P (y ∷ l) e x (inr m) = any_false P l (nor_r (P y) (any P l) e) x m

  -- the member that passes
  pub record Some (P : A → Bool) (l : List A) : Type 0 where
    pub member : A
    pub in_list : member ∈ l
    pub passes : P member ≡ true

  pub any_some : (P : A → Bool) (l : List A) → any P l ≡ true → Some P l
  unfolding any
  any_some P [] e = absurd (true≢false (sym e))
  any_some P (y ∷ l) e = go (one_of (P y) (any P l) e) (any_some P l)
    where
      go : (P y ≡ true) ⊎ (any P l ≡ true) → (any P l ≡ true → Some P l) → Some P (y ∷ l)
      go (inl p) rest = record { member = y; in_list = inl refl; passes = p }
      go (inr p) rest = let s = rest p in record { member = s.member; in_list = inr s.in_list; passes = s.passes }

  pub any_in : (P : A → Bool) (l : List A) (x : A) → x ∈ l → P x ≡ true → any P l ≡ true
  any_in P l x m h = go (dec (any P l))
    where
      go : (any P l ≡ true) ⊎ (any P l ≡ false) → any P l ≡ true
      go (inl e) = e
      go (inr e) = absurd (clash h (any_false P l e x m))

  -- one place more
  pub any_step : (P : A → Bool) (l : List A) (z : A) (k : ℕ) → k < length l → any P (drop k l) ≡ (P (get_or l k z) || any P (drop (k + 1) l))
  unfolding any
  any_step P l z k h = rw (add-one, drop-cons l k z h)

  -- ---- those that pass a test
  module _ (P : A → Bool) where
    pub keep_in : (x : A) (l : List A) → x ∈ keep P l → (x ∈ l) × (P x ≡ true)
    unfolding keep
    keep_in x [] m = absurd m
    keep_in x (y ∷ l) m = go (P y) refl m (keep_in x l)
      where
        go : (b : Bool) → P y ≡ b → x ∈ cond b (y ∷ keep P l) (keep P l) → (x ∈ keep P l → (x ∈ l) × (P x ≡ true)) → ((x ≡ y) ⊎ (x ∈ l)) × (P x ≡ true)
        go true e (inl q) f = (inl q, ap P q ∙ e)
        go true e (inr n) f = (inr (f n).0, (f n).1)
        go false e n f = (inr (f n).0, (f n).1)

    pub in_keep : (x : A) (l : List A) → x ∈ l → P x ≡ true → x ∈ keep P l
    unfolding keep
    in_keep x [] m e = absurd m
    in_keep x (y ∷ l) m e = go (P y) refl m (in_keep x l)
      where
        go : (b : Bool) → P y ≡ b → (x ≡ y) ⊎ (x ∈ l) → (x ∈ l → P x ≡ true → x ∈ keep P l) → x ∈ cond b (y ∷ keep P l) (keep P l)
        go true q (inl p) ih = inl p
        go true q (inr n) ih = inr (ih n e)
        go false q (inl p) ih = let z : ◌≡◌ {A = ℕ} 0 1 = cc (ap P p) in absurd (omega arith)
        go false q (inr n) ih = ih n e

    pub keep-++ : (l m : List A) → keep P (l ++ m) ≡ keep P l ++ keep P m
    unfolding keep
    keep-++ [] m = refl
    keep-++ (x ∷ l) m = go (P x) (keep-++ l m)
      where
        go : (b : Bool) → keep P (l ++ m) ≡ keep P l ++ keep P m → cond b (x ∷ keep P (l ++ m)) (keep P (l ++ m)) ≡ cond b (x ∷ keep P l) (keep P l) ++ keep P m
        go true e = ap (x ∷◌) e
        go false e = e

    pub keep_all : (l : List A) → ((x : A) → x ∈ l → P x ≡ true) → keep P l ≡ l
    unfolding keep
    keep_all [] h = refl
    keep_all (x ∷ l) h = rw (h x (inl refl), keep_all l (λ y m. h y (inr m)))

    pub keep_none : (l : List A) → ((x : A) → x ∈ l → P x ≡ false) → keep P l ≡ []
    unfolding keep
    keep_none [] h = refl
    keep_none (x ∷ l) h = rw (h x (inl refl), keep_none l (λ y m. h y (inr m)))

    pub length_keep : (l : List A) → length (keep P l) ≤ length l
    unfolding keep
    length_keep [] = omega arith
    length_keep (x ∷ l) = go (P x) (length_keep l)
      where
        go : (b : Bool) → length (keep P l) ≤ length l → length (cond b (x ∷ keep P l) (keep P l)) ≤ suc (length l)
        go true h = omega arith
        go false h = omega arith

    -- what holds of every two places
    pub pairs_keep : (R : A → A → Type 0) (l : List A) → Pairs R l → Pairs R (keep P l)
    unfolding keep
    pairs_keep R [] h = tt
    pairs_keep R (x ∷ l) h = go (P x) (pairs_keep R l h.1)
      where
        go : (b : Bool) → Pairs R (keep P l) → Pairs R (cond b (x ∷ keep P l) (keep P l))
        go true p = (λ y m. h.0 y (keep_in y l m).0, p)
        go false p = p

  -- a test that says the same of every member
  pub keep_cong : (P Q : A → Bool) (l : List A) → ((x : A) → x ∈ l → P x ≡ Q x) → keep P l ≡ keep Q l
  unfolding keep
  keep_cong P Q [] h = refl
  keep_cong P Q (x ∷ l) h = rw (h x (inl refl), keep_cong P Q l (λ y m. h y (inr m)))

  -- a test of what members become
  pub keep_map : {B : Type 0} (P : B → Bool) (g : A → B) (l : List A) → keep P (map g l) ≡ map g (keep (λ x. P (g x)) l)
  unfolding keep
  keep_map P g [] = refl
  keep_map P g (x ∷ l) = go (P (g x)) (keep_map P g l)
    where
      go : (b : Bool) → keep P (map g l) ≡ map g (keep (λ y. P (g y)) l) → cond b (g x ∷ keep P (map g l)) (keep P (map g l)) ≡ map g (cond b (x ∷ keep (λ y. P (g y)) l) (keep (λ y. P (g y)) l))
      go true e = ap (g x ∷◌) e
      go false e = e
