-- Lists in which neighbours are related: what is put in and taken out, and from neighbours to every two.
use mathlib.Core.Path.{◌≡◌, refl, sym, ap, subst}
use mathlib.Core.List.{List, [], ◌∷◌, ◌++◌}
use mathlib.Core.Logic.{inl, inr}
use Prim.Native.Nat.{ℕ, zero, suc, ◌≤◌, ◌<◌}
use native.Mathlib.Omega.{arith}
use lib.ListN.{length, get_or, take, drop, take-append-drop}
use lib.Seq.{split_at}
use Rattle.lists.specs.Members.{◌∈◌, Pairs}
use Rattle.lists.specs.Chain.{OfFirst, OfLast, Chain}

module _ {A : Type 0} where
  -- what holds of the first and of the others
  pub each : (P : A → Type 0) (k : A) (l : List A) → P k → ((i : A) → i ∈ l → P i) → (i : A) → i ∈ (k ∷ l) → P i
  each P k l p f i (inl e) = subst P (sym e) p
  each P k l p f i (inr m) = f i m

  -- the last of l is related to the first of r
  abbrev pub Join : (A → A → Type 0) → List A → List A → Type 0
  Join R l r = OfLast (λ x. OfFirst (R x) r) l

  pub last_take : (P : A → Type 0) (o : A) (l : List A) (p : ℕ) → p ≤ length l → ((k : ℕ) → suc k ≡ p → P (get_or l k o)) → OfLast P (take p l)
  last_take P o l zero h f = tt
  last_take P o [] (suc p) h f = tt
  last_take P o (x ∷ l) (suc zero) h f = f zero refl
  last_take P o (x ∷ []) (suc (suc p)) h f = absurd (omega arith)
  last_take P o (x ∷ (y ∷ l)) (suc (suc p)) h f = last_take P o (y ∷ l) (suc p) (omega arith) (λ k e. f (suc k) (ap suc e))

  pub first-drop : (P : A → Type 0) (o : A) (l : List A) (p : ℕ) → (p < length l → P (get_or l p o)) → OfFirst P (drop p l)
  first-drop P o [] zero f = tt
  first-drop P o (x ∷ l) zero f = f (omega arith)
  first-drop P o [] (suc p) f = tt
  first-drop P o (x ∷ l) (suc p) f = first-drop P o l p (λ h. f (omega arith))

module _ {A : Type 0} (R : A → A → Type 0) where
  pub chain_parts : (l r : List A) → Chain R (l ++ r) → Chain R l × Join R l r × Chain R r
  chain_parts [] r c = (tt, tt, c)
  chain_parts (x ∷ []) r c = ((tt, tt), c.0, c.1)
  chain_parts (x ∷ (y ∷ l)) r c = let (p, q, u) = chain_parts (y ∷ l) r c.1 in ((c.0, p), q, u)

  pub chain_join : (l r : List A) → Chain R l → Join R l r → Chain R r → Chain R (l ++ r)
  chain_join [] r p q u = u
  chain_join (x ∷ []) r p q u = (q, u)
  chain_join (x ∷ (y ∷ l)) r p q u = (p.0, chain_join (y ∷ l) r p.1 q u)

  -- one new pair where i goes
  pub chain_out : (l : List A) (i : A) (r : List A) → Chain R (l ++ (i ∷ r)) → Join R l r → Chain R (l ++ r)
  chain_out l i r c j = let (p, q, u) = chain_parts l (i ∷ r) c in chain_join l r p j u.1

  -- two where i comes
  pub chain_in : (l : List A) (i : A) (r : List A) → Chain R (l ++ r) → OfLast (λ x. R x i) l → OfFirst (R i) r → Chain R (l ++ (i ∷ r))
  chain_in l i r c j k = let (p, q, u) = chain_parts l r c in chain_join l (i ∷ r) p j (k, u)

  -- what is related along the list is so for every two
  pub chain_pairs : {S : A → A → Type 0} (l : List A) → ((x y : A) → x ∈ l → y ∈ l → R x y → S x y)
      → ((x y z : A) → x ∈ l → y ∈ l → z ∈ l → S x y → S y z → S x z) → Chain R l → Pairs S l
  chain_pairs [] f t c = tt
  chain_pairs (x ∷ []) f t c = (λ y m. absurd m, tt)
  chain_pairs {S} (x ∷ (y ∷ l)) f t c =
      let p = chain_pairs {S = S} (y ∷ l) (λ u v m n. f u v (inr m) (inr n)) (λ u v w m n o. t u v w (inr m) (inr n) (inr o)) c.1 in
      (each (S x) y l head (λ z m. t x y z (inl refl) (inr (inl refl)) (inr (inr m)) head (p.0 z m)), p)
    where
      head : S x y
      head = f x y (inl refl) (inr (inl refl)) c.0

module _ {A : Type 0} (R : A → A → Type 0) (o : A) where
  -- i comes before index p: two tests
  pub chain_put : (l : List A) (p : ℕ) (i : A) → p ≤ length l → Chain R l → ((k : ℕ) → suc k ≡ p → R (get_or l k o) i) → (p < length l → R i (get_or l p o)) → Chain R (take p l ++ (i ∷ drop p l))
  chain_put l p i h c f g = chain_in R (take p l) i (drop p l) (subst (Chain R) (sym (take-append-drop p l)) c) (last_take (λ x. R x i) o l p h f) (first-drop (R i) o l p g)

  -- index p goes: one test
  pub chain_take : (l : List A) (p : ℕ) → p < length l → Chain R l → ((k : ℕ) → suc k ≡ p → suc p < length l → R (get_or l k o) (get_or l (suc p) o)) → Chain R (take p l ++ drop (suc p) l)
  chain_take l p h c f = chain_out R (take p l) (get_or l p o) (drop (suc p) l) (subst (Chain R) (split_at l p o h) c)
      (last_take (λ x. OfFirst (R x) (drop (suc p) l)) o l p (omega arith) (λ k e. first-drop (R (get_or l k o)) o l (suc p) (f k e)))
