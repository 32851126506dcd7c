-- Identities of polynomials over ℤ, by computation: `ring8 (λ ax ay .. . lhs ≐ rhs) tt` proves lhs ≡ rhs of any eight integers.
-- An expression is expanded to a sorted list of monomials with integer coefficients, and the two sides are equal if that of their difference is empty.
use mathlib.Core.Path.{◌≡◌, refl, sym, ◌∙◌, ap, ap₂}
use mathlib.Core.List.{List, [], ◌∷◌}
use mathlib.Core.Bool.{Bool, true, false}
use Prim.Native.Nat.{ℕ, zero, suc, compare, Ordering}
use native.Mathlib.Omega.{arith}
use lib.Dec.{T, compare_is_eq, eqb, eqb→eq}
use lib.IntN.{ℤ, pos, negsuc, neg_ℤ, ◌+ℤ◌, ◌-ℤ◌, ◌*ℤ◌, +ℤ_assoc, +ℤ_idl, *ℤ-zero, zero-*ℤ}
use Rattle.integers.proofs.Difference.{to-ℕ, all1, all2, all3, all4}
use Rattle.integers.proofs.Laws.{*ℤ-assoc, +ℤ-*ℤ, *ℤ-+ℤ}

infixl 6 ◌⊞◌ ◌⊟◌
infixl 7 ◌⊠◌
infix 5 ◌≐◌
pub data E : Type 0 where
  var : ℕ → E
  con : ℤ → E
  ◌⊞◌ ◌⊟◌ ◌⊠◌ : E → E → E
  neg : E → E

pub data Eqn : Type 0 where
  ◌≐◌ : E → E → Eqn

abbrev pub nth : List ℤ → ℕ → ℤ
nth [] i = pos 0
nth (x ∷ ρ) zero = x
nth (x ∷ ρ) (suc i) = nth ρ i

abbrev pub val : E → List ℤ → ℤ
val (var i) ρ = nth ρ i
val (con z) ρ = z
val (a ⊞ b) ρ = val a ρ +ℤ val b ρ
val (a ⊟ b) ρ = val a ρ -ℤ val b ρ
val (a ⊠ b) ρ = val a ρ *ℤ val b ρ
val (neg a) ρ = neg_ℤ (val a ρ)

-- ---- polynomials: lists of monomials, each a coefficient and the list of its variables
pub data Poly : Type 0 where
  none : Poly
  more : ℤ → List ℕ → Poly → Poly

pub data Cmp : Type 0 where
  less same greater : Cmp

abbrev pub then_cmp : Ordering → Cmp → Cmp
then_cmp Ordering.lt c = less
then_cmp Ordering.eq c = c
then_cmp Ordering.gt c = greater

abbrev pub cmp : List ℕ → List ℕ → Cmp
cmp [] [] = same
cmp [] (j ∷ n) = less
cmp (i ∷ m) [] = greater
cmp (i ∷ m) (j ∷ n) = then_cmp (compare i j) (cmp m n)

abbrev pub is_zero : ℤ → Bool
is_zero (pos n) = eqb n 0
is_zero (negsuc n) = false

abbrev pub keep : Bool → ℤ → List ℕ → Poly → Poly
keep true c m p = p
keep false c m p = more c m p

abbrev pub step : Cmp → ℤ → List ℕ → ℤ → List ℕ → Poly → Poly → Poly
step less c m d n p r = more c m (more d n p)
step same c m d n p r = keep (is_zero (c +ℤ d)) (c +ℤ d) m p
step greater c m d n p r = more d n r

abbrev pub insert : ℤ → List ℕ → Poly → Poly
insert c m none = keep (is_zero c) c m none
insert c m (more d n p) = step (cmp m n) c m d n p (insert c m p)

abbrev pub plus : Poly → Poly → Poly
plus none q = q
plus (more c m p) q = insert c m (plus p q)

abbrev pub place : Ordering → ℕ → ℕ → List ℕ → List ℕ → List ℕ
place Ordering.lt i j n r = i ∷ (j ∷ n)
place Ordering.eq i j n r = i ∷ (j ∷ n)
place Ordering.gt i j n r = j ∷ r

abbrev pub ins : ℕ → List ℕ → List ℕ
ins i [] = i ∷ []
ins i (j ∷ n) = place (compare i j) i j n (ins i n)

abbrev pub merge : List ℕ → List ℕ → List ℕ
merge [] n = n
merge (i ∷ m) n = ins i (merge m n)

abbrev pub scale : ℤ → List ℕ → Poly → Poly
scale c m none = none
scale c m (more d n p) = insert (c *ℤ d) (merge m n) (scale c m p)

abbrev pub times : Poly → Poly → Poly
times none q = none
times (more c m p) q = plus (scale c m q) (times p q)

abbrev pub norm : E → Poly
norm (var i) = more (pos 1) (i ∷ []) none
norm (con z) = keep (is_zero z) z [] none
norm (a ⊞ b) = plus (norm a) (norm b)
norm (a ⊟ b) = plus (norm a) (scale (negsuc 0) [] (norm b))
norm (a ⊠ b) = times (norm a) (norm b)
norm (neg a) = scale (negsuc 0) [] (norm a)

abbrev pub empty : Poly → Bool
empty none = true
empty (more c m p) = false

-- ---- what they stand for
mon : List ℕ → List ℤ → ℤ
mon [] ρ = pos 1
mon (i ∷ m) ρ = nth ρ i *ℤ mon m ρ

pv : Poly → List ℤ → ℤ
pv none ρ = pos 0
pv (more c m p) ρ = c *ℤ mon m ρ +ℤ pv p ρ

-- ---- and that each step keeps it
zero_is : (c : ℤ) → T (is_zero c) → c ≡ pos 0
zero_is (pos n) t = ap pos (eqb→eq n 0 t)
zero_is (negsuc n) t = absurd t

a_drop : (x p : ℤ) → p ≡ pos 0 *ℤ x +ℤ p
a_drop = all2 _ (λ _ _ _ _. simp to-ℕ (omega arith))

a_same : (c d x p : ℤ) → (c +ℤ d) *ℤ x +ℤ p ≡ c *ℤ x +ℤ (d *ℤ x +ℤ p)
a_same = all4 _ (λ _ _ _ _ _ _ _ _. simp to-ℕ (omega arith))

a_swap : (a b p : ℤ) → b +ℤ (a +ℤ p) ≡ a +ℤ (b +ℤ p)
a_swap = all3 _ (λ _ _ _ _ _ _. simp to-ℕ (omega arith))

a-swap* : (a b p : ℤ) → b *ℤ (a *ℤ p) ≡ a *ℤ (b *ℤ p)
a-swap* = all3 _ (λ _ _ _ _ _ _. simp to-ℕ (omega arith))

a_scale : (c d x y q : ℤ) → (c *ℤ d) *ℤ (x *ℤ y) +ℤ (c *ℤ x) *ℤ q ≡ (c *ℤ x) *ℤ (d *ℤ y +ℤ q)
a_scale c d x y q = simp (*ℤ-+ℤ, *ℤ-assoc, a-swap*)

a_one : (x : ℤ) → pos 1 *ℤ (x *ℤ pos 1) +ℤ pos 0 ≡ x
a_one = all1 _ (λ _ _. simp to-ℕ (omega arith))

a_con : (x : ℤ) → x *ℤ pos 1 +ℤ pos 0 ≡ x
a_con = all1 _ (λ _ _. simp to-ℕ (omega arith))

a_neg : (x : ℤ) → (negsuc 0 *ℤ pos 1) *ℤ x ≡ neg_ℤ x
a_neg = all1 _ (λ _ _. simp to-ℕ (omega arith))

a_unit : (x : ℤ) → pos 1 *ℤ x ≡ x
a_unit = all1 _ (λ _ _. simp to-ℕ (omega arith))

a_diff : (x y : ℤ) → x -ℤ y ≡ pos 0 → x ≡ y
a_diff = all2 _ (λ _ _ _ _. simp to-ℕ (omega arith))

module _ (ρ : List ℤ) where
  keep_ok : (b : Bool) (c : ℤ) (m : List ℕ) (p : Poly) → (T b → c ≡ pos 0) → pv (keep b c m p) ρ ≡ c *ℤ mon m ρ +ℤ pv p ρ
  unfolding pv
  keep_ok true c m p f = a_drop (mon m ρ) (pv p ρ) ∙ ap (λ z. z *ℤ mon m ρ +ℤ pv p ρ) (sym (f tt))
  keep_ok false c m p f = refl

  then_same : (o : Ordering) (c : Cmp) → then_cmp o c ≡ same → T (compare_is_eq o) × (c ≡ same)
  then_same Ordering.lt c e = absurd (let z : ◌≡◌ {A = ℕ} 0 1 = cc in omega arith)
  then_same Ordering.eq c e = (tt, e)
  then_same Ordering.gt c e = absurd (let z : ◌≡◌ {A = ℕ} 0 1 = cc in omega arith)

  cmp_same : (m n : List ℕ) → cmp m n ≡ same → m ≡ n
  cmp_same [] [] e = refl
  cmp_same [] (j ∷ n) e = absurd (let z : ◌≡◌ {A = ℕ} 0 1 = cc in omega arith)
  cmp_same (i ∷ m) [] e = absurd (let z : ◌≡◌ {A = ℕ} 0 1 = cc in omega arith)
  cmp_same (i ∷ m) (j ∷ n) e =
      let h = then_same (compare i j) (cmp m n) e in
      ap₂ ◌∷◌ (eqb→eq i j h.0) (cmp_same m n h.1)

  step_ok : (k : Cmp) (c : ℤ) (m : List ℕ) (d : ℤ) (n : List ℕ) (p r : Poly) → (k ≡ same → m ≡ n) → pv r ρ ≡ c *ℤ mon m ρ +ℤ pv p ρ
      → pv (step k c m d n p r) ρ ≡ c *ℤ mon m ρ +ℤ (d *ℤ mon n ρ +ℤ pv p ρ)
  unfolding pv
  step_ok less c m d n p r f e = refl
  step_ok same c m d n p r f e =
      keep_ok (is_zero (c +ℤ d)) (c +ℤ d) m p (zero_is (c +ℤ d)) ∙ a_same c d (mon m ρ) (pv p ρ) ∙ ap (λ (l : List ℕ). c *ℤ mon m ρ +ℤ (d *ℤ mon l ρ +ℤ pv p ρ)) (f refl)
  step_ok greater c m d n p r f e = ap (λ z. d *ℤ mon n ρ +ℤ z) e ∙ a_swap (c *ℤ mon m ρ) (d *ℤ mon n ρ) (pv p ρ)

  insert_ok : (c : ℤ) (m : List ℕ) (p : Poly) → pv (insert c m p) ρ ≡ c *ℤ mon m ρ +ℤ pv p ρ
  unfolding pv
  insert_ok c m none = keep_ok (is_zero c) c m none (zero_is c)
  insert_ok c m (more d n p) = step_ok (cmp m n) c m d n p (insert c m p) (cmp_same m n) (insert_ok c m p)

  plus_ok : (p q : Poly) → pv (plus p q) ρ ≡ pv p ρ +ℤ pv q ρ
  unfolding pv
  plus_ok none q = sym (+ℤ_idl (pv q ρ))
  plus_ok (more c m p) q = insert_ok c m (plus p q) ∙ ap (λ z. c *ℤ mon m ρ +ℤ z) (plus_ok p q) ∙ sym (+ℤ_assoc (c *ℤ mon m ρ) (pv p ρ) (pv q ρ))

  place_ok : (o : Ordering) (i j : ℕ) (n r : List ℕ) → mon r ρ ≡ nth ρ i *ℤ mon n ρ → mon (place o i j n r) ρ ≡ nth ρ i *ℤ (nth ρ j *ℤ mon n ρ)
  unfolding mon
  place_ok Ordering.lt i j n r e = refl
  place_ok Ordering.eq i j n r e = refl
  place_ok Ordering.gt i j n r e = ap (λ z. nth ρ j *ℤ z) e ∙ a-swap* (nth ρ i) (nth ρ j) (mon n ρ)

  ins_ok : (i : ℕ) (n : List ℕ) → mon (ins i n) ρ ≡ nth ρ i *ℤ mon n ρ
  unfolding mon
  ins_ok i [] = refl
  ins_ok i (j ∷ n) = place_ok (compare i j) i j n (ins i n) (ins_ok i n)

  merge_ok : (m n : List ℕ) → mon (merge m n) ρ ≡ mon m ρ *ℤ mon n ρ
  unfolding mon
  merge_ok [] n = sym (a_unit (mon n ρ))
  merge_ok (i ∷ m) n = ins_ok i (merge m n) ∙ ap (λ z. nth ρ i *ℤ z) (merge_ok m n) ∙ sym (*ℤ-assoc (nth ρ i) (mon m ρ) (mon n ρ))

  scale_ok : (c : ℤ) (m : List ℕ) (p : Poly) → pv (scale c m p) ρ ≡ (c *ℤ mon m ρ) *ℤ pv p ρ
  unfolding pv
  scale_ok c m none = sym (*ℤ-zero (c *ℤ mon m ρ))
  scale_ok c m (more d n p) =
      insert_ok (c *ℤ d) (merge m n) (scale c m p) ∙ ap₂ (λ x y. (c *ℤ d) *ℤ x +ℤ y) (merge_ok m n) (scale_ok c m p)
      ∙ a_scale c d (mon m ρ) (mon n ρ) (pv p ρ)

  times_ok : (p q : Poly) → pv (times p q) ρ ≡ pv p ρ *ℤ pv q ρ
  unfolding pv
  times_ok none q = sym (zero-*ℤ (pv q ρ))
  times_ok (more c m p) q = plus_ok (scale c m q) (times p q) ∙ ap₂ ◌+ℤ◌ (scale_ok c m q) (times_ok p q) ∙ sym (+ℤ-*ℤ (c *ℤ mon m ρ) (pv p ρ) (pv q ρ))

  minus_ok : (p : Poly) → pv (scale (negsuc 0) [] p) ρ ≡ neg_ℤ (pv p ρ)
  unfolding mon
  minus_ok p = scale_ok (negsuc 0) [] p ∙ a_neg (pv p ρ)

  norm_ok : (e : E) → pv (norm e) ρ ≡ val e ρ
  unfolding pv mon
  norm_ok (var i) = a_one (nth ρ i)
  norm_ok (con z) = keep_ok (is_zero z) z [] none (zero_is z) ∙ a_con z
  norm_ok (a ⊞ b) = plus_ok (norm a) (norm b) ∙ ap₂ ◌+ℤ◌ (norm_ok a) (norm_ok b)
  norm_ok (a ⊟ b) = plus_ok (norm a) (scale (negsuc 0) [] (norm b)) ∙ ap₂ ◌+ℤ◌ (norm_ok a) (minus_ok (norm b) ∙ ap neg_ℤ (norm_ok b))
  norm_ok (a ⊠ b) = times_ok (norm a) (norm b) ∙ ap₂ ◌*ℤ◌ (norm_ok a) (norm_ok b)
  norm_ok (neg a) = minus_ok (norm a) ∙ ap neg_ℤ (norm_ok a)

  empty_ok : (p : Poly) → T (empty p) → pv p ρ ≡ pos 0
  unfolding pv
  empty_ok none t = refl
  empty_ok (more c m p) t = absurd t

-- ---- the tactic
abbrev pub holds : Eqn → Bool
holds (a ≐ b) = empty (norm (a ⊟ b))

abbrev pub means : Eqn → List ℤ → Type 0
means (a ≐ b) ρ = val a ρ ≡ val b ρ

pub ring : (e : Eqn) → T (holds e) → (ρ : List ℤ) → means e ρ
ring (a ≐ b) t ρ = a_diff (val a ρ) (val b ρ) (sym (norm_ok ρ (a ⊟ b)) ∙ empty_ok ρ (norm (a ⊟ b)) t)

pub ring2 : (eq : E → E → Eqn) → T (holds (eq (var 0) (var 1))) → (a b : ℤ) → means (eq (var 0) (var 1)) (a ∷ b ∷ [])
ring2 eq t a b = ring (eq (var 0) (var 1)) t (a ∷ b ∷ [])

pub ring3 : (eq : E → E → E → Eqn) → T (holds (eq (var 0) (var 1) (var 2))) → (a b c : ℤ) → means (eq (var 0) (var 1) (var 2)) (a ∷ b ∷ c ∷ [])
ring3 eq t a b c = ring (eq (var 0) (var 1) (var 2)) t (a ∷ b ∷ c ∷ [])

pub ring4 : (eq : E → E → E → E → Eqn) → T (holds (eq (var 0) (var 1) (var 2) (var 3))) → (a b c d : ℤ) → means (eq (var 0) (var 1) (var 2) (var 3)) (a ∷ b ∷ c ∷ d ∷ [])
ring4 eq t a b c d = ring (eq (var 0) (var 1) (var 2) (var 3)) t (a ∷ b ∷ c ∷ d ∷ [])

pub ring5 : (eq : E → E → E → E → E → Eqn) → T (holds (eq (var 0) (var 1) (var 2) (var 3) (var 4))) → (a b c d e : ℤ) → means (eq (var 0) (var 1) (var 2) (var 3) (var 4)) (a ∷ b ∷ c ∷ d ∷ e ∷ [])
ring5 eq t a b c d e = ring (eq (var 0) (var 1) (var 2) (var 3) (var 4)) t (a ∷ b ∷ c ∷ d ∷ e ∷ [])

pub ring6 : (eq : E → E → E → E → E → E → Eqn) → T (holds (eq (var 0) (var 1) (var 2) (var 3) (var 4) (var 5))) → (a b c d e f : ℤ) → means (eq (var 0) (var 1) (var 2) (var 3) (var 4) (var 5)) (a ∷ b ∷ c ∷ d ∷ e ∷ f ∷ [])
ring6 eq t a b c d e f = ring (eq (var 0) (var 1) (var 2) (var 3) (var 4) (var 5)) t (a ∷ b ∷ c ∷ d ∷ e ∷ f ∷ [])

pub ring7 : (eq : E → E → E → E → E → E → E → Eqn) → T (holds (eq (var 0) (var 1) (var 2) (var 3) (var 4) (var 5) (var 6))) → (a b c d e f g : ℤ) → means (eq (var 0) (var 1) (var 2) (var 3) (var 4) (var 5) (var 6)) (a ∷ b ∷ c ∷ d ∷ e ∷ f ∷ g ∷ [])
ring7 eq t a b c d e f g = ring (eq (var 0) (var 1) (var 2) (var 3) (var 4) (var 5) (var 6)) t (a ∷ b ∷ c ∷ d ∷ e ∷ f ∷ g ∷ [])

pub ring8 : (eq : E → E → E → E → E → E → E → E → Eqn) → T (holds (eq (var 0) (var 1) (var 2) (var 3) (var 4) (var 5) (var 6) (var 7))) → (a b c d e f g h : ℤ) → means (eq (var 0) (var 1) (var 2) (var 3) (var 4) (var 5) (var 6) (var 7)) (a ∷ b ∷ c ∷ d ∷ e ∷ f ∷ g ∷ h ∷ [])
ring8 eq t a b c d e f g h = ring (eq (var 0) (var 1) (var 2) (var 3) (var 4) (var 5) (var 6) (var 7)) t (a ∷ b ∷ c ∷ d ∷ e ∷ f ∷ g ∷ h ∷ [])
