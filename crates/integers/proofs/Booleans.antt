-- Booleans: what a conjunction, a disjunction or a negation tells of its parts.
use mathlib.Core.Path.{◌≡◌, refl, sym, ◌∙◌, ap}
use mathlib.Core.Logic.{◌⊎◌, inl, inr}
use lib.Dec.{T}
use mathlib.Core.Bool.{Bool, true, false, ◌&&◌, ◌||◌, true≢false}

pub dec : (b : Bool) → (b ≡ true) ⊎ (b ≡ false)
dec true = inl refl
dec false = inr refl

pub both : {a b : Bool} → a ≡ true → b ≡ true → (a && b) ≡ true
both {a} {b} p q = ap (λ (c : Bool). c && b) p ∙ q

pub both_l : (a b : Bool) → (a && b) ≡ true → a ≡ true
both_l true b e = refl
both_l false b e = e

pub both_r : (a b : Bool) → (a && b) ≡ true → b ≡ true
both_r true b e = e
both_r false b e = absurd (true≢false (sym e))

pub not_l : {a : Bool} (b : Bool) → a ≡ false → (a && b) ≡ false
not_l b p = ap (λ (c : Bool). c && b) p

pub not_r : (a : Bool) {b : Bool} → b ≡ false → (a && b) ≡ false
not_r true p = p
not_r false p = refl

-- a test that holds, before another
pub on : {s u v : Bool} → s ≡ true → u ≡ v → (s && u) ≡ v
on {u = u} p q = ap (λ (b : Bool). b && u) p ∙ q

pub and_true : (a : Bool) {b : Bool} → b ≡ true → (a && b) ≡ a
and_true true p = p
and_true false p = refl

pub or_l : {a : Bool} (b : Bool) → a ≡ true → (a || b) ≡ true
or_l b p = ap (λ (c : Bool). c || b) p

pub or_r : (a : Bool) {b : Bool} → b ≡ true → (a || b) ≡ true
or_r true p = refl
or_r false p = p

pub or_false : (a : Bool) → (a || false) ≡ a
or_false true = refl
or_false false = refl

pub neither : {a b : Bool} → a ≡ false → b ≡ false → (a || b) ≡ false
neither {a} {b} p q = ap (λ (c : Bool). c || b) p ∙ q

pub nor_l : (a b : Bool) → (a || b) ≡ false → a ≡ false
nor_l true b e = e
nor_l false b e = refl

pub nor_r : (a b : Bool) → (a || b) ≡ false → b ≡ false
nor_r true b e = absurd (true≢false e)
nor_r false b e = e

pub one_of : (a b : Bool) → (a || b) ≡ true → (a ≡ true) ⊎ (b ≡ true)
one_of true b e = inl refl
one_of false b e = inr e

pub clash : {b : Bool} → b ≡ true → b ≡ false → ⊥
clash p q = true≢false (sym p ∙ q)

pub is_t : (a : Bool) → T a → a ≡ true
is_t true t = refl
is_t false t = absurd t

pub is_false : (a : Bool) → (a ≡ true → ⊥) → a ≡ false
is_false true f = absurd (f refl)
is_false false f = refl

-- two tests that imply one another
pub same_test : (a b : Bool) → (a ≡ true → b ≡ true) → (b ≡ true → a ≡ true) → a ≡ b
same_test true b f g = sym (f refl)
same_test false true f g = sym (sym (g refl))
same_test false false f g = refl
