-- One check after the other, and the first place with a refusal: what it means that nothing is refused, and that something is.
use Rattle.std.proofs.Common.{◌≡◌, refl, sym, ap, ◌∙◌, Bool, true, false, true≢false, ℕ, zero, suc, ◌+◌, ◌-◌, ◌<◌, ◌≤◌, add-one, arith}
use Rattle.std.specs.Prelude.{Option, Some, None, Ok, Err}
use Rattle.refusal.specs.declared.Kind.{Kind}
use Rattle.refusal.specs.declared.Refusal.{Refusal}
use Rattle.refusal.specs.Order.{Verdict, accepted, refusal, refused, refuse_if, refused_or, first_from, first, ◌then◌, is_accepted}

-- a verdict is not both
pub not_both : {X : Type 0} {r : Refusal} → ◌≡◌ {A = Verdict} (Err r) accepted → X
not_both e = let bad : ⊥ = cc in absurd bad

module _ (f : ℕ → Option Kind) where
  -- one place of the search
  pub step : (n i : ℕ) → i < n → first_from f (n - i) i ≡ refused_or i (f i) (first_from f (n - (i + 1)) (i + 1))
  unfolding first_from
  step n i h = let e : n - i ≡ suc (n - suc i) = omega arith in rw (add-one, e)

  pub step-none : (n i : ℕ) → i < n → f i ≡ None → first_from f (n - i) i ≡ first_from f (n - (i + 1)) (i + 1)
  step-none n i h e = step n i h ∙ ap (λ o. refused_or i o (first_from f (n - (i + 1)) (i + 1))) e

  pub step-some : (n i : ℕ) (kind : Kind) → i < n → f i ≡ Some kind → first_from f (n - i) i ≡ refused kind i
  step-some n i kind h e = step n i h ∙ ap (λ o. refused_or i o (first_from f (n - (i + 1)) (i + 1))) e

  pub step_end : (n i : ℕ) → n ≤ i → first_from f (n - i) i ≡ accepted
  unfolding first_from
  step_end n i h = let e : n - i ≡ 0 = omega arith in rw e

  -- what is left at place i, by what is wrong there
  looked : (left i : ℕ) (o : Option Kind) → f i ≡ o → first_from f (suc left) i ≡ refused_or i o (first_from f left (suc i))
  unfolding first_from
  looked left i o e = ap (λ p. refused_or i p (first_from f left (suc i))) e

  -- nothing is refused exactly where nothing is wrong at any place
  pub none_from : (left i : ℕ) → first_from f left i ≡ accepted → (k : ℕ) → k < left → f (i + k) ≡ None
  none_from zero i e k h = absurd (omega arith)
  none_from (suc left) i e k h = go (f i) refl k h (none_from left (suc i))
    where
      go : (o : Option Kind) → f i ≡ o → (k : ℕ) → k < suc left → (first_from f left (suc i) ≡ accepted → (k : ℕ) → k < left → f (suc i + k) ≡ None) → f (i + k) ≡ None
      go None z zero h rest = ap f (omega arith) ∙ z
      go None z (suc k) h rest = ap f (omega arith) ∙ rest (sym (looked left i None z) ∙ e) k (omega arith)
      go (Some kind) z k h rest = not_both (sym (looked left i (Some kind) z) ∙ e)

  -- what a refusal tells of its place
  pub record At (n : ℕ) (r : Refusal) : Type 0 where
    pub inside : r.place < n
    pub is : f r.place ≡ Some r.kind

  at_from : (left i : ℕ) (r : Refusal) → first_from f left i ≡ Err r → At (i + left) r
  unfolding first_from
  at_from zero i r e = not_both (sym e)
  at_from (suc left) i r e = go (f i) refl (at_from left (suc i) r)
    where
      go : (o : Option Kind) → f i ≡ o → (first_from f left (suc i) ≡ Err r → At (suc i + left) r) → At (i + suc left) r
      go None z rest = let a = rest (sym (looked left i None z) ∙ e) in record { inside = omega (arith, a.inside); is = a.is }
      go (Some kind) z rest =
          let q : refused kind i ≡ Err r = sym (looked left i (Some kind) z) ∙ e in
          let s : refusal kind i ≡ r = cc in
          let p : i ≡ r.place = ap (λ (x : Refusal). x.place) s in
          record { inside = omega arith; is = ap f (sym p) ∙ z ∙ ap (λ (x : Refusal). Some x.kind) s }

module _ (f : ℕ → Option Kind) (n : ℕ) where
  pub first-none : first f n ≡ accepted → (i : ℕ) → i < n → f i ≡ None
  unfolding first
  first-none e i h = ap f (omega arith) ∙ none_from f n 0 e i h

  pub first-at : (r : Refusal) → first f n ≡ Err r → At f n r
  unfolding first
  first-at r e = let a = at_from f n 0 r e in record { inside = omega (arith, a.inside); is = a.is }

  -- nothing is wrong at any place
  pub all_none : ((i : ℕ) → i < n → f i ≡ None) → first f n ≡ accepted
  all_none none = go (first f n) refl
    where
      go : (v : Verdict) → first f n ≡ v → v ≡ accepted
      go (Ok _) e = refl
      go (Err r) e = let a = first-at r e in let bad : ⊥ = differ (sym (none r.place a.inside) ∙ a.is) in absurd bad
        where
          differ : {k : Kind} → ◌≡◌ {A = Option Kind} None (Some k) → ⊥
          differ q = cc

-- ---- one after the other
-- a refusal stays
pub refused_then : (v w : Verdict) {r : Refusal} → v ≡ Err r → (v then w) ≡ v
refused_then v w {r} e = ap (λ (u : Verdict). u then w) e ∙ sym e

-- both accept
pub accepted_then : (v w : Verdict) → (v then w) ≡ accepted → (v ≡ accepted) × (w ≡ accepted)
accepted_then (Ok _) w e = (refl, e)
accepted_then (Err r) w e = not_both e

-- the one refuses, or the other
pub refused_by : {X : Type 0} (v w : Verdict) {r : Refusal} → (v then w) ≡ Err r → (v ≡ Err r → X) → (w ≡ Err r → X) → X
refused_by (Ok _) w e f g = g e
refused_by (Err r) w e f g = f e

pub accepted_if : (kind : Kind) (b : Bool) → refuse_if kind b ≡ accepted → b ≡ false
accepted_if kind true e = not_both e
accepted_if kind false e = refl

-- a refusal with place 0
pub record If (b : Bool) (kind : Kind) (r : Refusal) : Type 0 where
  pub holds : b ≡ true
  pub is : refusal kind 0 ≡ r

pub refused_if : (kind : Kind) (b : Bool) (r : Refusal) → refuse_if kind b ≡ Err r → If b kind r
refused_if kind true r e = record { holds = refl; is = cc }
refused_if kind false r e = not_both (sym e)

-- the order does not depend on how checks are put together
pub then_assoc : (u v w : Verdict) → ((u then v) then w) ≡ (u then v then w)
then_assoc (Ok _) v w = refl
then_assoc (Err r) v w = refl

pub is_accepted_lem : (v : Verdict) → is_accepted v ≡ true → v ≡ accepted
is_accepted_lem (Ok _) e = refl
is_accepted_lem (Err r) e = absurd (true≢false (sym e))

-- what a `?` passes on is what the whole refuses
pub passed_on : (v w : Verdict) {r : Verdict} {e : Refusal} → r ≡ Err e → v ≡ Err e → r ≡ (v then w)
passed_on v w p q = p ∙ sym q ∙ sym (refused_then v w q)
