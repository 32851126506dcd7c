-- A run of numbers that are all x, up to j.
use mathlib.Core.Path.{◌≡◌, ap, subst, ◌∙◌}
use native.Mathlib.Omega.{arith}
use native.Mathlib.Decide.{dec_lt}
use Prim.Native.Nat.{ℕ, ◌+◌, ◌<◌, ◌≤◌}
use lib.IntN.{ℤ}
use Rattle.meeting_sweep.specs.Events.{Past}

pub record Runs (f : ℕ → ℤ) (k many : ℕ) (x : ℤ) (j : ℕ) : Type 0 where
  pub from : k ≤ j
  pub till : j ≤ many
  pub here : (i : ℕ) → k ≤ i → i < j → f i ≡ x

pub runs_none : (f : ℕ → ℤ) (k many : ℕ) (x : ℤ) → k ≤ many → Runs f k many x k
runs_none f k many x h = record { from = omega arith; till = h; here = λ i p q. absurd (omega arith) }

pub runs_on : {f : ℕ → ℤ} {k many : ℕ} {x : ℤ} (j : ℕ) → Runs f k many x j → j < many → f j ≡ x → Runs f k many x (j + 1)
runs_on {f} {k} {x = x} j r h e = record { from = omega (arith, r.from); till = omega arith; here = λ i p q. go i p q (dec_lt i j) }
  where
    go : (i : ℕ) → k ≤ i → i < j + 1 → Dec (i < j) → f i ≡ x
    go i p q (yes l) = r.here i p l
    go i p q (no l) = let same : i ≡ j = omega arith in ap f same ∙ e

pub runs_out : {f : ℕ → ℤ} {k many : ℕ} {x : ℤ} {j : ℕ} → Runs f k many x j → (j < many → f j ≡ x → ⊥) → Past f k many x j
runs_out r p = record { from = r.from; till = r.till; here = r.here; past = p }

pub runs_end : {f : ℕ → ℤ} {k many : ℕ} {x : ℤ} {j r : ℕ} → Runs f k many x j → j ≡ r → r ≡ many → Past f k many x r
runs_end {f} {k} {many} {x} {j} n e h = subst (Past f k many x) e (runs_out n (λ l. absurd (omega arith)))

-- where the number at k is x, what is past lies further
pub past_further : {f : ℕ → ℤ} {k many : ℕ} {x : ℤ} {r : ℕ} → Past f k many x r → k < many → f k ≡ x → k < r
past_further {f} {k} {x = x} {r = r} p h e = go (dec_lt k r)
  where
    go : Dec (k < r) → k < r
    go (yes l) = l
    go (no l) = let same : r ≡ k = omega (arith, p.from) in absurd (p.past (omega arith) (ap f same ∙ e))
