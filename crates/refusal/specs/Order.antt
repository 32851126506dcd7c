-- Verdicts and their order: of several checks the first that refuses decides.
use Rattle.std.specs.Prelude.{Bool, true, false, cond, ℕ, zero, suc, Option, Some, None, Result, Ok, Err}
use Rattle.refusal.specs.declared.Kind.{Kind}
use Rattle.refusal.specs.declared.Refusal.{Refusal}

-- what a check finds: nothing wrong, or a refusal
abbrev pub Verdict : Type 0
Verdict = Result (Unit {0}) Refusal

-- nothing is wrong
abbrev pub accepted : Verdict
accepted = Ok tt

-- what is wrong, and at which place
abbrev pub refusal : Kind → ℕ → Refusal
refusal kind place = record { kind = kind; place = place }

-- refused for this, at this place
abbrev pub refused : Kind → ℕ → Verdict
refused kind place = Err (refusal kind place)

-- refused for this, with place 0, if b
abbrev pub refuse_if : Kind → Bool → Verdict
refuse_if kind b = cond b (refused kind 0) accepted

-- ---- by place: f tells what is wrong at a place, if anything is
-- this refusal at place i, or else the rest
abbrev pub refused_or : ℕ → Option Kind → Verdict → Verdict
refused_or i (Some kind) rest = refused kind i
refused_or i None rest = rest

-- the first of `left` places from i on at which something is wrong
unfoldable pub first_from : (ℕ → Option Kind) → ℕ → ℕ → Verdict
first_from f zero i = accepted
first_from f (suc left) i = refused_or i (f i) (first_from f left (suc i))

-- the first such place of n
unfoldable pub first : (ℕ → Option Kind) → ℕ → Verdict
first f n = first_from f n 0

-- ---- the order
-- v, unless something is refused before it
infixr 4 ◌then◌
abbrev pub ◌then◌ : Verdict → Verdict → Verdict
Ok _ then v = v
Err r then v = Err r

-- nothing is refused
abbrev pub is_accepted : Verdict → Bool
is_accepted (Ok _) = true
is_accepted (Err r) = false
