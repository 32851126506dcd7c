-- A text is written exactly where nothing was refused before and it fits.
use mathlib.Core.Path.{◌≡◌, refl, sym, ap, ◌∙◌}
use mathlib.Core.Bool.{Bool, true, false}
use mathlib.Core.List.{List}
use Prim.Native.Nat.{ℕ, ◌*◌, ◌≤◌}
use native.Mathlib.Omega.{arith}
use borrow.Author.Tests.{le-ltb}
use lib.ListN.{length}
use Rattle.lists.specs.Written.{written}
use Rattle.lists.proofs.Written.{take_written}
use Rattle.std.specs.Prelude.{Ok, Err}
use Rattle.refusal.specs.declared.Kind.TheVariants.{TooShort}
use Rattle.refusal.specs.declared.Refusal.{Refusal}
use Rattle.refusal.specs.Order.{Verdict, accepted, refusal, refuse_if, ◌then◌}
use Rattle.refusal.specs.Asked.{lent, too_short}
use Rattle.text.proofs.Storing.{long_enough}
use Rattle.text.proofs.Storing.StoredRows.{differ}
use Rattle.stored_text.specs.Outcome.{outcome, answered, written_unless}
use Rattle.stored_text.specs.Laws.{bytes_of}

pub record Written (before : Verdict) (text old : List ℕ) : Type 0 where
  pub accepted : before ≡ accepted
  pub fits : length text ≤ length old
  pub is : written_unless before text old ≡ outcome (Ok (length text)) (written text old)

pub writes : {before : Verdict} (text old : List ℕ) → before ≡ accepted → length text ≤ length old → written_unless before text old ≡ outcome (Ok (length text)) (written text old)
unfolding written_unless too_short
writes text old e h = rw (e, le-ltb (length old) (1 * length text) (omega (arith, h)))

pub was_written : (before : Verdict) (text old : List ℕ) {n : ℕ} → (written_unless before text old).answer ≡ Ok n → Written before text old
unfolding written_unless
was_written before text old {n} e = go before refl (too_short (length text) (lent (length old) 1)) refl e
  where
    go : (v : Verdict) → before ≡ v → (b : Bool) → too_short (length text) (lent (length old) 1) ≡ b → (answered (v then refuse_if TooShort b) text old).answer ≡ Ok n → Written before text old
    go (Err e) p b q a = absurd (differ (cc))
    go (Ok _) p true q a = absurd (differ (cc))
    go (Ok _) p false q a = let room = long_enough (length text) (length old) q in record { accepted = p; fits = room; is = writes text old p room }

pub bytes_written : {before : Verdict} {text old : List ℕ} → Written before text old → bytes_of (written_unless before text old) ≡ text
bytes_written {before} {text} {old} w = ap bytes_of w.is ∙ take_written text old (length text) refl

-- ---- what the code answers
module _ (text old : List ℕ) where
  -- what was refused before stays
  pub refused_before : {before : Verdict} {e : Refusal} → before ≡ Err e → outcome (Err e) old ≡ written_unless before text old
  unfolding written_unless
  refused_before q = ap (λ (v : Verdict). answered (v then refuse_if TooShort (too_short (length text) (lent (length old) 1))) text old) (sym q)

  -- then there is room or not
  pub no_room : too_short (length text) (lent (length old) 1) ≡ true → outcome (Err (refusal TooShort 0)) old ≡ written_unless accepted text old
  unfolding written_unless
  no_room e = rw e
