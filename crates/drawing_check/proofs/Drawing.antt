-- What the verdict on a drawing says of its places: what it means that 8 and 9 fit nowhere, and how the code finds them.
use mathlib.Core.Path.{◌≡◌, refl, ap}
use mathlib.Core.Logic.{◌↔◌}
use mathlib.Core.Bool.{Bool, true, false, not, cond, ◌&&◌}
use Prim.Native.Nat.{ℕ, zero, suc, ◌<◌}
use Rattle.std.specs.Prelude.{Option, Some, None}
use lib.ListN.{length, drop}
use Rattle.integers.proofs.Booleans.{clash, is_false, both_l, both_r}
use Rattle.lists.specs.Members.{any}
use Rattle.lists.proofs.Members.{pairs_of, pairs_places, any_some, any_false}
use Rattle.refusal.specs.declared.Kind.TheVariants.{WrongMeeting, Unbalanced}
use Rattle.refusal.specs.Order.{Verdict, accepted, refused, refused_or, first_from, first}
use Rattle.refusal.proofs.Order.{first-none, all_none, accepted_then}
use Rattle.segm.specs.Segments.{Drawing, nowhere, segment_at}
use Rattle.faults.specs.Faults.{faults_of}
use Rattle.faults.proofs.Faults.{last}
use Rattle.meetings.specs.Meetings.{meets_wrongly, NoneMeetWrongly}
use Rattle.balance.specs.Balance.{balances, unbalanced, first_place, first_unbalanced}
use Rattle.drawing_check.specs.Drawing.{meeting_at, meetings_of, unbalanced_at, unbalanced_of, drawing_verdict}

-- ---- 8
-- 8 fits nowhere exactly where no two segments meet wrongly
pub no_meeting : (d : Drawing) → (meetings_of d ≡ accepted) ↔ NoneMeetWrongly d
unfolding meetings_of meeting_at segment_at
no_meeting d = (
  λ e. pairs_of (λ s t. meets_wrongly s t ≡ false) d nowhere (λ i h. any_false (meets_wrongly (segment_at d i)) (drop (suc i) d) (last (any (meets_wrongly (segment_at d i)) (drop (suc i) d)) WrongMeeting (first-none (meeting_at d) (length d) e i h))),
  λ p. all_none (meeting_at d) (length d) (λ i h. ap (λ (b : Bool). cond b (Some WrongMeeting) None) (none p i h)),
)
  where
    none : NoneMeetWrongly d → (i : ℕ) → i < length d → any (meets_wrongly (segment_at d i)) (drop (suc i) d) ≡ false
    none p i h = is_false (any (meets_wrongly (segment_at d i)) (drop (suc i) d)) (λ e. let s = any_some (meets_wrongly (segment_at d i)) (drop (suc i) d) e in
        clash s.passes (pairs_places (λ s t. meets_wrongly s t ≡ false) d nowhere p i h s.member s.in_list))

-- ---- 9
pub balanced_at : (d : Drawing) → unbalanced_of d ≡ accepted → (i : ℕ) → i < length d → (balances d (segment_at d i).a ≡ true) × (balances d (segment_at d i).b ≡ true)
unfolding unbalanced_of unbalanced_at
balanced_at d e i l =
    let both = balanced (balances d (segment_at d i).a && balances d (segment_at d i).b) (first-none (unbalanced_at d) (length d) e i l) in
    (both_l (balances d (segment_at d i).a) (balances d (segment_at d i).b) both, both_r (balances d (segment_at d i).a) (balances d (segment_at d i).b) both)
  where
    balanced : (b : Bool) → cond b None (Some Unbalanced) ≡ None → b ≡ true
    balanced true e = refl
    balanced false e = let bad : ⊥ = cc in absurd bad

-- 9 at a place, if there is one
abbrev pub nine_at : Option ℕ → Verdict
nine_at (Some place) = refused Unbalanced place
nine_at None = accepted

module _ (d : Drawing) where
  first_nine_from : (left i : ℕ) → first_from (unbalanced_at d) left i ≡ nine_at (first_place (unbalanced d) left i)
  unfolding first_from first_place unbalanced_at unbalanced
  first_nine_from zero i = refl
  first_nine_from (suc left) i = go (balances d (segment_at d i).a && balances d (segment_at d i).b) (first_nine_from left (suc i))
    where
      go : (b : Bool) → first_from (unbalanced_at d) left (suc i) ≡ nine_at (first_place (unbalanced d) left (suc i))
          → refused_or i (cond b None (Some Unbalanced)) (first_from (unbalanced_at d) left (suc i)) ≡ nine_at (cond (not b) (Some i) (first_place (unbalanced d) left (suc i)))
      go true e = e
      go false e = refl

  pub first_nine : unbalanced_of d ≡ nine_at (first_unbalanced d)
  unfolding unbalanced_of first first_unbalanced
  first_nine = first_nine_from (length d) 0

-- ---- all three
pub record DrawingPassed (d : Drawing) : Type 0 where
  pub faultless : faults_of d ≡ accepted
  pub apart : meetings_of d ≡ accepted
  pub balanced : unbalanced_of d ≡ accepted

pub drawing_passed : (d : Drawing) → drawing_verdict d ≡ accepted → DrawingPassed d
unfolding drawing_verdict
drawing_passed d e =
    let e₃ = accepted_then (faults_of d) _ e in
    let e₈ = accepted_then (meetings_of d) _ e₃.1 in
    record { faultless = e₃.0; apart = e₈.0; balanced = e₈.1 }
