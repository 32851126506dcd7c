-- The outcome is a refusal from the list that fits, or acceptance; and it is acceptance exactly where none of the list fits.
use mathlib.Core.Path.{◌≡◌, refl, sym, ap, subst, ◌∙◌}
use mathlib.Core.Logic.{◌⊎◌, inl, inr}
use mathlib.Core.Bool.{Bool, true, false, cond}
use Prim.Native.Nat.{ℕ, zero, suc, ◌+◌, ◌-◌, ◌<◌}
use native.Mathlib.Omega.{arith}
use lib.ListN.{length, drop, length-drop}
use lib.Seq.{get_or-drop}
use Rattle.integers.proofs.Booleans.{dec, clash}
use Rattle.lists.specs.Members.{◌∈◌, any}
use Rattle.lists.proofs.Members.{stands, pairs_places, in_after, any_some, any_false}
use Rattle.geom.specs.Points.{lt_p}
use Rattle.geom.proofs.Points.{lt_p_irrefl}
use Rattle.std.specs.Prelude.{Option, Some, None, Ok, Err}
use Rattle.refusal.specs.declared.Kind.{Kind}
use Rattle.refusal.specs.declared.Kind.TheVariants.{WrongLength, WrongMeeting, OutOfOrder, UnknownChoice, TooShort}
use Rattle.refusal.specs.declared.Refusal.{Refusal}
use Rattle.refusal.specs.Order.{Verdict, accepted, refusal, refused, refuse_if}
use Rattle.refusal.specs.Asked.{wrong_length, unknown_choice, too_short, asked_first}
use Rattle.refusal.proofs.Order.{At, first-at, refused_by, If, refused_if}
use Rattle.segm.specs.declared.Segment.{Segment}
use Rattle.segm.specs.Segments.{Drawing, width, count, segments, nowhere, segment_at}
use Rattle.faults.specs.Faults.{fault_at, faults_of}
use Rattle.faults.proofs.Faults.{NoFault, no_fault_at, Fault, three, four, five, six, thirteen, seven, which}
use Rattle.meetings.specs.Meetings.{meets_wrongly}
use Rattle.balance.specs.Balance.{balances}
use Rattle.drawing_check.specs.Drawing.{meeting_at, meetings_of, unbalanced_at, unbalanced_of, drawing_verdict}
use Rattle.checks.specs.Runs.{Run, asked, verdict}
use Rattle.checks.specs.Accepted.{Fits, wrong_length_lem, coordinate_out, not_rising, winding_out, bits_out, lot_out, start_falls, wrong_meeting, a_unbalanced, b_unbalanced, unknown_choice_lem, too_short_lem}
use Rattle.drawing_check.proofs.Drawing.{no_meeting, balanced_at, DrawingPassed, drawing_passed}
use Rattle.checks.proofs.Runs.{Passed, passed}

-- of what an Option tells
same_kind : {j k : Kind} → ◌≡◌ {A = Option Kind} (Some j) (Some k) → j ≡ k
same_kind e = cc

none_some : {X : Type 0} {k : Kind} → ◌≡◌ {A = Option Kind} None (Some k) → X
none_some e = let bad : ⊥ = cc in absurd bad

module _ (r : Run) where
  abbrev d : Drawing
  d = segments r.numbers

  falls : (i : ℕ) → i < length d → lt_p (segment_at d i).a (segment_at d (i - 1)).a ≡ true → Fits r OutOfOrder i
  falls zero l h = absurd (clash h (lt_p_irrefl (segment_at d 0).a))
  falls (suc i) l h = let e : suc i - 1 ≡ i = omega arith in start_falls i l (subst (λ (k : ℕ). lt_p (segment_at d (suc i)).a (segment_at d k).a ≡ true) e h)

  fault_fits : (i : ℕ) (kind : Kind) → i < length d → Fault (segment_at d (i - 1)).a (segment_at d i) kind → Fits r kind i
  fault_fits i kind l (three h) = coordinate_out i l h
  fault_fits i kind l (four h) = not_rising i l h
  fault_fits i kind l (five h) = winding_out i l h
  fault_fits i kind l (six h) = bits_out i l h
  fault_fits i kind l (thirteen h) = lot_out i l h
  fault_fits i kind l (seven h) = falls i l h

  fault_refused : (kind : Kind) (place : ℕ) → faults_of d ≡ refused kind place → Fits r kind place
  unfolding faults_of fault_at
  fault_refused kind place e = let a = first-at (fault_at d) (length d) (refusal kind place) e in fault_fits place kind a.inside (which (segment_at d (place - 1)).a (segment_at d place) kind a.is)

  -- ---- 8
  later : (i : ℕ) (t : Segment) → t ∈ drop (suc i) d → meets_wrongly (segment_at d i) t ≡ true → Fits r WrongMeeting i
  unfolding segment_at
  later i t m h =
      let s = stands (drop (suc i) d) nowhere t m in
      let within = s.inside in
      wrong_meeting i (suc i + s.place) (omega arith) (omega (arith, length-drop (suc i) d)) (subst (λ (u : Segment). meets_wrongly (segment_at d i) u ≡ true) (sym s.is ∙ get_or-drop (suc i) d s.place nowhere) h)

  meeting_refused : (kind : Kind) (place : ℕ) → meetings_of d ≡ refused kind place → Fits r kind place
  unfolding meetings_of meeting_at
  meeting_refused kind place q = go (dec (any (meets_wrongly (segment_at d place)) (drop (suc place) d)))
    where
      a : At (meeting_at d) (length d) (refusal kind place)
      a = first-at (meeting_at d) (length d) (refusal kind place) q

      go : (any (meets_wrongly (segment_at d place)) (drop (suc place) d) ≡ true) ⊎ (any (meets_wrongly (segment_at d place)) (drop (suc place) d) ≡ false) → Fits r kind place
      go (inl e) = let s = any_some (meets_wrongly (segment_at d place)) (drop (suc place) d) e in subst (λ (k : Kind). Fits r k place) (same_kind (sym (ap (λ (b : Bool). cond b (Some WrongMeeting) None) e) ∙ a.is)) (later place s.member s.in_list s.passes)
      go (inr e) = none_some (sym (ap (λ (b : Bool). cond b (Some WrongMeeting) None) e) ∙ a.is)

  -- ---- 9
  balance_refused : (kind : Kind) (place : ℕ) → unbalanced_of d ≡ refused kind place → Fits r kind place
  unfolding unbalanced_of unbalanced_at
  balance_refused kind place q = go (dec (balances d (segment_at d place).a)) (dec (balances d (segment_at d place).b))
    where
      a : At (unbalanced_at d) (length d) (refusal kind place)
      a = first-at (unbalanced_at d) (length d) (refusal kind place) q

      go : (balances d (segment_at d place).a ≡ true) ⊎ (balances d (segment_at d place).a ≡ false) → (balances d (segment_at d place).b ≡ true) ⊎ (balances d (segment_at d place).b ≡ false) → Fits r kind place
      go (inr e) f = subst (λ (k : Kind). Fits r k place) (same_kind (sym (simp e) ∙ a.is)) (a_unbalanced place a.inside e)
      go (inl e) (inr f) = subst (λ (k : Kind). Fits r k place) (same_kind (sym (simp (e, f)) ∙ a.is)) (b_unbalanced place a.inside f)
      go (inl e) (inl f) = none_some (sym (simp (e, f)) ∙ a.is)

  -- ---- the list
  at_zero : (b : Bool) (k kind : Kind) (place : ℕ) → If b k (refusal kind place) → (b ≡ true → Fits r k 0) → Fits r kind place
  at_zero b k kind place i f = subst (λ (x : Refusal). Fits r x.kind x.place) i.is (f i.holds)

  asked_fits : (kind : Kind) (place : ℕ) → asked r ≡ refused kind place → Fits r kind place
  unfolding asked asked_first
  asked_fits kind place e =
      refused_by (refuse_if WrongLength (wrong_length width 1024 (length r.numbers))) _ e (λ e. at_zero (wrong_length width 1024 (length r.numbers)) WrongLength kind place (refused_if WrongLength _ (refusal kind place) e) wrong_length_lem) (λ e.
      refused_by (refuse_if UnknownChoice (any unknown_choice r.choices)) _ e (λ e. at_zero (any unknown_choice r.choices) UnknownChoice kind place (refused_if UnknownChoice _ (refusal kind place) e) unknown) (λ e.
      at_zero (any (too_short (count r.numbers)) r.lists) TooShort kind place (refused_if TooShort _ (refusal kind place) e) short))
    where
      unknown : any unknown_choice r.choices ≡ true → Fits r UnknownChoice 0
      unknown h = let s = any_some unknown_choice r.choices h in unknown_choice_lem s.member s.in_list s.passes

      short : any (too_short (count r.numbers)) r.lists ≡ true → Fits r TooShort 0
      short h = let s = any_some (too_short (count r.numbers)) r.lists h in too_short_lem s.member s.in_list s.passes

  pub refused_fits : (kind : Kind) (place : ℕ) → verdict r ≡ refused kind place → Fits r kind place
  unfolding verdict drawing_verdict
  refused_fits kind place e =
      refused_by (asked r) _ e (asked_fits kind place) (λ e.
      refused_by (faults_of d) _ e (fault_refused kind place) (λ e.
      refused_by (meetings_of d) _ e (meeting_refused kind place) (balance_refused kind place)))

  pub accepted_none : verdict r ≡ accepted → (kind : Kind) (place : ℕ) → Fits r kind place → ⊥
  unfolding segment_at
  accepted_none e kind place f = go f
    where
      p : Passed r
      p = passed r e

      c : DrawingPassed d
      c = drawing_passed d p.drawing

      at : (i : ℕ) → i < length d → NoFault (segment_at d (i - 1)).a (segment_at d i)
      at = no_fault_at d c.faultless

      go : {kind : Kind} {place : ℕ} → Fits r kind place → ⊥
      go (wrong_length_lem h) = clash h p.asks.right_length
      go (coordinate_out i l h) = clash (at i l).ends h
      go (not_rising i l h) = clash (at i l).order h
      go (winding_out i l h) = clash (at i l).winding h
      go (bits_out i l h) = clash (at i l).bits h
      go (lot_out i l h) = clash (at i l).lot h
      go (start_falls i l h) = let k : suc i - 1 ≡ i = omega arith in clash h (subst (λ (k : ℕ). lt_p (segment_at d (suc i)).a (segment_at d k).a ≡ false) k (at (suc i) l).after)
      go (wrong_meeting i j l m h) =
          clash h (pairs_places (λ s t. meets_wrongly s t ≡ false) d nowhere ((no_meeting d).0 c.apart) i (omega arith) (segment_at d j) (in_after d nowhere i j l m))
      go (a_unbalanced i l h) = clash (balanced_at d c.balanced i l).0 h
      go (b_unbalanced i l h) = clash (balanced_at d c.balanced i l).1 h
      go (unknown_choice_lem k m h) = clash h (any_false unknown_choice r.choices p.asks.known k m)
      go (too_short_lem l m h) = clash h (any_false (too_short (count r.numbers)) r.lists p.asks.long l m)

  pub none_accepted : ((kind : Kind) (place : ℕ) → Fits r kind place → ⊥) → verdict r ≡ accepted
  none_accepted none = go (verdict r) refl
    where
      go : (v : Verdict) → verdict r ≡ v → v ≡ accepted
      go (Ok _) e = refl
      go (Err x) e = absurd (none x.kind x.place (refused_fits x.kind x.place e))
