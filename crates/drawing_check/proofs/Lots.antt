-- Lots count for refusal 13 alone: the verdict on a drawing is that without its lots, or 13 at a lot out of range.
use mathlib.Core.Path.{◌≡◌, refl, sym, ap, ap₂, ◌∙◌, fun_ext}
use mathlib.Core.List.{[], ◌∷◌, map}
use mathlib.Core.Logic.{◌⊎◌, inl, inr}
use mathlib.Core.Bool.{Bool, ◌&&◌, ◌||◌, cond}
use Prim.Native.Nat.{ℕ, zero, suc}
use lib.ListN.{drop}
use lib.IntN.{pos, ◌-ℤ◌}
use Rattle.lists.specs.Members.{any}
use Rattle.geom.specs.declared.Point.{Point}
use Rattle.geom.specs.Points.{eq_z, eq_p}
use Rattle.std.specs.Prelude.{Some, None}
use Rattle.refusal.specs.declared.Kind.TheVariants.{WrongMeeting, Unbalanced}
use Rattle.refusal.specs.Order.{Verdict, first, ◌then◌}
use Rattle.refusal.proofs.Order.{refused_then}
use Rattle.segm.specs.declared.Segment.{Segment}
use Rattle.segm.specs.Segments.{Drawing, segment_at}
use Rattle.segm.specs.Lots.{unlotted}
use Rattle.segm.proofs.Segments.{total-map}
use Rattle.segm.proofs.Lots.{length-unlotted, unlotted-at}
use Rattle.faults.specs.Faults.{faults_of, LotOut}
use Rattle.faults.proofs.Lots.{faults_lots}
use Rattle.meetings.specs.Meetings.{side, parts, in_interior, same_ends, meets_wrongly}
use Rattle.balance.specs.Balance.{balance, balances}
use Rattle.drawing_check.specs.Drawing.{meeting_at, meetings_of, unbalanced_at, unbalanced_of, drawing_verdict}

-- ---- 8
any_unlotted : (s : Segment) (d : Drawing) (k : ℕ) → any (meets_wrongly (unlotted s)) (drop k (map unlotted d)) ≡ any (meets_wrongly s) (drop k d)
unfolding any meets_wrongly parts in_interior same_ends side
any_unlotted s [] zero = refl
any_unlotted s [] (suc k) = refl
any_unlotted s (t ∷ d) zero = ap (λ (b : Bool). meets_wrongly s t || b) (any_unlotted s d zero)
any_unlotted s (t ∷ d) (suc k) = any_unlotted s d k

module _ (d : Drawing) where
  meeting_unlotted : (i : ℕ) → meeting_at (map unlotted d) i ≡ meeting_at d i
  unfolding meeting_at
  meeting_unlotted i =
      ap (λ (b : Bool). cond b (Some WrongMeeting) None) (ap (λ (s : Segment). any (meets_wrongly s) (drop (suc i) (map unlotted d))) (unlotted-at d i) ∙ any_unlotted (segment_at d i) d (suc i))

  meetings_unlotted : meetings_of (map unlotted d) ≡ meetings_of d
  unfolding meetings_of
  meetings_unlotted = ap₂ first (fun_ext meeting_unlotted) (length-unlotted d)

  -- ---- 9
  balances-unlotted : (p : Point) → balances (map unlotted d) p ≡ balances d p
  unfolding balances balance
  balances-unlotted p =
      ap (λ z. eq_z z (pos 0)) (ap₂ ◌-ℤ◌ (total-map d unlotted (λ s. eq_p s.a p) (λ s. eq_p s.a p) (λ s. refl)) (total-map d unlotted (λ s. eq_p s.b p) (λ s. eq_p s.b p) (λ s. refl)))

  unbalanced-unlotted : (i : ℕ) → unbalanced_at (map unlotted d) i ≡ unbalanced_at d i
  unfolding unbalanced_at
  unbalanced-unlotted i =
      ap (λ (s : Segment). cond (balances (map unlotted d) s.a && balances (map unlotted d) s.b) None (Some Unbalanced)) (unlotted-at d i)
      ∙ ap₂ (λ (b c : Bool). cond (b && c) None (Some Unbalanced)) (balances-unlotted (segment_at d i).a) (balances-unlotted (segment_at d i).b)

  unbalanced_of-unlotted : unbalanced_of (map unlotted d) ≡ unbalanced_of d
  unfolding unbalanced_of
  unbalanced_of-unlotted = ap₂ first (fun_ext unbalanced-unlotted) (length-unlotted d)

  -- ---- the verdict
  pub verdict_lots : (drawing_verdict d ≡ drawing_verdict (map unlotted d)) ⊎ LotOut d (drawing_verdict d)
  unfolding drawing_verdict
  verdict_lots = go (faults_lots d)
    where
      rest : Verdict
      rest = meetings_of d then unbalanced_of d

      same : (meetings_of (map unlotted d) then unbalanced_of (map unlotted d)) ≡ rest
      same = ap₂ (λ (v w : Verdict). v then w) meetings_unlotted unbalanced_of-unlotted

      go : (faults_of d ≡ faults_of (map unlotted d)) ⊎ LotOut d (faults_of d)
          → ((faults_of d then rest) ≡ (faults_of (map unlotted d) then meetings_of (map unlotted d) then unbalanced_of (map unlotted d))) ⊎ LotOut d (faults_of d then rest)
      go (inl e) = inl (ap₂ (λ (v w : Verdict). v then w) e (sym same))
      go (inr o) = inr (record { place = o.place; inside = o.inside; out = o.out; thirteen = refused_then (faults_of d) rest o.thirteen ∙ o.thirteen })
