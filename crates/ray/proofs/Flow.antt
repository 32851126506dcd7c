-- The flow lemma: in a balanced drawing as much winding starts as ends at any set of points.
use mathlib.Core.Path.{◌≡◌, refl, sym, ◌∙◌, ap, ap₂}
use mathlib.Core.List.{List, [], ◌∷◌}
use mathlib.Core.Logic.{◌⊎◌, inl, inr}
use mathlib.Core.Bool.{Bool, true, false, not, ◌&&◌}
use lib.IntN.{ℤ, pos, ◌+ℤ◌, +ℤ_idl, +ℤ_idr}
use Rattle.integers.proofs.Booleans.{dec, both_l, both_r, not_r, clash, is_false}
use Rattle.integers.proofs.Linear.{ints, of_pos, of--}
use Rattle.geom.specs.declared.Point.{Point}
use Rattle.geom.specs.Points.{eq_p}
use Rattle.geom.proofs.Points.{eq_p-true, eq_eq_p}
use Rattle.segm.specs.declared.Segment.{Segment}
use Rattle.lists.specs.Members.{◌∈◌}
use Rattle.lists.specs.Sums.{only}
use Rattle.segm.specs.Segments.{Drawing, total}
use Rattle.segm.proofs.Segments.{total_cong, total-none, total_split}
use Rattle.balance.specs.Balance.{balance}

cut : (p e : Bool) (w : ℤ) → only p w ≡ only (p && e) w +ℤ only (p && not e) w
cut true true w = sym (+ℤ_idr w)
cut true false w = sym (+ℤ_idl w)
cut false e w = refl

module _ (d : Drawing) (bal : (p : Point) → balance d p ≡ pos 0) where
  pub as_many : (p : Point) → total (λ s. eq_p s.a p) d ≡ total (λ s. eq_p s.b p) d
  unfolding balance
  as_many p = let e = bal p in omega (ints, of-- (total (λ s. eq_p s.a p) d) (total (λ s. eq_p s.b p) d), of_pos 0)

  -- at one point
  at_one : (P : Point → Bool) (q : Point) → total (λ s. P s.a && eq_p s.a q) d ≡ total (λ s. P s.b && eq_p s.b q) d
  at_one P q = go (P q) refl
    where
      there : (r : Point) (t : Bool) → P q ≡ t → (P r && eq_p r q) ≡ (t && eq_p r q)
      there r t e = by (dec (eq_p r q))
        where
          by : (eq_p r q ≡ true) ⊎ (eq_p r q ≡ false) → (P r && eq_p r q) ≡ (t && eq_p r q)
          by (inl f) = ap (λ (b : Bool). b && eq_p r q) (ap P (eq_p-true f) ∙ e)
          by (inr f) = not_r (P r) f ∙ sym (not_r t f)

      go : (t : Bool) → P q ≡ t → total (λ s. P s.a && eq_p s.a q) d ≡ total (λ s. P s.b && eq_p s.b q) d
      go true e =
          total_cong d (λ s. P s.a && eq_p s.a q) (λ s. eq_p s.a q) (λ s m. there s.a true e) ∙ as_many q
          ∙ sym (total_cong d (λ s. P s.b && eq_p s.b q) (λ s. eq_p s.b q) (λ s m. there s.b true e))
      go false e =
          total-none d (λ s. P s.a && eq_p s.a q) (λ s m. there s.a false e)
          ∙ sym (total-none d (λ s. P s.b && eq_p s.b q) (λ s m. there s.b false e))

  -- at points of which a list holds all that matter
  flow_on : (l : List Point) (P : Point → Bool) → ((s : Segment) → s ∈ d → P s.a ≡ true → s.a ∈ l) → ((s : Segment) → s ∈ d → P s.b ≡ true → s.b ∈ l)
      → total (λ s. P s.a) d ≡ total (λ s. P s.b) d
  flow_on [] P f g =
      total-none d (λ s. P s.a) (λ s m. is_false (P s.a) (f s m)) ∙ sym (total-none d (λ s. P s.b) (λ s m. is_false (P s.b) (g s m)))
  flow_on (q ∷ l) P f g =
      total_split d (λ s. P s.a) (λ s. P s.a && eq_p s.a q) (λ s. P s.a && not (eq_p s.a q)) (λ s m. cut (P s.a) (eq_p s.a q))
      ∙ ap₂ ◌+ℤ◌ (at_one P q) (flow_on l (λ r. P r && not (eq_p r q)) (λ s m e. less s.a e (f s m (both_l (P s.a) (not (eq_p s.a q)) e))) (λ s m e. less s.b e (g s m (both_l (P s.b) (not (eq_p s.b q)) e))))
      ∙ sym (total_split d (λ s. P s.b) (λ s. P s.b && eq_p s.b q) (λ s. P s.b && not (eq_p s.b q)) (λ s m. cut (P s.b) (eq_p s.b q)))
    where
      less : (r : Point) → (P r && not (eq_p r q)) ≡ true → (r ≡ q) ⊎ (r ∈ l) → r ∈ l
      less r e (inl h) = absurd (clash (both_r (P r) (not (eq_p r q)) e) (ap not (eq_eq_p h)))
      less r e (inr h) = h

ends : Drawing → List Point
ends [] = []
ends (s ∷ d) = s.a ∷ (s.b ∷ ends d)

ends_a : (d : Drawing) (s : Segment) → s ∈ d → s.a ∈ ends d
unfolding ends
ends_a [] s m = m
ends_a (t ∷ d) s (inl e) = inl (ap (λ (r : Segment). r.a) e)
ends_a (t ∷ d) s (inr m) = inr (inr (ends_a d s m))

ends_b : (d : Drawing) (s : Segment) → s ∈ d → s.b ∈ ends d
unfolding ends
ends_b [] s m = m
ends_b (t ∷ d) s (inl e) = inr (inl (ap (λ (r : Segment). r.b) e))
ends_b (t ∷ d) s (inr m) = inr (inr (ends_b d s m))

pub flow : (d : Drawing) → ((p : Point) → balance d p ≡ pos 0) → (P : Point → Bool) → total (λ s. P s.a) d ≡ total (λ s. P s.b) d
flow d bal P = flow_on d bal (ends d) P (λ s m e. ends_a d s m) (λ s m e. ends_b d s m)
