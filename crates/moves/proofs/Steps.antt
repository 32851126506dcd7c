-- Steps over links that rise: the bit that fits leads on from the point.
use mathlib.Core.Path.{◌≡◌, refl, sym, ◌∙◌, ap, subst}
use mathlib.Core.Logic.{◌⊎◌, inl, inr}
use mathlib.Core.Bool.{Bool, true, false, cond, beq}
use Prim.Native.Nat.{ℕ, ◌<◌}
use lib.ListN.{length}
use Rattle.integers.proofs.Booleans.{clash}
use Rattle.geom.specs.declared.Point.{Point}
use Rattle.geom.specs.Points.{lt_p, eq_p}
use Rattle.geom.proofs.Points.{eq_eq_p, ne_eq_p, lt_p_irrefl, lt_p_asym}
use Rattle.segm.specs.declared.Segment.{Segment}
use Rattle.segm.specs.Segments.{Drawing, segment_at}
use Rattle.segm.proofs.Segments.{segment_in}
use Rattle.moves.specs.Steps.{Step, step, as_drawn, way, other, fitting, AllRise}

-- outward or backward, the bit that leads to the greater point takes the walk from a to b
pub way_is : (out greater : Bool) (s : Segment) → way out (as_drawn (beq out greater) s) ≡ cond greater (step s.a s.b) (step s.b s.a)
unfolding way as_drawn
way_is true true s = refl
way_is true false s = refl
way_is false true s = refl
way_is false false s = refl

-- ---- the bit that fits, by the end at the point
module _ (out : Bool) (p : Point) (s : Segment) (h : lt_p s.a s.b ≡ true) where
  pub fit_start : s.a ≡ p → fitting out p s ≡ beq out true
  unfolding fitting other
  fit_start q = rw (eq_eq_p q, subst (λ r. lt_p r s.b ≡ true) q h)

  pub fit_end : s.b ≡ p → fitting out p s ≡ beq out false
  unfolding fitting other
  fit_end q =
      let apart : eq_p s.a p ≡ false = ne_eq_p (λ e. clash h (subst (λ r. lt_p s.a r ≡ false) (e ∙ sym q) (lt_p_irrefl s.a))) in
      rw (apart, subst (λ r. lt_p r s.a ≡ false) q (lt_p_asym s.a s.b h))

  -- it leads on from there
  pub fitting_start : (s.a ≡ p) ⊎ (s.b ≡ p) → (way out (as_drawn (fitting out p s) s)).start ≡ p
  fitting_start (inl q) = ap (λ (b : Bool). (way out (as_drawn b s)).start) (fit_start q) ∙ ap (λ (σ : Step). σ.start) (way_is out true s) ∙ q
  fitting_start (inr q) = ap (λ (b : Bool). (way out (as_drawn b s)).start) (fit_end q) ∙ ap (λ (σ : Step). σ.start) (way_is out false s) ∙ q

pub at_place : (links : Drawing) → AllRise links → (k : ℕ) → k < length links → lt_p (segment_at links k).a (segment_at links k).b ≡ true
at_place links rise k h = rise (segment_at links k) (segment_in links k refl h)
