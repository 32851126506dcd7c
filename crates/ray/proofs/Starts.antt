-- The bottom counts of the segments that start at one point.
use mathlib.Core.Path.{◌≡◌, refl, sym, ◌∙◌, ap, subst}
use mathlib.Core.Logic.{◌⊎◌, inl, inr}
use mathlib.Core.Bool.{Bool, true, false, ◌&&◌, ◌||◌, or-false}
use lib.IntN.{ℤ, ◌+ℤ◌, ◌-ℤ◌}
use lib.Signed.{◌≤ℤ◌, ◌<ℤ◌, ≤ℤ_refl}
use Rattle.integers.proofs.Booleans.{dec, both, both_r, not_l, not_r, is_false, same_test, on}
use Rattle.geom.specs.declared.Point.{Point}
use Rattle.geom.specs.Points.{lt_p, eq_p}
use Rattle.geom.proofs.Points.{eq_p-true, eq_eq_p, Before, lt_p-true, before_irrefl, before_le}
use Rattle.segm.specs.declared.Segment.{Segment}
use Rattle.lists.specs.Members.{◌∈◌}
use Rattle.lists.specs.Sums.{sum, only}
use Rattle.segm.specs.Segments.{Drawing, total}
use Rattle.lists.proofs.Members.{keep_in, pairs_keep}
use Rattle.segm.proofs.Segments.{first-only, second_only, total_split}
use Rattle.checks.specs.Accepted.{Good}
use Rattle.strip.specs.Strip.{spans, above, clockwise}
use Rattle.strip.proofs.Strip.Visits.{lower_start, first, turn_wide, first_asym}
use Rattle.strip.proofs.Strip.Apart.{Wide, Over}
use Rattle.strip.proofs.Strip.Above.{spans_on, above_yes, above_own_a}
use Rattle.ray.specs.Ray.{met, bottom}
use Rattle.ray.proofs.Visits.{visits_either, visits_chain}
use Rattle.ray.proofs.Sorting.{Either}
use Rattle.ray.proofs.Invariance.{proper, beneath_point}
use Rattle.ray.proofs.Telescope.{change, telescope}

-- at one start, to be visited first is to be clockwise
first_turn : (j s : Segment) → j.a ≡ s.a → first j s ≡ clockwise j s
unfolding first lower_start
first_turn j s e =
    ap (λ (b : Bool). b || (eq_p j.a s.a && clockwise j s)) (is_false (lt_p j.a s.a) (λ t. before_irrefl (subst (λ (p : Point). Before p s.a) e (lt_p-true t))))
    ∙ on (eq_eq_p e) refl

clockwise_wide : (j s : Segment) → Before j.a j.b → Before s.a s.b → j.a ≡ s.a → clockwise j s ≡ true → Wide j
unfolding clockwise
clockwise_wide j s pj ps e t = turn_wide j s.b pj (subst (λ (p : Point). p.x ≤ℤ s.b.x) (sym e) (before_le ps)) (above_yes j s.b t)

module _ {d : Drawing} (g : Good d) where
  pub start_bottom : (s : Segment) → s ∈ d → bottom d s ≡ beneath_point d s.a +ℤ total (λ t. eq_p t.a s.a && first t s) d
  unfolding bottom beneath_point met
  start_bottom s m = total_split d (met s) (λ j. spans j s.a.x && above j s.a) (λ t. eq_p t.a s.a && first t s) (λ j n w. part j n w (dec (eq_p j.a s.a)))
    where
      over : (j : Segment) → j.a ≡ s.a → Wide j → Over s.a.x j
      over j e wj = record { from = subst (λ (p : Point). p.x ≤ℤ s.a.x) (sym e) (≤ℤ_refl s.a.x); to = subst (λ (p : Point). p.x <ℤ j.b.x) e wj.goes }

      part : (j : Segment) → j ∈ d → (w : ℤ) → (eq_p j.a s.a ≡ true) ⊎ (eq_p j.a s.a ≡ false)
          → only (met s j) w ≡ only (spans j s.a.x && above j s.a) w +ℤ only (eq_p j.a s.a && first j s) w
      part j n w (inl e) =
          let q = eq_p-true e in
          let away = subst (λ (p : Point). above j p ≡ false) q (above_own_a j) in
          let sp = spans j s.a.x in
          second_only w (not_r sp away)
          (ap (λ (b : Bool). sp && (b || (eq_p j.a s.a && clockwise j s))) away
          ∙ ap (λ (b : Bool). sp && (b && clockwise j s)) e
          ∙ same_test (sp && clockwise j s) (clockwise j s) (both_r sp (clockwise j s)) (λ t. both (spans_on (over j q (clockwise_wide j s (proper g j n) (proper g s m) q t))) t)
          ∙ sym (on e (first_turn j s q)))
      part j n w (inr e) =
          first-only w (ap (λ (b : Bool). spans j s.a.x && (above j s.a || b)) (not_l (clockwise j s) e) ∙ ap (λ (b : Bool). spans j s.a.x && b) (or-false (above j s.a)))
          (not_l (first j s) e)

  -- what the starts at p add up to
  pub starts : (f : ℤ → ℤ) (p : Point) → sum (λ s. only (eq_p s.a p) (change f (bottom d) s)) d ≡ f (beneath_point d p +ℤ total (λ s. eq_p s.a p) d) -ℤ f (beneath_point d p)
  starts f p = telescope first first_asym f (bottom d) d at (beneath_point d p) (pairs_keep at (Either first) d (visits_either g))
      (λ s t u m n o. visits_chain g s t u (keep_in at s d m).0 (keep_in at t d n).0 (keep_in at u d o).0)
      (λ s m e. subst (λ (q : Point). bottom d s ≡ beneath_point d q +ℤ total (λ t. eq_p t.a q && first t s) d) (eq_p-true e) (start_bottom s m))
    where
      at : Segment → Bool
      at s = eq_p s.a p
