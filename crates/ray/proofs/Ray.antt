-- The ray's count of a segment is the count under it in the strip where it starts.
use mathlib.Core.Path.{◌≡◌, sym, ◌∙◌, ap, ap₂, subst}
use mathlib.Core.List.{[], ◌∷◌}
use mathlib.Core.Logic.{◌⊎◌, inl, inr}
use mathlib.Core.Bool.{Bool, true, false, ◌&&◌, ◌||◌}
use lib.IntN.{ℤ, pos, ◌+ℤ◌, +ℤ_idl, +ℤ_idr}
use Rattle.integers.proofs.Booleans.{dec, not_l, not_r, or_l, neither, on}
use Rattle.integers.proofs.Linear.{ints}
use Rattle.integers.proofs.Order.{lt_le}
use Rattle.geom.specs.declared.Point.{Point}
use Rattle.geom.specs.Points.{eq_p}
use Rattle.geom.proofs.Points.{eq_eq_p, ne_eq_p}
use Rattle.segm.specs.declared.Segment.{Segment}
use Rattle.lists.specs.Members.{◌∈◌, Pairs}
use Rattle.lists.specs.Sums.{sum}
use Rattle.segm.specs.Segments.{Drawing, total}
use Rattle.segm.proofs.Segments.{only_cong, total_cong, total-none}
use Rattle.meetings.specs.Meetings.{side, same_ends, meets_wrongly}
use Rattle.checks.specs.Accepted.{Good}
use Rattle.strip.specs.Strip.{spans, above, clockwise, gap, falls, under}
use Rattle.strip.proofs.Strip.Signs.{Sign, minus, nil, plus, sign, up_pos, up_neg, up_nil, neg_pos, neg_neg, neg_nil, nil_le, falls_minus, falls_plus, falls-nil}
use Rattle.strip.proofs.Strip.Gap.{gap-at_a, gap_turn, side_own_a}
use Rattle.strip.proofs.Strip.Apart.{Apart, apart_sym, apart, Wide, wide, Over, under_irrefl, same_ends_off, same_ends_on}
use Rattle.strip.proofs.Strip.Above.{spans-over, above_on, above_off, above_own_a, above_own_b, start_on, start_turn}
use Rattle.ray.specs.Ray.{met, bottom}
use Rattle.ray.proofs.Invariance.{one_or_apart, beneath}

-- ---- a segment stands at one place
once_in : (d : Drawing) → Pairs (λ s t. meets_wrongly s t ≡ false) d → (h : Segment) → h ∈ d → total (λ j. same_ends j h) d ≡ h.winding
unfolding total sum
once_in [] p h m = absurd m
once_in (s ∷ d) p h (inl e) =
    ap₂ ◌+ℤ◌ (only_cong s.winding (subst (λ t. same_ends s t ≡ true) (sym e) (same_ends_on s)))
    (total-none d (λ j. same_ends j h) (λ j n. subst (λ t. same_ends j t ≡ false) (sym e) (same_ends_off (apart_sym (apart (p.0 j n))))))
    ∙ +ℤ_idr s.winding ∙ ap (λ (t : Segment). t.winding) (sym e)
once_in (s ∷ d) p h (inr m) = ap₂ ◌+ℤ◌ (only_cong s.winding (same_ends_off (apart (p.0 h m)))) (once_in d p.1 h m) ∙ +ℤ_idl h.winding

pub once : {d : Drawing} → Good d → (h : Segment) → h ∈ d → total (λ j. same_ends j h) d ≡ h.winding
once {d} g = once_in d g.apart

-- ---- what the ray meets is what is under the segment in the strip where it starts
pub met_self : (h : Segment) → met h h ≡ false
unfolding met clockwise
met_self h = not_r (spans h h.a.x) (neither (above_own_a h) (not_r (eq_p h.a h.a) (above_own_b h)))

module _ {j h : Segment} (k : Apart j h) (wh : Wide h) (o : Over h.a.x j) where
  met_apart : met h j ≡ (spans j h.a.x && under h.a.x j h)
  unfolding met under
  met_apart = ap (λ (b : Bool). spans j h.a.x && b) (go (sign (side j h.a)))
    where
      rest : Bool
      rest = eq_p j.a h.a && clockwise j h

      g' : ℤ
      g' = gap j h (h.a.x +ℤ pos 1)

      go : Sign (side j h.a) → (above j h.a || rest) ≡ falls (gap j h h.a.x) g'
      go (plus s) = or_l rest (above_on j h.a s) ∙ sym (falls_minus g' (neg_neg (gap_turn h j h.a.x) (up_pos (wide wh) (gap-at_a h j) s)))
      go (minus s) =
          neither (above_off j h.a (lt_le s)) (not_l (clockwise j h) (ne_eq_p (λ e. neq (subst (λ (p : Point). side j p ≡ pos 0) e (side_own_a j)))))
          ∙ sym (falls_plus g' (neg_pos (gap_turn h j h.a.x) (up_neg (wide wh) (gap-at_a h j) s)))
        where
          neq : side j h.a ≡ pos 0 → ⊥
          neq e = omega ints
      go (nil s) =
          let z : gap j h h.a.x ≡ pos 0 = neg_nil (gap_turn h j h.a.x) (up_nil (wide wh) (gap-at_a h j) s) in
          ap (λ (b : Bool). b || rest) (above_off j h.a (nil_le s)) ∙ on (eq_eq_p (start_on k o s)) (sym (start_turn j wh z)) ∙ sym (falls-nil g' z)

pub met_off : (h j : Segment) → spans j h.a.x ≡ false → met h j ≡ false
unfolding met
met_off h j e = not_l (above j h.a || (eq_p j.a h.a && clockwise j h)) e

pub bottom_strip : {d : Drawing} → Good d → (h : Segment) → h ∈ d → Wide h → bottom d h ≡ beneath d h h.a.x
unfolding bottom beneath
bottom_strip {d} g h m wh = total_cong d (met h) (λ j. spans j h.a.x && under h.a.x j h) (λ j n. part j (one_or_apart g j h n m))
  where
    at : (j : Segment) → Apart j h → (spans j h.a.x ≡ true) ⊎ (spans j h.a.x ≡ false) → met h j ≡ (spans j h.a.x && under h.a.x j h)
    at j k (inl e) = met_apart k wh (spans-over e)
    at j k (inr e) = met_off h j e ∙ sym (not_l (under h.a.x j h) e)

    part : (j : Segment) → (j ≡ h) ⊎ Apart j h → met h j ≡ (spans j h.a.x && under h.a.x j h)
    part j (inl e) = subst (λ i. met h i ≡ (spans i h.a.x && under h.a.x i h)) (sym e) (met_self h ∙ sym (not_r (spans h h.a.x) (under_irrefl h h.a.x)))
    part j (inr k) = at j k (dec (spans j h.a.x))
