-- When one segment may stand right over another, by the tests in the code's order.
use mathlib.Core.Path.{◌≡◌, refl, sym, ap, ◌∙◌}
use mathlib.Core.Logic.{◌↔◌, inl, inr}
use mathlib.Core.Bool.{Bool, true, false, not, ◌&&◌}
use lib.IntN.{pos}
use lib.Signed.{lt_z, le_z}
use borrow.Author.Tests.{not-true}
use Rattle.integers.proofs.Booleans.{on, not_l, both_l, both_r}
use Rattle.integers.proofs.Linear.{ints}
use Rattle.integers.proofs.Order.{lt_z_true, le_z_true, le_z_false, lt_lt_z, le_lt_z}
use Rattle.geom.specs.Points.{lt_p}
use Rattle.geom.proofs.Points.{lt_p_antisym}
use Rattle.segm.specs.declared.Segment.{Segment}
use Rattle.meetings.specs.Meetings.{side, meets_wrongly}
use Rattle.meetings.proofs.Meetings.OneSide.{one_side, one-side_turned, one_start, one_end, one_end_turned}
use Rattle.strip.specs.Strip.{above, clockwise, under_by_side, LowerNeighbour}

-- `LowerNeighbour` as a test
unfoldable pub follows : Segment → Segment → Bool
follows s t = under_by_side s t && not (meets_wrongly s t)

pub tells_neighbour : {r : Bool} (s t : Segment) → r ≡ follows s t → (r ≡ true) ↔ LowerNeighbour s t
unfolding follows
tells_neighbour s t is = (λ e. let f = sym is ∙ e in record { lower = both_l (under_by_side s t) (not (meets_wrongly s t)) f; clear = not-true _ (both_r (under_by_side s t) (not (meets_wrongly s t)) f) }, λ n. is ∙ on n.lower (ap not n.clear))

module _ (s t : Segment) where
  not_lower : under_by_side s t ≡ false → follows s t ≡ false
  unfolding follows
  not_lower e = not_l (not (meets_wrongly s t)) e

  lower : under_by_side s t ≡ true → follows s t ≡ not (meets_wrongly s t)
  unfolding follows
  lower e = on e refl

  -- s starts first
  module _ (h : lt_p s.a t.a ≡ true) where
    under_s_first : under_by_side s t ≡ lt_z (pos 0) (side s t.a)
    unfolding under_by_side above
    under_s_first = simp h

    pub s_first_not : le_z (side s t.a) (pos 0) ≡ true → follows s t ≡ false
    s_first_not e = not_lower (under_s_first ∙ le_lt_z {a = pos 0} {b = side s t.a} (le_z_true e))

    pub s_first_rest : le_z (side s t.a) (pos 0) ≡ false → follows s t ≡ not (meets_wrongly s t)
    s_first_rest e = lower (under_s_first ∙ lt_lt_z {a = pos 0} {b = side s t.a} (le_z_false e))

    pub s_first_beyond : le_z (side s t.a) (pos 0) ≡ false → lt_z (pos 0) (side s t.b) ≡ true → follows s t ≡ true
    s_first_beyond e f = s_first_rest e ∙ ap not (one_side s t (inl (le_z_false e, lt_z_true f)))

    pub s_first_end : le_z (side s t.a) (pos 0) ≡ false → s.b ≡ t.b → follows s t ≡ true
    s_first_end e q = s_first_rest e ∙ ap not (one_end s t q (λ z. let l = le_z_false {a = side s t.a} {b = pos 0} e in omega ints))

  -- t starts first
  module _ (h : lt_p s.a t.a ≡ false) (k : lt_p t.a s.a ≡ true) where
    under_t_first : under_by_side s t ≡ lt_z (side t s.a) (pos 0)
    unfolding under_by_side
    under_t_first = simp (h, k)

    pub t_first_not : le_z (pos 0) (side t s.a) ≡ true → follows s t ≡ false
    t_first_not e = not_lower (under_t_first ∙ le_lt_z {a = side t s.a} {b = pos 0} (le_z_true e))

    pub t_first_rest : le_z (pos 0) (side t s.a) ≡ false → follows s t ≡ not (meets_wrongly s t)
    t_first_rest e = lower (under_t_first ∙ lt_lt_z {a = side t s.a} {b = pos 0} (le_z_false e))

    pub t_first_beyond : le_z (pos 0) (side t s.a) ≡ false → lt_z (side t s.b) (pos 0) ≡ true → follows s t ≡ true
    t_first_beyond e f = t_first_rest e ∙ ap not (one-side_turned t s (inr (le_z_false e, lt_z_true f)))

    pub t_first_end : le_z (pos 0) (side t s.a) ≡ false → t.b ≡ s.b → follows s t ≡ true
    t_first_end e q = t_first_rest e ∙ ap not (one_end_turned t s q (λ z. let l = le_z_false {a = pos 0} {b = side t s.a} e in omega ints))

  -- both start at one point
  pub at-one_start : lt_p s.a t.a ≡ false → lt_p t.a s.a ≡ false → follows s t ≡ lt_z (pos 0) (side s t.b)
  unfolding under_by_side clockwise above
  at-one_start h k = go (lt_z (pos 0) (side s t.b)) refl
    where
      is : under_by_side s t ≡ lt_z (pos 0) (side s t.b)
      is = simp (h, k)

      go : (b : Bool) → lt_z (pos 0) (side s t.b) ≡ b → follows s t ≡ b
      go true e = lower (is ∙ e) ∙ ap not (one_start s t (lt_p_antisym h k) (lt_z_true e))
      go false e = not_lower (is ∙ e)
