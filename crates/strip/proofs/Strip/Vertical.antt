-- Vertical segments and others, by the x of their ends.
use mathlib.Core.Path.{◌≡◌}
use mathlib.Core.Logic.{inl, inr}
use mathlib.Core.Bool.{true, false}
use Rattle.integers.proofs.Booleans.{clash}
use Rattle.integers.proofs.Linear.{ints}
use Rattle.geom.proofs.Points.{eq_eq_z, ne_eq_z, Before}
use Rattle.segm.specs.declared.Segment.{Segment}
use Rattle.strip.specs.Strip.{is_vertical}
use Rattle.strip.proofs.Strip.Apart.{Wide}

module _ (s : Segment) where
  pub vertical_by : s.a.x ≡ s.b.x → is_vertical s ≡ true
  unfolding is_vertical
  vertical_by e = eq_eq_z e

  pub not_vertical_by : (s.a.x ≡ s.b.x → ⊥) → is_vertical s ≡ false
  unfolding is_vertical
  not_vertical_by h = ne_eq_z h

  pub not_vertical_ends : is_vertical s ≡ false → s.a.x ≡ s.b.x → ⊥
  not_vertical_ends v e = clash (vertical_by e) v

  pub wide_not_vertical : Wide s → is_vertical s ≡ false
  wide_not_vertical w = not_vertical_by (λ e. let l = w.goes in omega ints)

  pub not_vertical_wide : Before s.a s.b → is_vertical s ≡ false → Wide s
  not_vertical_wide (inl h) v = record { goes = h }
  not_vertical_wide (inr h) v = absurd (not_vertical_ends v h.0)

  pub vertical_not_wide : is_vertical s ≡ true → Wide s → ⊥
  vertical_not_wide v w = clash v (wide_not_vertical w)
