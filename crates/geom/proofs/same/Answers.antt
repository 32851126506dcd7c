-- The derived equality looks at both.
use Rattle.std.proofs.Common.{◌≡◌, sym, ◌∙◌, ap₂, ◌&&◌, ℤ, Ordering, Less, Equal, Greater, int_eq}
use Rattle.std.specs.Prelude.{◌<ℤ◌}
use Rattle.std.specs.Ordering.{MatchOrdering, is_eq, int_cmp}
use Rattle.std.specs.Cmp.{int_ranks}
use Rattle.integers.proofs.Linear.{ints}
use Rattle.geom.specs.Points.{eq_p, eq_z}
use Rattle.geom.proofs.Points.{eq_eq_z, ne_eq_z}
use Rattle.geom.proofs.same.Goals as goal

on_a_line : (x y : ℤ) → int_eq x y ≡ eq_z x y
on_a_line x y = go (int_cmp x y) (int_ranks x y)
  where
    go : (o : Ordering) → MatchOrdering o (x <ℤ y) (x ≡ y) (y <ℤ x) → is_eq o ≡ eq_z x y
    go Less h = sym (ne_eq_z (λ e. omega (ints, e, h)))
    go Equal h = sym (eq_eq_z h)
    go Greater h = sym (ne_eq_z (λ e. omega (ints, e, h)))

pub returns : goal.returns
unfolding eq_p
returns c = c.eq.ensures ∙ ap₂ ◌&&◌ (on_a_line c.args.p.x c.args.q.x) (on_a_line c.args.p.y c.args.q.y)
