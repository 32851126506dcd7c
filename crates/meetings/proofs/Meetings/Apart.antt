-- Two segments that do not meet wrongly have not both ends equal.
use mathlib.Core.Path.{◌≡◌, sym}
use mathlib.Core.Bool.{true, false, ◌&&◌, ◌||◌}
use Rattle.integers.proofs.Booleans.{both, both_l, both_r, nor_r}
use Rattle.geom.specs.Points.{eq_p}
use Rattle.geom.proofs.Points.{eq_p-true, eq_eq_p}
use Rattle.segm.specs.declared.Segment.{Segment}
use Rattle.meetings.specs.Meetings.{parts, in_interior, same_ends, meets_wrongly}

pub apart_ends : (s t : Segment) → meets_wrongly s t ≡ false → same_ends s t ≡ false
unfolding meets_wrongly
apart_ends s t e =
    nor_r (in_interior t s.a || in_interior t s.b) (same_ends s t) (nor_r (in_interior s t.a || in_interior s t.b) _ (nor_r (parts s t && parts t s) _ e))

pub same_ends_sym : (s t : Segment) → same_ends s t ≡ true → same_ends t s ≡ true
unfolding same_ends
same_ends_sym s t e =
    both (eq_eq_p (sym (eq_p-true (both_l (eq_p s.a t.a) (eq_p s.b t.b) e)))) (eq_eq_p (sym (eq_p-true (both_r (eq_p s.a t.a) (eq_p s.b t.b) e))))
