-- Two segments that are `Apart` do not meet wrongly: the converse of `apart`.
use mathlib.Core.Path.{◌≡◌}
use mathlib.Core.Logic.{◌⊎◌, inl, inr, ⊎_elim}
use mathlib.Core.Bool.{Bool, true, false, ◌&&◌, ◌||◌}
use lib.IntN.{pos}
use Rattle.integers.proofs.Booleans.{both_l, both_r, one_of, is_false}
use Rattle.integers.proofs.Linear.{ints, of_pos, of--}
use Rattle.geom.specs.declared.Point.{Point}
use Rattle.geom.specs.Points.{eq_z, lt_p, eq_p, between}
use Rattle.geom.proofs.Points.{eq_z-true, eq_p-true, lt_p-true}
use Rattle.segm.specs.declared.Segment.{Segment}
use Rattle.meetings.specs.Meetings.{side, parts, in_interior, same_ends, meets_wrongly}
use Rattle.meetings.proofs.Meetings.Right.{Opposite, parts-true, same_turn}
use Rattle.strip.proofs.Strip.Apart.{Between, Apart}

in_interior_true : (s : Segment) (p : Point) → in_interior s p ≡ true → (side s p ≡ pos 0) × Between s p
unfolding in_interior between side
in_interior_true s p e =
    let f = both_r (eq_z (side s p) (pos 0)) (lt_p s.a p && lt_p p s.b) e in (
      eq_z-true (both_l (eq_z (side s p) (pos 0)) (lt_p s.a p && lt_p p s.b) e),
      (lt_p-true (both_l (lt_p s.a p) (lt_p p s.b) f), lt_p-true (both_r (lt_p s.a p) (lt_p p s.b) f)),
    )

module _ {s t : Segment} (k : Apart s t) where
  no_crossing : Opposite (side s t.a) (side s t.b) → Opposite (side t s.a) (side t s.b) → ⊥
  no_crossing (inl p) (inl q) = let e = same_turn s t in omega (ints, of-- (side s t.b) (side s t.a), of-- (side t s.a) (side t s.b), of_pos 0)
  no_crossing (inl p) (inr q) = k.falling q.0 q.1 p.0 p.1
  no_crossing (inr p) (inl q) = k.rising q.0 q.1 p.0 p.1
  no_crossing (inr p) (inr q) = let e = same_turn s t in omega (ints, of-- (side s t.b) (side s t.a), of-- (side t s.a) (side t s.b), of_pos 0)

  on : (r : Segment) (p : Point) → (side r p ≡ pos 0 → Between r p → ⊥) → in_interior r p ≡ true → ⊥
  on r p f e = let (z, h) = in_interior_true r p e in f z h

  pub apart_clear : meets_wrongly s t ≡ false
  unfolding meets_wrongly same_ends
  apart_clear = is_false (meets_wrongly s t) (λ e. go (one_of c (i || (j || m)) e))
    where
      c : Bool
      c = parts s t && parts t s

      i : Bool
      i = in_interior s t.a || in_interior s t.b

      j : Bool
      j = in_interior t s.a || in_interior t s.b

      m : Bool
      m = eq_p s.a t.a && eq_p s.b t.b

      last : (j ≡ true) ⊎ (m ≡ true) → ⊥
      last (inl e) = ⊎_elim (on t s.a k.a_on) (on t s.b k.b_on) (one_of (in_interior t s.a) (in_interior t s.b) e)
      last (inr e) = k.same (eq_p-true (both_l (eq_p s.a t.a) (eq_p s.b t.b) e)) (eq_p-true (both_r (eq_p s.a t.a) (eq_p s.b t.b) e))

      rest : (i ≡ true) ⊎ ((j || m) ≡ true) → ⊥
      rest (inl e) = ⊎_elim (on s t.a k.on_a) (on s t.b k.on_b) (one_of (in_interior s t.a) (in_interior s t.b) e)
      rest (inr e) = last (one_of j m e)

      go : (c ≡ true) ⊎ ((i || (j || m)) ≡ true) → ⊥
      go (inl e) = no_crossing (parts-true s t (both_l (parts s t) (parts t s) e)) (parts-true t s (both_r (parts s t) (parts t s) e))
      go (inr e) = rest (one_of i (j || m) e)
