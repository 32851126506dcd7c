-- The derived order looks at x, then at y.
use Rattle.std.proofs.Common.{◌≡◌, sym, ◌∙◌, refl, Bool, true, false, cond, Some, Ordering, Less, Equal, Greater}
use Rattle.std.specs.Prelude.{◌<ℤ◌}
use Rattle.std.specs.Ordering.{MatchOrdering, is_lt, is_some_and, partial_ordering_then, int_cmp}
use Rattle.std.specs.Cmp.{int_ranks}
use Rattle.std.specs.Int.Signed.{lt_z}
use Rattle.integers.proofs.Linear.{ints}
use Rattle.integers.proofs.Order.{lt_lt_z, le_lt_z}
use Rattle.geom.specs.declared.Point.{Point}
use Rattle.geom.specs.Points.{lt_p}
use Rattle.geom.proofs.Points.{lt_p_left, lt_p_right, lt_p_level}
use Rattle.geom.proofs.less.Goals as goal

tested : (a b : Bool) → is_lt (cond a Less (cond b Greater Equal)) ≡ a
tested true b = refl
tested false true = refl
tested false false = refl

by_both : (p q : Point) → is_some_and is_lt (partial_ordering_then (Some (int_cmp p.x q.x)) (Some (int_cmp p.y q.y))) ≡ lt_p p q
by_both p q = go (int_cmp p.x q.x) (int_ranks p.x q.x)
  where
    go : (o : Ordering) → MatchOrdering o (p.x <ℤ q.x) (p.x ≡ q.x) (q.x <ℤ p.x) → is_some_and is_lt (partial_ordering_then (Some o) (Some (int_cmp p.y q.y))) ≡ lt_p p q
    go Less h = sym (lt_p_left p q (lt_lt_z h))
    go Equal h = tested (lt_z p.y q.y) (lt_z q.y p.y) ∙ sym (lt_p_level p q (le_lt_z {a = p.x} {b = q.x} (omega (ints, h))) (le_lt_z {a = q.x} {b = p.x} (omega (ints, h))))
    go Greater h = sym (lt_p_right p q (lt_lt_z h))

pub returns : goal.returns
returns c = c.lt.ensures ∙ by_both c.args.p c.args.q
