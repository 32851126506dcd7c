-- A segment that does not meet a vertical one wrongly is clear of it, as the tests have it.
use mathlib.Core.Path.{◌≡◌}
use mathlib.Core.Logic.{inl, inr}
use mathlib.Core.Bool.{true}
use lib.IntN.{pos}
use lib.Signed.{lt_z, ◌≤ℤ◌, ◌<ℤ◌}
use Rattle.integers.proofs.Booleans.{or_l, or_r}
use Rattle.integers.proofs.Linear.{ints}
use Rattle.integers.proofs.Order.{lt_lt_z, lt_le}
use Rattle.geom.specs.Points.{eq_p}
use Rattle.geom.proofs.Points.{eq_eq_p}
use Rattle.segm.specs.declared.Segment.{Segment}
use Rattle.meetings.specs.Meetings.{side}
use Rattle.strip.specs.Strip.{above}
use Rattle.strip.proofs.Strip.Apart.{Apart, Wide}
use Rattle.strip.proofs.Strip.Above.{above_on, above_yes, above_no}
use Rattle.strip.specs.Neighbours.{LiesUnder, LiesAbove}
use Rattle.strip.proofs.Neighbours.Upright.{Upright}
use Rattle.strip.proofs.Neighbours.Passes.{Inner, inner_a, foot_over, head_under}
use Rattle.verticals.specs.Verticals.{lies_under, lies_above, ClearOf}

-- s started at v's x or before, and ends later
pub clear_of_starting : {v s : Segment} → Upright v → Apart v s → s.a.x ≤ℤ v.a.x → v.a.x <ℤ s.b.x → ClearOf v s
unfolding lies_under lies_above
clear_of_starting {v} {s} u k from to = record {
  under = λ h. go_under (foot_over u w k from (lt_le to) inner (above_yes s v.b h));
  over = λ h. go_over (head_under u w k from (lt_le to) inner (above_no s v.b h));
}
  where
    w : Wide s
    w = record { goes = omega ints }

    inner : Inner v.a.x s
    inner = inner_a s from to

    go_under : LiesUnder (λ t. t.a) v.a s → lies_under v.a s ≡ true
    go_under (inl h) = or_l (eq_p s.a v.a) (above_on s v.a h)
    go_under (inr e) = or_r (above s v.a) (eq_eq_p e)

    go_over : LiesAbove (λ t. t.a) v.b s → lies_above v.b s ≡ true
    go_over (inl h) = or_l (eq_p s.a v.b) (lt_lt_z h)
    go_over (inr e) = or_r (lt_z (side s v.b) (pos 0)) (eq_eq_p e)
