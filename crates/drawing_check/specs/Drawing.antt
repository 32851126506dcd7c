-- The verdict on a drawing alone: refusals 3 to 9 and 13, each at the place of a segment. A place with nothing wrong has none.
use Rattle.std.specs.Prelude.{◌&&◌, cond, ℕ, suc, length, drop, Option, Some, None}
use Rattle.lists.specs.Members.{any}
use Rattle.refusal.specs.declared.Kind.{Kind}
use Rattle.refusal.specs.declared.Kind.TheVariants.{WrongMeeting, Unbalanced}
use Rattle.refusal.specs.Order.{Verdict, first, ◌then◌}
use Rattle.segm.specs.Segments.{Drawing, segment_at}
use Rattle.faults.specs.Faults.{faults_of}
use Rattle.meetings.specs.Meetings.{meets_wrongly}
use Rattle.balance.specs.Balance.{balances}

-- 8, at the lower of two places
unfoldable pub meeting_at : Drawing → ℕ → Option Kind
meeting_at d i = cond (any (meets_wrongly (segment_at d i)) (drop (suc i) d)) (Some WrongMeeting) None

-- 8 by lower, then upper place
unfoldable pub meetings_of : Drawing → Verdict
meetings_of d = first (meeting_at d) (length d)

-- 9, at a segment that touches an unbalanced point
unfoldable pub unbalanced_at : Drawing → ℕ → Option Kind
unbalanced_at d i = cond (balances d (segment_at d i).a && balances d (segment_at d i).b) None (Some Unbalanced)

-- 9 by the lowest place
unfoldable pub unbalanced_of : Drawing → Verdict
unbalanced_of d = first (unbalanced_at d) (length d)

-- 3 to 7 and 13 by place, then 8, then 9
unfoldable pub drawing_verdict : Drawing → Verdict
drawing_verdict d = faults_of d then meetings_of d then unbalanced_of d
