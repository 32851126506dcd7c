-- The order of visiting is strict and total among the segments of a good drawing.
use mathlib.Core.Path.{◌≡◌}
use mathlib.Core.Bool.{false}
use Rattle.lists.specs.Members.{Pairs}
use Rattle.segm.specs.Segments.{Drawing}
use Rattle.lists.proofs.Members.{pairs_map}
use Rattle.meetings.specs.Meetings.{meets_wrongly}
use Rattle.checks.specs.Accepted.{Good}
use Rattle.strip.proofs.Strip.Visits.{first, first-true, first_by, first_trans, first-total, first_either}
use Rattle.strip.proofs.Strip.Apart.{apart}
use Rattle.ray.proofs.Sorting.{Either, Chains}
use Rattle.ray.proofs.Invariance.{proper}

module _ {d : Drawing} (g : Good d) where
  pub visits_either : Pairs (Either first) d
  visits_either = pairs_map {R = λ s t. meets_wrongly s t ≡ false} d (λ s t m n e. first_either (first-total (apart e) (proper g s m) (proper g t n))) g.apart

  pub visits_chain : Chains first d
  visits_chain = λ s t u m n o p q. first_by (first_trans (proper g s m) (proper g t n) (proper g u o) (first-true p) (first-true q))
