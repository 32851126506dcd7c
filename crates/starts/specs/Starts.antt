-- What starts at one x, node by node: what enters the list, where vertical segments stand, and the top counts. The contracts of `starts` cite these.
use Rattle.std.specs.Prelude.{◌≡◌, List, true, ℕ, ◌<◌, ◌≤◌, length, ℤ}
use Rattle.geom.specs.Points.{lt_p}
use Rattle.segm.specs.Segments.{Drawing, segment_at}
use Rattle.strip.specs.Strip.{is_vertical}
use Rattle.count_up.specs.CountUp.{OpenAt, Counts, Tops}
use Rattle.open_list.specs.OpenList.{CanEnter, Entered}
use Rattle.verticals.specs.Verticals.{StandsInGap, Clears}

-- the places before k start before those from k on
abbrev pub Splits : Drawing → ℕ → Type 0
Splits d k = (i j : ℕ) → i < k → k ≤ j → j < length d → lt_p (segment_at d i).a (segment_at d j).a ≡ true

-- places from..r, at most up to `to`, are those that start at one point
pub record NodeEnd (d : Drawing) (from to r : ℕ) : Type 0 where
  pub since : from < r
  pub till : r ≤ to
  pub here : (i : ℕ) → from ≤ i → i < r → (segment_at d i).a ≡ (segment_at d from).a
  pub splits : Splits d r

-- the vertical segment v of places from..to stands in a gap of the list in which places from..m have entered: those of its own node and lower ones
pub record Gapped (d : Drawing) (from to : ℕ) (l : List ℕ) (v : ℕ) : Type 0 where
  pub m : ℕ
  pub own : v < m
  pub till : m ≤ to
  pub splits : Splits d m
  pub between : List ℕ
  pub entered : Entered d from m l between
  pub in_gap : StandsInGap d (segment_at d v) between

-- where the tops of the places before `from` are counts, those of the places before `to` are afterwards
abbrev pub Counting : Drawing → (from to : ℕ) → List ℕ → (tops tops' : List ℤ) → Type 0
Counting d from to l tops tops' = (count : ℕ → ℤ) → Counts d count → (y : ℤ) → OpenAt d from y l → ((i : ℕ) → from ≤ i → i < to → (segment_at d i).a.x ≡ y)
    → Tops count from tops → Tops count to tops'

-- the segments of places from..to are passed: l becomes l', and the tops become tops'
pub record Started (d : Drawing) (from to : ℕ) (l l' : List ℕ) (tops tops' : List ℤ) : Type 0 where
  pub entered : Entered d from to l l'
  pub gaps : (v : ℕ) → from ≤ v → v < to → is_vertical (segment_at d v) ≡ true → Gapped d from to l v
  pub counted : Counting d from to l tops tops'

-- every test is passed: what enters fits, and each list on the way is clear of the vertical segments
pub record CanStart (d : Drawing) (from to : ℕ) (l : List ℕ) : Type 0 where
  pub entering : CanEnter d from to l
  pub clears : (m : ℕ) (between : List ℕ) → from ≤ m → m ≤ to → Entered d from m l between → Clears d from m between
