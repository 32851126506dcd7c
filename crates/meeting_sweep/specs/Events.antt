-- What happens at one x. The contracts of `meeting_sweep` cite these.
use Rattle.std.specs.Prelude.{◌≡◌, List, ℕ, ◌<◌, ◌≤◌, ℤ}
use Rattle.segm.specs.Segments.{Drawing}
use Rattle.open_list.specs.OpenList.{CanLeave, HasLeft}
use Rattle.verticals.specs.Verticals.{Unbroken}
use Rattle.starts.specs.Starts.{Started, CanStart}

-- of the numbers f 0, f 1, .., `many` of them, r is the place of the first from k on that is not x, or `many` if there is none
pub record Past (f : ℕ → ℤ) (k many : ℕ) (x : ℤ) (r : ℕ) : Type 0 where
  pub from : k ≤ r
  pub till : r ≤ many
  pub here : (j : ℕ) → k ≤ j → j < r → f j ≡ x
  pub past : r < many → f r ≡ x → ⊥

-- the list l becomes l': no end there lies within a vertical segment, those that end there leave, and those that start there enter or stand in gaps
pub record Happened (d : Drawing) (ends : List ℕ) (from to : ℕ) (l l' : List ℕ) (tops tops' : List ℤ) : Type 0 where
  pub between : List ℕ
  pub unbroken : Unbroken d ends
  pub left : HasLeft d ends l between
  pub started : Started d from to between l' tops tops'

-- every test of the event is passed: what each of them asks for, in the order in which they are made
pub record ClearEvent (d : Drawing) (ends : List ℕ) (from to : ℕ) (l : List ℕ) : Type 0 where
  pub unbroken : Unbroken d ends
  pub leaving : CanLeave d ends l
  pub starting : (between : List ℕ) → HasLeft d ends l between → CanStart d from to between
