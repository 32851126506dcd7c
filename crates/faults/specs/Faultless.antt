-- What refusals 2 to 7 and 13 leave of a drawing.
use Rattle.std.specs.Prelude.{◌≡◌, true, false, ◌≤◌, length, pos, nat_abs, ◌≤ℤ◌}
use Rattle.lists.specs.Members.{◌∈◌, Pairs}
use Rattle.geom.specs.Points.{lt_p, in_range}
use Rattle.segm.specs.declared.Segment.{Segment}
use Rattle.segm.specs.Segments.{Drawing}
use Rattle.faults.specs.Faults.{ends_in_range}

-- a segment that 3 and 4 leave: both ends in range, a less than b
pub record Proper (s : Segment) : Type 0 where
  pub near_a : in_range s.a ≡ true
  pub near_b : in_range s.b ≡ true
  pub rises : lt_p s.a s.b ≡ true

-- a drawing that 2 to 7 and 13 leave
pub record Faultless (d : Drawing) : Type 0 where
  pub few : length d ≤ 1024
  pub near : (s : Segment) → s ∈ d → ends_in_range s ≡ true
  pub proper : (s : Segment) → s ∈ d → lt_p s.a s.b ≡ true
  pub winding : (s : Segment) → s ∈ d → nat_abs s.winding ≤ 1000
  pub bits : (s : Segment) → s ∈ d → (pos 0 ≤ℤ s.bits) × (s.bits ≤ℤ pos 3)
  pub lots : (s : Segment) → s ∈ d → (pos 0 ≤ℤ s.lot) × (s.lot ≤ℤ pos 9999)
  pub rising : Pairs (λ s t. lt_p t.a s.a ≡ false) d
