-- What the machine computed of a segment that was read, told of the segment at its place.
use mathlib.Core.Path.{◌≡◌, sym, ap, ◌∙◌}
use mathlib.Core.Bool.{Bool, false, ◌||◌}
use Prim.Native.Nat.{◌^◌, ◌<◌}
use lib.IntN.{ℤ}
use lib.Signed.{mag}
use mir.Syntax.{w64}
use mir.Val.{to_z, of_z, hbits}
use Rattle.integers.proofs.Machine.{got}
use Rattle.geom.specs.declared.Point.{Point}
use Rattle.geom.specs.Points.{eq_p, cross}
use Rattle.segm.specs.declared.Segment.{Segment}
use Rattle.meetings.specs.Meetings.{side}

module _ {s t : Segment} (q : s ≡ t) (p : Point) where
  -- the cross product is the side
  pub side_got : (z : ℤ) → mag z < 2 ^ hbits w64 → z ≡ cross s.a s.b p → to_z w64 (of_z w64 z) ≡ side t p
  unfolding side
  side_got z h e = got w64 z h (e ∙ ap (λ (u : Segment). side u p) q)

  -- where the first test failed, the start decides
  pub start_got : {strict r : Bool} → strict ≡ false → r ≡ eq_p s.a p → r ≡ (strict || eq_p t.a p)
  start_got n e = e ∙ ap (λ (u : Segment). eq_p u.a p) q ∙ sym (ap (λ (b : Bool). b || eq_p t.a p) n)
