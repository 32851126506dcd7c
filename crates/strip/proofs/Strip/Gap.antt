-- The polynomial identities behind sides and heights.
use mathlib.Core.Path.{◌≡◌, sym, ◌∙◌, ap}
use mathlib.Core.List.{List, [], ◌∷◌}
use lib.IntN.{ℤ, pos, neg_ℤ, ◌+ℤ◌, ◌-ℤ◌, ◌*ℤ◌}
use Rattle.integers.proofs.Ring.{E, var, con, neg, ◌⊞◌, ◌⊟◌, ◌⊠◌, ◌≐◌, ring, ring2, ring4, ring5, ring6, ring7}
use Rattle.geom.specs.declared.Point.{Point}
use Rattle.geom.specs.Points.{cross}
use Rattle.geom.proofs.Points.CrossProduct.{cross_e, cross_swap}
use Rattle.segm.specs.declared.Segment.{Segment}
use Rattle.meetings.specs.Meetings.{side}
use Rattle.strip.specs.Strip.{reach, height, gap}

-- the coordinates of two segments and two more numbers
abbrev coords : Segment → Segment → ℤ → ℤ → List ℤ
coords j h x y = j.a.x ∷ j.a.y ∷ j.b.x ∷ j.b.y ∷ h.a.x ∷ h.a.y ∷ h.b.x ∷ h.b.y ∷ x ∷ y ∷ []

-- a segment as expressions
record SegE : Type 0 where
  ax : E
  ay : E
  bx : E
  by : E

abbrev j_e : SegE
j_e = record { ax = var 0; ay = var 1; bx = var 2; by = var 3 }

abbrev h_e : SegE
h_e = record { ax = var 4; ay = var 5; bx = var 6; by = var 7 }

abbrev side_e : SegE → E → E → E
side_e s px py = cross_e s.ax s.ay s.bx s.by px py

abbrev reach_e : SegE → E
reach_e s = s.bx ⊟ s.ax

abbrev height_e : SegE → E → E
height_e s x = s.ay ⊠ reach_e s ⊞ (x ⊟ s.ax) ⊠ (s.by ⊟ s.ay)

abbrev gap_e : SegE → SegE → E → E
gap_e j h x = height_e j x ⊠ reach_e h ⊟ height_e h x ⊠ reach_e j

-- how fast j rises against h
unfoldable pub slope : Segment → Segment → ℤ
slope j h = (j.b.y -ℤ j.a.y) *ℤ reach h -ℤ (h.b.y -ℤ h.a.y) *ℤ reach j

pub gap-at_a : (j h : Segment) → gap j h j.a.x ≡ reach j *ℤ side h j.a
unfolding gap height reach side cross
gap-at_a j h = ring (gap_e j_e h_e (var 0) ≐ reach_e j_e ⊠ side_e h_e (var 0) (var 1)) tt (coords j h (pos 0) (pos 0))

pub gap-at_b : (j h : Segment) → gap j h j.b.x ≡ reach j *ℤ side h j.b
unfolding gap height reach side cross
gap-at_b j h = ring (gap_e j_e h_e (var 2) ≐ reach_e j_e ⊠ side_e h_e (var 2) (var 3)) tt (coords j h (pos 0) (pos 0))

pub gap_turn : (j h : Segment) (x : ℤ) → gap h j x ≡ neg_ℤ (gap j h x)
unfolding gap height reach
gap_turn j h x = ring (gap_e h_e j_e (var 8) ≐ neg (gap_e j_e h_e (var 8))) tt (coords j h x (pos 0))

-- `gap` is linear
pub gap_rate : (j h : Segment) (x y : ℤ) → (y -ℤ x) *ℤ slope j h ≡ gap j h y -ℤ gap j h x
unfolding gap height reach slope
gap_rate j h x y =
    ring ((var 9 ⊟ var 8) ⊠ ((j_e.by ⊟ j_e.ay) ⊠ reach_e h_e ⊟ (h_e.by ⊟ h_e.ay) ⊠ reach_e j_e) ≐ gap_e j_e h_e (var 9) ⊟ gap_e j_e h_e (var 8)) tt (coords j h x y)

-- through a third, by heights and reaches alone
pub gap_trans : (j h k : Segment) (x : ℤ) → reach h *ℤ gap j k x ≡ reach k *ℤ gap j h x +ℤ reach j *ℤ gap h k x
unfolding gap
gap_trans j h k x =
    ring6 (λ nj dj nh dh nk dk. dh ⊠ (nj ⊠ dk ⊟ nk ⊠ dj) ≐ dk ⊠ (nj ⊠ dh ⊟ nh ⊠ dj) ⊞ dj ⊠ (nh ⊠ dk ⊟ nk ⊠ dh)) tt
    (height j x) (reach j) (height h x) (reach h) (height k x) (reach k)

-- the side of a point by its height
pub side-height : (s : Segment) (p : Point) → side s p ≡ p.y *ℤ reach s -ℤ height s p.x
unfolding side cross height reach
side-height s p = ring6 (λ ax ay bx by px py. cross_e ax ay bx by px py ≐ py ⊠ (bx ⊟ ax) ⊟ (ay ⊠ (bx ⊟ ax) ⊞ (px ⊟ ax) ⊠ (by ⊟ ay))) tt
    s.a.x s.a.y s.b.x s.b.y p.x p.y

pub slope_turn : (j h : Segment) → slope h j ≡ neg_ℤ (slope j h)
unfolding slope reach
slope_turn j h = ring (((h_e.by ⊟ h_e.ay) ⊠ reach_e j_e ⊟ (j_e.by ⊟ j_e.ay) ⊠ reach_e h_e) ≐ neg ((j_e.by ⊟ j_e.ay) ⊠ reach_e h_e ⊟ (h_e.by ⊟ h_e.ay) ⊠ reach_e j_e)) tt (coords j h (pos 0) (pos 0))

pub gap_self : (h : Segment) (x : ℤ) → gap h h x ≡ pos 0
unfolding gap
gap_self h x = ring2 (λ n d. n ⊠ d ⊟ n ⊠ d ≐ con (pos 0)) tt (height h x) (reach h)

-- straight above or below an end
pub side-at_a : (s : Segment) (p : Point) → p.x ≡ s.a.x → side s p ≡ reach s *ℤ (p.y -ℤ s.a.y)
unfolding side cross reach
side-at_a s p e = ap (λ z. (s.b.x -ℤ s.a.x) *ℤ (p.y -ℤ s.a.y) -ℤ (s.b.y -ℤ s.a.y) *ℤ (z -ℤ s.a.x)) e
    ∙ ring5 (λ ax ay bx by py. (bx ⊟ ax) ⊠ (py ⊟ ay) ⊟ (by ⊟ ay) ⊠ (ax ⊟ ax) ≐ (bx ⊟ ax) ⊠ (py ⊟ ay)) tt s.a.x s.a.y s.b.x s.b.y p.y

pub side-at_b : (s : Segment) (p : Point) → p.x ≡ s.b.x → side s p ≡ reach s *ℤ (p.y -ℤ s.b.y)
unfolding side cross reach
side-at_b s p e = ap (λ z. (s.b.x -ℤ s.a.x) *ℤ (p.y -ℤ s.a.y) -ℤ (s.b.y -ℤ s.a.y) *ℤ (z -ℤ s.a.x)) e
    ∙ ring5 (λ ax ay bx by py. (bx ⊟ ax) ⊠ (py ⊟ ay) ⊟ (by ⊟ ay) ⊠ (bx ⊟ ax) ≐ (bx ⊟ ax) ⊠ (py ⊟ by)) tt s.a.x s.a.y s.b.x s.b.y p.y

-- a point's sides of two lines
pub side-gap : (j h : Segment) (p : Point) → reach h *ℤ side j p ≡ reach j *ℤ side h p -ℤ gap j h p.x
unfolding gap
side-gap j h p = ap (λ z. reach h *ℤ z) (side-height j p) ∙ by ∙ ap (λ z. reach j *ℤ z -ℤ gap j h p.x) (sym (side-height h p))
  where
    by : reach h *ℤ (p.y *ℤ reach j -ℤ height j p.x) ≡ reach j *ℤ (p.y *ℤ reach h -ℤ height h p.x) -ℤ gap j h p.x
    by = ring5 (λ nj dj nh dh y. dh ⊠ (y ⊠ dj ⊟ nj) ≐ dj ⊠ (y ⊠ dh ⊟ nh) ⊟ (nj ⊠ dh ⊟ nh ⊠ dj)) tt (height j p.x) (reach j) (height h p.x) (reach h) p.y

pub side_up : (h : Segment) (p q : Point) → p.x ≡ q.x → side h q -ℤ side h p ≡ reach h *ℤ (q.y -ℤ p.y)
unfolding side cross reach
side_up h p q e = ap (λ z. ((h.b.x -ℤ h.a.x) *ℤ (q.y -ℤ h.a.y) -ℤ (h.b.y -ℤ h.a.y) *ℤ (q.x -ℤ h.a.x)) -ℤ ((h.b.x -ℤ h.a.x) *ℤ (p.y -ℤ h.a.y) -ℤ (h.b.y -ℤ h.a.y) *ℤ (z -ℤ h.a.x))) e
    ∙ ring7 (λ ax ay bx by qx qy py. cross_e ax ay bx by qx qy ⊟ cross_e ax ay bx by qx py ≐ (bx ⊟ ax) ⊠ (qy ⊟ py)) tt h.a.x h.a.y h.b.x h.b.y q.x q.y p.y

pub side_vertical : (s : Segment) (p : Point) → s.b.x ≡ s.a.x → side s p ≡ (s.b.y -ℤ s.a.y) *ℤ (s.a.x -ℤ p.x)
unfolding side cross
side_vertical s p e = ap (λ z. (z -ℤ s.a.x) *ℤ (p.y -ℤ s.a.y) -ℤ (s.b.y -ℤ s.a.y) *ℤ (p.x -ℤ s.a.x)) e
    ∙ ring5 (λ ax ay by px py. cross_e ax ay ax by px py ≐ (by ⊟ ay) ⊠ (ax ⊟ px)) tt s.a.x s.a.y s.b.y p.x p.y

pub side_own_a : (s : Segment) → side s s.a ≡ pos 0
unfolding side cross
side_own_a s = ring4 (λ ax ay bx by. cross_e ax ay bx by ax ay ≐ con (pos 0)) tt s.a.x s.a.y s.b.x s.b.y

pub side_own_b : (s : Segment) → side s s.b ≡ pos 0
unfolding side cross
side_own_b s = ring4 (λ ax ay bx by. cross_e ax ay bx by bx by ≐ con (pos 0)) tt s.a.x s.a.y s.b.x s.b.y

-- of two with one start
pub side_start : (s t : Segment) → s.a ≡ t.a → side t s.b ≡ neg_ℤ (side s t.b)
unfolding side
side_start s t e = ap (λ (p : Point). cross p t.b s.b) (sym e) ∙ cross_swap s.a t.b s.b
