-- One contour: its points and its role, by the loop that it is made of.
use mathlib.Core.Path.{◌≡◌, refl, sym, ◌∙◌, ap}
use mathlib.Core.List.{List, reverse}
use mathlib.Core.Bool.{Bool, true, false, cond, beq}
use Prim.Native.Nat.{◌%◌}
use lib.ListN.{length, length-reverse}
use lib.IntN.{ℤ}
use mir.Val.{bool_byte}
use Rattle.geom.specs.declared.Point.{Point}
use Rattle.contour.specs.Points.{coordinates, pair_up, turned_round}
use Rattle.contour.specs.Area.{is_clockwise}
use Rattle.contour.proofs.Points.Coordinates.{coordinates_pairs}
use Rattle.contour.specs.Contour.{contour_of}

module _ (clockwise direction : Bool) where
  -- as many points as its loop
  pub contour-length : (loop : List Point) → length (contour_of clockwise direction loop).points ≡ length loop
  unfolding contour_of
  contour-length loop = go (beq (beq (is_clockwise loop) direction) (beq clockwise (is_clockwise loop)))
    where
      go : (b : Bool) → length (cond b (reverse loop) loop) ≡ length loop
      go true = length-reverse loop
      go false = refl

  -- by the loop's list of numbers
  module _ {order : Bool} (l : List ℤ) (is : order ≡ is_clockwise (pair_up l)) where
    pub role_is : bool_byte (beq order direction) ≡ (contour_of clockwise direction (pair_up l)).role
    unfolding contour_of
    role_is = byte (beq order direction) ∙ ap (λ o. cond (beq o direction) 1 0) is
      where
        byte : (b : Bool) → bool_byte b ≡ cond b 1 0
        byte true = refl
        byte false = refl

    points_are : (b : Bool) → beq (beq order direction) (beq clockwise order) ≡ b
        → coordinates (cond b (reverse (pair_up l)) (pair_up l)) ≡ coordinates (contour_of clockwise direction (pair_up l)).points
    unfolding contour_of
    points_are b e = ap (λ b. coordinates (cond b (reverse (pair_up l)) (pair_up l))) (sym e ∙ ap (λ o. beq (beq o direction) (beq clockwise o)) is)

    pub turned : beq (beq order direction) (beq clockwise order) ≡ true → turned_round l ≡ coordinates (contour_of clockwise direction (pair_up l)).points
    unfolding turned_round
    turned e = points_are true e

    pub left : length l % 2 ≡ 0 → beq (beq order direction) (beq clockwise order) ≡ false → l ≡ coordinates (contour_of clockwise direction (pair_up l)).points
    left whole e = sym (coordinates_pairs l whole) ∙ points_are false e
