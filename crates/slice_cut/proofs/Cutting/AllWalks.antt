-- All walks: the contours of those passed are written, and the next walk's come after them.
use mathlib.Core.Path.{◌≡◌, refl, sym, ◌∙◌, ap, ap₂, subst}
use mathlib.Core.List.{List, [], ◌++◌, map, map-append, flatten}
use mathlib.Core.Bool.{Bool}
use Prim.Native.Nat.{ℕ, ◌+◌, ◌*◌, ◌-◌, ◌≤◌, ◌<◌}
use native.Mathlib.Omega.{arith}
use lib.Dec.{eqb}
use lib.ListN.{length, get_or, take, drop, length-append, length-map}
use lib.Seq.{take_all}
use lib.IntN.{ℤ}
use Rattle.geom.specs.declared.Point.{Point}
use Rattle.lists.specs.Written.{written}
use Rattle.lists.proofs.Written.{written_part}
use Rattle.contour.specs.Points.{coordinates}
use Rattle.contour.proofs.Points.Coordinates.{length-coordinates}
use Rattle.split_loops.specs.Loops.{split_loops}
use Rattle.contour.specs.Contour.{Contour, contour_of}
use Rattle.slice_cut.specs.Cutting.{walk_contours, points_of, roles_of, counts, Holds, cut_walks}
use Rattle.slice_cut.proofs.Cutting.ManyContours.{numbers_of, numbers-++, points-++, points_stay, walks_fit, walks_few, one-walk_more}

-- a part of a list was lent, from a place on, and came back
abbrev lent : {A : Type 0} → ℕ → List A → List A
lent i l = take (length l - i) (drop i l)

abbrev back : {A : Type 0} → ℕ → List A → List A → List A
back i l part = take i l ++ (part ++ drop (length l - i) (drop i l))

module _ (clockwise : Bool) (least : ℕ) (walks : List (List Point)) (directions : List ℕ) where
  abbrev done : ℕ → List Contour
  done k = cut_walks clockwise least (take k walks) (take k directions)

  -- the contours of the first k walks
  pub record Cut (points₀ : List ℤ) (lengths₀ roles₀ : List ℕ) (points : List ℤ) (lengths roles : List ℕ) (contours at k : ℕ) : Type 0 where
    pub holds : Holds (done k) points₀ lengths₀ roles₀ points lengths roles
    pub contours_are : contours ≡ length (done k)
    pub at_is : at ≡ length (flatten (points_of (done k)))

  pub none-cut : (points₀ : List ℤ) (lengths₀ roles₀ : List ℕ) → Cut points₀ lengths₀ roles₀ points₀ lengths₀ roles₀ 0 0 0
  unfolding cut_walks written coordinates flatten
  none-cut points₀ lengths₀ roles₀ = record { holds = record { points_are = refl; lengths_are = refl; roles_are = refl }; contours_are = refl; at_is = refl }

  module _ {points₀ : List ℤ} {lengths₀ roles₀ : List ℕ} {points : List ℤ} {lengths roles : List ℕ} {contours at k : ℕ} (c : Cut points₀ lengths₀ roles₀ points lengths roles contours at k) where
    -- they have room where the walks' points have
    pub points_fit : at ≤ length (flatten (take k walks))
    points_fit = omega (arith, c.at_is, walks_fit clockwise least (take k walks) (take k directions))

    pub contours_fit : contours ≤ length (flatten (take k walks))
    contours_fit = omega (arith, c.contours_are, walks_few clockwise least (take k walks) (take k directions))

    module _ (inside : k < length walks) (directed : k < length directions) where
      abbrev direction : Bool
      direction = eqb (get_or directions k 0) 1

      abbrev loops : List (List Point)
      loops = split_loops least (get_or walks k [])

      abbrev more : List Contour
      more = walk_contours clockwise least direction (get_or walks k [])

      next : done (k + 1) ≡ done k ++ more
      next = one-walk_more clockwise least walks directions k inside directed

      more_points : length (flatten (points_of more)) ≡ length (flatten loops)
      unfolding walk_contours
      more_points = points_stay clockwise direction loops

      more_contours : length more ≡ length loops
      unfolding walk_contours
      more_contours = length-map loops (contour_of clockwise direction)

      -- the next walk's contours come after them
      pub cut_more : {p : List ℤ} {l r : List ℕ} {n m : ℕ} → Holds more (lent (2 * at) points) (lent contours lengths) (lent contours roles) p l r → n ≡ length loops → m ≡ length (flatten loops)
          → Cut points₀ lengths₀ roles₀ (back (2 * at) points p) (back contours lengths l) (back contours roles r) (contours + n) (at + m) (k + 1)
      cut_more h e q = record {
        holds = record {
          points_are =
              ap (back (2 * at) points) h.points_are
              ∙ written_part (numbers_of (done k)) (numbers_of more) points₀ points (2 * at) c.holds.points_are (omega (arith, c.at_is, length-coordinates (flatten (points_of (done k)))))
              ∙ ap (λ (l : List ℤ). written l points₀) (sym (ap numbers_of next ∙ numbers-++ (done k) more));
          lengths_are =
              ap (back contours lengths) h.lengths_are
              ∙ written_part (map length (points_of (done k))) (map length (points_of more)) lengths₀ lengths contours c.holds.lengths_are (omega (arith, c.contours_are, length-map (points_of (done k)) length, length-map (done k) (λ (c : Contour). c.points)))
              ∙ ap (λ (l : List ℕ). written l lengths₀) (sym (ap (λ (l : List Contour). map length (points_of l)) next ∙ ap (map length) (map-append (λ (c : Contour). c.points) (done k) more) ∙ map-append length (points_of (done k)) (points_of more)));
          roles_are =
              ap (back contours roles) h.roles_are
              ∙ written_part (roles_of (done k)) (roles_of more) roles₀ roles contours c.holds.roles_are (omega (arith, c.contours_are, length-map (done k) (λ (c : Contour). c.role)))
              ∙ ap (λ (l : List ℕ). written l roles₀) (sym (ap roles_of next ∙ map-append (λ (c : Contour). c.role) (done k) more));
        };
        contours_are = omega (arith, c.contours_are, ap length next, length-append (done k) more, more_contours);
        at_is = omega (arith, c.at_is, ap (λ (l : List Contour). length (flatten (points_of l))) next, points-++ (done k) more, more_points);
      }

    -- past the last walk they are all
    pub all_cut : length walks ≤ k → length directions ≤ k
        → (record { contours = contours; points = at } ≡ counts (cut_walks clockwise least walks directions)) × Holds (cut_walks clockwise least walks directions) points₀ lengths₀ roles₀ points lengths roles
    all_cut h g =
        let all : done k ≡ cut_walks clockwise least walks directions = ap₂ (cut_walks clockwise least) (take_all k walks h) (take_all k directions g) in (
          ap₂ (λ i j. record { contours = i; points = j }) c.contours_are c.at_is ∙ ap counts all,
          subst (λ (l : List Contour). Holds l points₀ lengths₀ roles₀ points lengths roles) all c.holds,
        )
