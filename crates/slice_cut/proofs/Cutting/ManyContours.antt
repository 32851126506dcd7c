-- Contours one by one: of the loops of a walk, and of walks.
use mathlib.Core.Path.{◌≡◌, refl, sym, ◌∙◌, ap, ap₂}
use mathlib.Core.List.{List, [], ◌∷◌, ◌++◌, map, flatten, map-append, append_assoc, append-nil}
use mathlib.Core.Bool.{Bool}
use Prim.Native.Nat.{ℕ, zero, suc, ◌+◌, ◌*◌, ◌≤◌, ◌<◌}
use native.Mathlib.Omega.{arith}
use native.Mathlib.Numerals.{add-one}
use lib.Dec.{eqb}
use lib.ListN.{length, get_or, take, drop, set, length-append, length-map, length-take}
use lib.Seq.{take-suc}
use lib.IntN.{ℤ}
use Rattle.geom.specs.declared.Point.{Point}
use Rattle.lists.specs.Written.{written}
use Rattle.lists.proofs.Written.{written_more, written_past, written_at}
use Rattle.lists.proofs.Entries.{flatten-++}
use Rattle.contour.specs.Points.{coordinates}
use Rattle.contour.proofs.Points.Coordinates.{length-coordinates, coordinates-++}
use Rattle.split_loops.specs.Loops.{split_loops}
use Rattle.split_loops.proofs.Fits.{loops_fit, loops_few}
use Rattle.contour.specs.Contour.{Contour, contour_of}
use Rattle.slice_cut.specs.Cutting.{walk_contours, points_of, roles_of, cut_walks}
use Rattle.contour.proofs.Contour.OneContour.{contour-length}

-- ---- the numbers of contours' points
abbrev pub numbers_of : List Contour → List ℤ
numbers_of contours = coordinates (flatten (points_of contours))

pub numbers-++ : (a b : List Contour) → numbers_of (a ++ b) ≡ numbers_of a ++ numbers_of b
numbers-++ a b =
    ap (λ (l : List (List Point)). coordinates (flatten l)) (map-append (λ (c : Contour). c.points) a b)
    ∙ ap coordinates (flatten-++ (points_of a) (points_of b))
    ∙ coordinates-++ (flatten (points_of a)) (flatten (points_of b))

pub points-++ : (a b : List Contour) → length (flatten (points_of (a ++ b))) ≡ length (flatten (points_of a)) + length (flatten (points_of b))
points-++ a b =
    ap (λ (l : List (List Point)). length (flatten l)) (map-append (λ (c : Contour). c.points) a b)
    ∙ ap length (flatten-++ (points_of a) (points_of b))
    ∙ length-append (flatten (points_of a)) (flatten (points_of b))

numbers_more : (a : List Contour) (c : Contour) → numbers_of (a ++ (c ∷ [])) ≡ numbers_of a ++ coordinates c.points
unfolding flatten
numbers_more a c = numbers-++ a (c ∷ []) ∙ ap (λ (l : List Point). numbers_of a ++ coordinates l) (append-nil c.points)

-- ---- of loops
module _ (clockwise direction : Bool) where
  -- a contour for each loop, with as many points
  pub lengths_stay : (loops : List (List Point)) → map length (points_of (map (contour_of clockwise direction) loops)) ≡ map length loops
  lengths_stay [] = refl
  lengths_stay (loop ∷ loops) = ap₂ (λ n (l : List ℕ). n ∷ l) (contour-length clockwise direction loop) (lengths_stay loops)

  pub points_stay : (loops : List (List Point)) → length (flatten (points_of (map (contour_of clockwise direction) loops))) ≡ length (flatten loops)
  unfolding flatten
  points_stay [] = refl
  points_stay (loop ∷ loops) =
      let c = contour_of clockwise direction loop in
      omega (
        arith,
        length-append c.points (flatten (points_of (map (contour_of clockwise direction) loops))),
        length-append loop (flatten loops),
        contour-length clockwise direction loop,
        points_stay loops,
      )

  pub numbers_stay : (loops : List (List Point)) → length (numbers_of (map (contour_of clockwise direction) loops)) ≡ 2 * length (flatten loops)
  numbers_stay loops = omega (arith, length-coordinates (flatten (points_of (map (contour_of clockwise direction) loops))), points_stay loops)

  one_loop_more : (loops : List (List Point)) (k : ℕ) → k < length loops
      → map (contour_of clockwise direction) (take (k + 1) loops) ≡ map (contour_of clockwise direction) (take k loops) ++ (contour_of clockwise direction (get_or loops k []) ∷ [])
  one_loop_more loops k h =
      ap (λ m. map (contour_of clockwise direction) (take m loops)) (add-one k)
      ∙ ap (map (contour_of clockwise direction)) (take-suc loops k [] h)
      ∙ map-append (contour_of clockwise direction) (take k loops) (get_or loops k [] ∷ [])

  -- ---- the first k loops of a list were made contours, in place
  pub record Finished (loops : List (List Point)) (points₀ : List ℤ) (roles₀ : List ℕ) (points : List ℤ) (roles : List ℕ) (k : ℕ) : Type 0 where
    pub points_are : points ≡ written (numbers_of (map (contour_of clockwise direction) (take k loops))) points₀
    pub roles_are : roles ≡ written (roles_of (map (contour_of clockwise direction) (take k loops))) roles₀

  pub none-finished : (loops : List (List Point)) (points₀ : List ℤ) (roles₀ : List ℕ) → Finished loops points₀ roles₀ points₀ roles₀ 0
  unfolding written coordinates flatten
  none-finished loops points₀ roles₀ = record { points_are = refl; roles_are = refl }

  module _ {loops : List (List Point)} {points₀ : List ℤ} {roles₀ : List ℕ} {points : List ℤ} {roles : List ℕ} {k : ℕ} (f : Finished loops points₀ roles₀ points roles k) where
    abbrev done : List Contour
    done = map (contour_of clockwise direction) (take k loops)

    module _ (from : ℕ) (place : from ≡ 2 * length (flatten (take k loops))) where
      pub untouched : drop from points ≡ drop from points₀
      untouched = ap (drop from) f.points_are ∙ written_past (numbers_of done) points₀ from (omega (arith, numbers_stay (take k loops)))

      pub finished_more : k < length loops → k < length roles₀ → {part : List ℤ} {role j : ℕ}
          → part ≡ coordinates (contour_of clockwise direction (get_or loops k [])).points
          → role ≡ (contour_of clockwise direction (get_or loops k [])).role
          → j ≡ 2 * length (get_or loops k [])
          → Finished loops points₀ roles₀ (take from points ++ (part ++ drop j (drop from points))) (set roles k role) (k + 1)
      finished_more inside room {part = part} {role} {j} e r n =
          let c = contour_of clockwise direction (get_or loops k []) in
          let next = one_loop_more loops k inside in
          record {
            points_are =
                written_at (numbers_of done) part points₀ points from j f.points_are (omega (arith, numbers_stay (take k loops))) (omega (arith, ap length e, length-coordinates c.points, contour-length clockwise direction (get_or loops k [])))
                ∙ ap (λ (l : List ℤ). written l points₀) (ap (numbers_of done ++◌) e ∙ sym (ap numbers_of next ∙ numbers_more done c));
            roles_are =
                ap₂ (λ (l : List ℕ) m. set l k m) f.roles_are r
                ∙ written_more (roles_of done) roles₀ k c.role (omega (arith, length-map done (λ (c : Contour). c.role), length-map (take k loops) (contour_of clockwise direction), length-take k loops)) room
                ∙ ap (λ (l : List ℕ). written l roles₀) (sym (ap roles_of next ∙ map-append (λ (c : Contour). c.role) done (c ∷ [])));
          }

-- ---- of walks
module _ (clockwise : Bool) (least : ℕ) where
  walk_fits : (direction : Bool) (walk : List Point) → length (flatten (points_of (walk_contours clockwise least direction walk))) ≤ length walk
  unfolding walk_contours
  walk_fits direction walk = omega (arith, points_stay clockwise direction (split_loops least walk), loops_fit least walk)

  walk_few : (direction : Bool) (walk : List Point) → length (walk_contours clockwise least direction walk) ≤ length walk
  unfolding walk_contours
  walk_few direction walk = omega (arith, length-map (split_loops least walk) (contour_of clockwise direction), loops_few least walk)

  pub walks_fit : (walks : List (List Point)) (directions : List ℕ) → length (flatten (points_of (cut_walks clockwise least walks directions))) ≤ length (flatten walks)
  unfolding cut_walks flatten
  walks_fit [] directions = omega arith
  walks_fit (walk ∷ walks) [] = omega arith
  walks_fit (walk ∷ walks) (d ∷ directions) =
      let a = walk_contours clockwise least (eqb d 1) walk in
      let b = cut_walks clockwise least walks directions in
      omega (
        arith,
        points-++ a b,
        length-append walk (flatten walks),
        walk_fits (eqb d 1) walk,
        walks_fit walks directions,
      )

  pub walks_few : (walks : List (List Point)) (directions : List ℕ) → length (cut_walks clockwise least walks directions) ≤ length (flatten walks)
  unfolding cut_walks flatten
  walks_few [] directions = omega arith
  walks_few (walk ∷ walks) [] = omega arith
  walks_few (walk ∷ walks) (d ∷ directions) =
      omega (
        arith,
        length-append (walk_contours clockwise least (eqb d 1) walk) (cut_walks clockwise least walks directions),
        length-append walk (flatten walks),
        walk_few (eqb d 1) walk,
        walks_few walks directions,
      )

  pub one-walk_more : (walks : List (List Point)) (directions : List ℕ) (k : ℕ) → k < length walks → k < length directions
      → cut_walks clockwise least (take (k + 1) walks) (take (k + 1) directions)
      ≡ cut_walks clockwise least (take k walks) (take k directions) ++ walk_contours clockwise least (eqb (get_or directions k 0) 1) (get_or walks k [])
  unfolding cut_walks
  one-walk_more [] directions k h g = absurd (omega arith)
  one-walk_more (walk ∷ walks) [] k h g = absurd (omega arith)
  one-walk_more (walk ∷ walks) (d ∷ directions) zero h g = append-nil (walk_contours clockwise least (eqb d 1) walk)
  one-walk_more (walk ∷ walks) (d ∷ directions) (suc k) h g =
      let e : suc k + 1 ≡ suc (k + 1) = omega arith in
      rw (e, one-walk_more walks directions k (omega arith) (omega arith))
      (sym (append_assoc (walk_contours clockwise least (eqb d 1) walk) (cut_walks clockwise least (take k walks) (take k directions)) (walk_contours clockwise least (eqb (get_or directions k 0) 1) (get_or walks k []))))
