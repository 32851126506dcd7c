-- x, y pairs of a part of a list.
use mathlib.Core.Path.{◌≡◌, refl, ap}
use mathlib.Core.List.{List, [], ◌∷◌, ◌++◌}
use Prim.Native.Nat.{ℕ, zero, suc, ◌+◌, ◌*◌, ◌-◌, ◌≤◌, ◌<◌}
use native.Mathlib.Omega.{arith}
use native.Mathlib.Numerals.{add-one}
use lib.ListN.{length, get_or, take, drop, length-drop, drop_of_length-le}
use lib.Seq.{drop-cons, drop-drop}
use lib.IntN.{ℤ, pos}
use Rattle.geom.specs.declared.Point.{Point}
use Rattle.contour.specs.Points.{pair_up, cut}
use Rattle.contour.proofs.Points.Coordinates.{no_pair, pair_up-take, pair_up-drop}
use Rattle.clip_print.specs.Printed.{point_line, path_lines, paths_lines}

-- ---- the lines of a path, from the pair at place i on
module _ (path i : ℕ) (l : List ℤ) where
  pub path_more : {u v : ℤ} → u ≡ get_or l (2 * i) (pos 0) → v ≡ get_or l (2 * i + 1) (pos 0) → 2 * i + 1 < length l
      → path_lines path i (pair_up (drop (2 * i) l)) ≡ point_line path i (record { x = u; y = v }) ++ path_lines path (i + 1) (pair_up (drop (2 * (i + 1)) l))
  unfolding pair_up path_lines
  path_more p q h =
      let e : 2 * i + 1 ≡ suc (2 * i) = omega arith in
      let f : 2 * (i + 1) ≡ suc (suc (2 * i)) = omega arith in
      rw (p, q, e, f, add-one i, drop-cons l (2 * i) (pos 0) (omega arith), drop-cons l (suc (2 * i)) (pos 0) (omega arith))

  pub path_none : length l ≤ 2 * i + 1 → path_lines path i (pair_up (drop (2 * i) l)) ≡ []
  unfolding path_lines
  path_none h = ap (path_lines path i) (no_pair (drop (2 * i) l) (omega (arith, length-drop (2 * i) l)))

-- ---- the lines of the paths from path k on, whose points begin at a place of the list
abbrev pub lines_from : (k from : ℕ) → List ℤ → List ℕ → List ℕ
lines_from k from points lengths = paths_lines k (cut (length (drop k lengths)) (drop k lengths) (pair_up (drop from points)))

module _ (k from : ℕ) (points : List ℤ) (lengths : List ℕ) where
  pub paths_more : k < length lengths
      → lines_from k from points lengths ≡ path_lines k 0 (pair_up (take (from + 2 * get_or lengths k 0 - from) (drop from points))) ++ lines_from (k + 1) (from + 2 * get_or lengths k 0) points lengths
  unfolding paths_lines cut
  paths_more h =
      let n = get_or lengths k 0 in
      let e : from + 2 * n - from ≡ 2 * n = omega arith in
      rw (e, add-one k, drop-cons lengths k 0 h, pair_up-take (drop from points) n, ← drop-drop (2 * n) from points, pair_up-drop (drop from points) n)

  pub paths_none : length lengths ≤ k → lines_from k from points lengths ≡ []
  unfolding paths_lines cut
  paths_none h = rw (drop_of_length-le lengths {i = k} h)

-- the first n lengths are enough to cut n paths
pub cut-first : (n : ℕ) (lengths : List ℕ) (points : List Point) → cut (length (take n lengths)) (take n lengths) points ≡ cut n lengths points
unfolding cut
cut-first zero lengths points = refl
cut-first (suc n) [] points = refl
cut-first (suc n) (k ∷ lengths) points = ap (take k points ∷◌) (cut-first n lengths (drop k points))
