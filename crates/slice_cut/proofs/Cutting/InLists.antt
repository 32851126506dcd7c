-- Paths as they stand in lists: how many, each by its place, and what is known of it.
use mathlib.Core.Path.{◌≡◌, refl, sym, ◌∙◌, ap, subst}
use mathlib.Core.List.{List, [], ◌∷◌, flatten}
use Prim.Native.Nat.{ℕ, zero, suc, ◌+◌, ◌*◌, ◌-◌, ◌≤◌, ◌<◌}
use native.Mathlib.Omega.{arith}
use lib.ListN.{length, get_or, take, drop, length-append, length-take, length-drop}
use lib.Seq.{take_all, drop-drop}
use lib.IntN.{ℤ}
use Rattle.geom.specs.declared.Point.{Point}
use Rattle.lists.specs.Sums.{tally}
use Rattle.lists.proofs.Members.{in_left, in_right}
use Rattle.lists.proofs.Sums.{tally_take, tally_part}
use Rattle.contour.specs.Points.{pair_up, cut, AllInRange}
use Rattle.contour.proofs.Points.Coordinates.{pair_up-take, pair_up-drop, length_pairs}
use Rattle.split_loops.specs.Splitting.{Splittable}
use Rattle.slice_cut.specs.Cutting.{paths_in, Stand}

-- ---- points cut by lengths
abbrev total : List ℕ → ℕ
total = tally (λ n. n)

pub length_cut : (ns : List ℕ) (ps : List Point) → length (cut (length ns) ns ps) ≡ length ns
unfolding cut
length_cut [] ps = refl
length_cut (n ∷ ns) ps = ap suc (length_cut ns (drop n ps))

cut_at : (ns : List ℕ) (ps : List Point) (k : ℕ) → k < length ns → get_or (cut (length ns) ns ps) k [] ≡ take (get_or ns k 0) (drop (total (take k ns)) ps)
unfolding cut tally
cut_at [] ps k h = absurd (omega arith)
cut_at (n ∷ ns) ps zero h = refl
cut_at (n ∷ ns) ps (suc k) h = cut_at ns (drop n ps) k (omega arith) ∙ ap (take (get_or ns k 0)) (drop-drop (total (take k ns)) n ps)

length_firsts : (ns : List ℕ) (ps : List Point) (k : ℕ) → total ns ≤ length ps → length (flatten (take k (cut (length ns) ns ps))) ≡ total (take k ns)
unfolding cut flatten tally
length_firsts ns ps zero h = refl
length_firsts [] ps (suc k) h = refl
length_firsts (n ∷ ns) ps (suc k) h =
    omega (
      arith,
      length-append (take n ps) (flatten (take k (cut (length ns) ns (drop n ps)))),
      length-take n ps,
      length-drop n ps,
      length_firsts ns (drop n ps) k (omega (arith, length-drop n ps)),
    )

near_at : (paths : List (List Point)) (k : ℕ) → k < length paths → AllInRange (flatten paths) → AllInRange (get_or paths k [])
unfolding flatten
near_at [] k h near = absurd (omega arith)
near_at (path ∷ paths) zero h near = λ p i. near p (in_left p path (flatten paths) i)
near_at (path ∷ paths) (suc k) h near = near_at paths k (omega arith) (λ p i. near p (in_right p path (flatten paths) i))

-- ---- paths that stand in lists: path k's points begin at a place
module _ {points : List ℤ} {lengths : List ℕ} (s : Stand points lengths) where
  enough : total lengths ≤ length (pair_up points)
  enough = omega (arith, s.inside, length_pairs points)

  pub points_passed : (k : ℕ) → length (flatten (take k (paths_in points lengths))) ≡ total (take k lengths)
  points_passed k = length_firsts lengths (pair_up points) k enough

  pub points_in_all : length (flatten (paths_in points lengths)) ≡ total lengths
  points_in_all =
      ap (λ (l : List (List Point)). length (flatten l)) (sym (take_all (length lengths) (paths_in points lengths) (omega (arith, length_cut lengths (pair_up points)))))
      ∙ points_passed (length lengths)
      ∙ ap total (take_all (length lengths) lengths (omega arith))

  module _ (k from : ℕ) (inside : k < length lengths) (place : from ≡ 2 * total (take k lengths)) where
    abbrev n : ℕ
    n = get_or lengths k 0

    pub next_place : from + 2 * n ≡ 2 * total (take (k + 1) lengths)
    next_place = omega (arith, tally_take (λ n. n) lengths 0 k inside)

    pub path_few : total (take k lengths) + n ≤ total lengths
    path_few = omega (arith, tally_take (λ n. n) lengths 0 k inside, tally_part (λ n. n) lengths (k + 1))

    pub path_fits : from + 2 * n ≤ length points
    path_fits = omega (arith, path_few, s.inside)

    pub path_is : pair_up (take (from + 2 * n - from) (drop from points)) ≡ get_or (paths_in points lengths) k []
    path_is =
        let e : from + 2 * n - from ≡ 2 * n = omega arith in
        rw (e, pair_up-take (drop from points) n, place, pair_up-drop points (total (take k lengths)))
        (sym (cut_at lengths (pair_up points) k inside))

    pub length_path : length (take (from + 2 * n - from) (drop from points)) ≡ 2 * n
    length_path = omega (arith, length-take (from + 2 * n - from) (drop from points), length-drop from points, path_fits)

    pub splittable : Splittable (take (from + 2 * n - from) (drop from points))
    splittable = record {
      whole = omega (arith, length_path);
      few = omega (arith, length_path, path_few, s.few);
      near = subst AllInRange (sym path_is) (near_at (paths_in points lengths) k (omega (arith, length_cut lengths (pair_up points))) s.near);
    }
