-- The contours of the walks passed are written, and each walk's come after them.
use mathlib.Core.Path.{◌≡◌, refl, ◌∙◌, ap, subst}
use mathlib.Core.List.{List, [], flatten}
use mathlib.Core.Bool.{Bool}
use native.Mathlib.Omega.{arith}
use Prim.Native.Nat.{ℕ, ◌+◌, ◌*◌, ◌-◌, ◌≤◌, ◌<◌}
use lib.Dec.{eqb}
use lib.ListN.{length, get_or, take, drop, length-take, length-drop}
use lib.IntN.{ℤ}
use Rattle.geom.specs.declared.Point.{Point}
use Rattle.lists.specs.Sums.{tally}
use Rattle.contour.specs.Points.{pair_up}
use Rattle.contour.proofs.Points.Coordinates.{length_pairs}
use Rattle.split_loops.specs.declared.buffer.LoopTotals.{LoopTotals}
use Rattle.split_loops.specs.Loops.{split_loops}
use Rattle.split_loops.specs.Splitting.{loop_totals}
use Rattle.split_loops.proofs.Fits.{loops_fit, loops_few}
use Rattle.slice_cut.specs.Cutting.{walk_contours, paths_in, Stand, Holds}
use Rattle.slice_cut.proofs.Cutting.InLists.{length_cut, points_passed, points_in_all, next_place, path_few, path_fits, path_is, length_path, splittable}
use Rattle.slice_cut.proofs.Cutting.AllWalks.{Cut, none-cut, points_fit, contours_fit, cut_more, all_cut}
use Rattle.slice_cut.proofs.cut_in.Goals as goal

pub loop-k-init : goal.loop-k-init
unfolding tally
loop-k-init g c =
    let a = c.args in
    record {
      cut = none-cut a.clockwise a.min_area (paths_in a.walks.now a.walk_lengths.now) a.directions.now a.points.now a.lengths.now a.roles.now;
      place = refl;
      few = (omega arith, omega arith);
      inside = (omega arith, omega arith, omega arith);
    }

-- the walk in hand, after those passed
module _ {walks : List ℤ} {walk_lengths : List ℕ} (stand : Stand walks walk_lengths) {k from : ℕ} (inside : k < length walk_lengths) (place : from ≡ 2 * tally (λ n. n) (take k walk_lengths)) where
  abbrev n : ℕ
  n = get_or walk_lengths k 0

  abbrev part : List ℤ
  part = take (from + 2 * n - from) (drop from walks)

  few : from + 2 * n ≤ 4096
  few = omega (arith, path_few stand k from inside place, place, stand.few)

  length_walk : length (pair_up part) ≡ n
  length_walk = omega (arith, length_pairs part, length_path stand k from inside place)

  -- it has no more loops than points, nor more points in them
  found_few : (least : ℕ) {found : LoopTotals} → found ≡ loop_totals (split_loops least (pair_up part)) → (found.loops ≤ n) × (found.points ≤ n)
  found_few least e = (
    omega (arith, ap (λ (f : LoopTotals). f.loops) e, length_walk, loops_few least (pair_up part)),
    omega (arith, ap (λ (f : LoopTotals). f.points) e, length_walk, loops_fit least (pair_up part)),
  )

  -- what is written has left room for it
  module _ {clockwise : Bool} {least : ℕ} {directions : List ℕ} {points₀ : List ℤ} {lengths₀ roles₀ : List ℕ} {points : List ℤ} {lengths roles : List ℕ} {contours at : ℕ}
      (cut : Cut clockwise least (paths_in walks walk_lengths) directions points₀ lengths₀ roles₀ points lengths roles contours at k) where
    points_left : at + n ≤ length (flatten (paths_in walks walk_lengths))
    points_left = omega (arith, points_passed stand k, path_few stand k from inside place, points_in_all stand, points_fit clockwise least (paths_in walks walk_lengths) directions cut)

    contours_left : contours + n ≤ length (flatten (paths_in walks walk_lengths))
    contours_left = omega (arith, points_passed stand k, path_few stand k from inside place, points_in_all stand, contours_fit clockwise least (paths_in walks walk_lengths) directions cut)

    few_left : (at + n ≤ 2048) × (contours + n ≤ 2048)
    few_left = (omega (arith, points_left, points_in_all stand, stand.few), omega (arith, contours_left, points_in_all stand, stand.few))

pub overflow_mul-to : goal.overflow_mul-to
overflow_mul-to g c = omega (arith, few c.requires.walks_stand.0 c.loop-k-test.true c.loop-k.invariant.place)

pub overflow_add-to : goal.overflow_add-to
overflow_add-to g c = omega (arith, few c.requires.walks_stand.0 c.loop-k-test.true c.loop-k.invariant.place)

pub offset_bounds-walks-from : goal.offset_bounds-walks-from
offset_bounds-walks-from g c = omega (arith, few c.requires.walks_stand.0 c.loop-k-test.true c.loop-k.invariant.place)

pub slice_bounds-cut_walk-end : goal.slice_bounds-cut_walk-end
slice_bounds-cut_walk-end g c = path_fits c.requires.walks_stand.0 c.loop-k.k c.loop-k.from c.loop-k-test.true c.loop-k.invariant.place

-- what is past place i of a list
past : {A : Type 0} (l : List A) (i n : ℕ) → i + n ≤ length l → n ≤ length (take (length l - i) (drop i l))
past l i n h = omega (arith, length-take (length l - i) (drop i l), length-drop i l)

pub cut_walk-found-requires : goal.cut_walk-found-requires
cut_walk-found-requires g c =
    let p = c.requires in
    let q = c.loop-k in
    let s = q.auto in
    let v = q.invariant in
    let walk = length_walk p.walks_stand.0 c.loop-k-test.true v.place in
    let most = path_few p.walks_stand.0 q.k q.from c.loop-k-test.true v.place in
    let points = points_left p.walks_stand.0 c.loop-k-test.true v.place v.cut in
    let contours = contours_left p.walks_stand.0 c.loop-k-test.true v.place v.cut in
    let m = get_or c.args.walk_lengths.now q.k 0 in (
      splittable p.walks_stand.0 q.k q.from c.loop-k-test.true v.place,
      record {
        heads_fit = omega (arith, walk, most, p.sizes, p.walks_stand.2);
        nexts_fit = omega (arith, walk, most, p.sizes, p.walks_stand.2);
        seen_fit = omega (arith, walk, most, p.sizes, p.walks_stand.2);
        numbers_fit = omega (arith, walk, most, p.sizes, p.walks_stand.2);
        buffer_fits = omega (arith, walk, most, p.sizes, p.walks_stand.2);
        buffer_few = omega (arith, p.sizes);
      },
      omega (arith, length_path p.walks_stand.0 q.k q.from c.loop-k-test.true v.place, past q.points (2 * q.at) (2 * m) (omega (arith, points, s.points, p.room.0))),
      omega (arith, walk, past q.lengths q.contours m (omega (arith, contours, s.lengths, p.room.1))),
      omega (arith, walk, past q.roles q.contours m (omega (arith, contours, s.roles, p.room.2))),
    )

pub overflow_add-contours : goal.overflow_add-contours
overflow_add-contours g c =
    let v = c.loop-k.invariant in
    record { fits = omega (arith, (found_few c.requires.walks_stand.0 c.loop-k-test.true v.place c.args.min_area c.cut_walk-found.ensures.0).0, (few_left c.requires.walks_stand.0 c.loop-k-test.true v.place v.cut).1) }

pub overflow_add-at : goal.overflow_add-at
overflow_add-at g c =
    let v = c.loop-k.invariant in
    record { fits = omega (arith, (found_few c.requires.walks_stand.0 c.loop-k-test.true v.place c.args.min_area c.cut_walk-found.ensures.0).1, (few_left c.requires.walks_stand.0 c.loop-k-test.true v.place v.cut).0) }

pub loop-k-preserved : goal.loop-k-preserved
loop-k-preserved g c =
    let a = c.args in
    let p = c.requires in
    let q = c.loop-k in
    let s = q.auto in
    let v = q.invariant in
    let inside = c.loop-k-test.true in
    let walk_lengths = a.walk_lengths.now in
    let walks : List (List Point) = paths_in a.walks.now walk_lengths in
    let found = c.cut_walk-found in
    let made = found.new in
    let walk_is : pair_up (take (q.from + 2 * get_or walk_lengths q.k 0 - q.from) (drop q.from a.walks.now)) ≡ get_or walks q.k [] = path_is p.walks_stand.0 q.k q.from inside v.place in
    let loops : List (List Point) = split_loops a.min_area (get_or walks q.k []) in
    let found_is : found.result ≡ loop_totals loops = found.ensures.0 ∙ ap (λ (p : List Point). loop_totals (split_loops a.min_area p)) walk_is in
    let lent_points = take (length q.points - 2 * q.at) (drop (2 * q.at) q.points) in
    let lent_lengths = take (length q.lengths - q.contours) (drop q.contours q.lengths) in
    let lent_roles = take (length q.roles - q.contours) (drop q.contours q.roles) in
    let holds : Holds (walk_contours a.clockwise a.min_area (eqb (get_or a.directions.now q.k 0) 1) (get_or walks q.k [])) lent_points lent_lengths lent_roles made.points made.lengths made.roles =
    subst (λ (walk : List Point). Holds (walk_contours a.clockwise a.min_area (eqb (get_or a.directions.now q.k 0) 1) walk) lent_points lent_lengths lent_roles made.points made.lengths made.roles) walk_is found.ensures.1 in
    let few = found_few p.walks_stand.0 inside v.place a.min_area found.ensures.0 in
    let left = few_left p.walks_stand.0 inside v.place v.cut in
    let points = points_left p.walks_stand.0 inside v.place v.cut in
    let contours = contours_left p.walks_stand.0 inside v.place v.cut in
    record {
      cut =
          cut_more a.clockwise a.min_area walks a.directions.now v.cut (omega (arith, inside, length_cut walk_lengths (pair_up a.walks.now))) (omega (arith, inside, p.walks_stand.1)) holds
          (ap (λ (f : LoopTotals). f.loops) found_is) (ap (λ (f : LoopTotals). f.points) found_is);
      place = next_place p.walks_stand.0 q.k q.from inside v.place;
      few = (omega (arith, few.1, left.0), omega (arith, few.0, left.1));
      inside = (omega (arith, few.1, points, p.room.0), omega (arith, few.0, contours, p.room.1), omega (arith, few.0, contours, p.room.2));
    }

pub returns : goal.returns
returns g c =
    let a = c.args in
    all_cut a.clockwise a.min_area (paths_in a.walks.now a.walk_lengths.now) a.directions.now c.loop-k.invariant.cut
    (omega (arith, c.loop-k-test.false, length_cut a.walk_lengths.now (pair_up a.walks.now))) (omega (arith, c.loop-k-test.false, c.requires.walks_stand.1))
