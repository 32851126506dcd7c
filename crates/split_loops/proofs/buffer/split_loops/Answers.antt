-- The loops of the points taken, then the rest.
use mathlib.Core.Path.{◌≡◌, refl, sym, ap, subst, ◌∙◌}
use mathlib.Core.List.{List, [], ◌++◌}
use native.Mathlib.Omega.{arith}
use Prim.Native.Nat.{ℕ, ◌+◌, ◌*◌, ◌/◌, ◌≤◌}
use borrow.Author.Rules.{rules}
use lib.ListN.{length, take}
use lib.Seq.{length-take-le}
use lib.IntN.{ℤ}
use Rattle.geom.specs.declared.Point.{Point}
use Rattle.lists.specs.Members.{keep}
use Rattle.lists.proofs.Members.{keep-++, length_keep}
use Rattle.contour.specs.Points.{pair_up, AllInRange, Writes}
use Rattle.contour.specs.Area.{is_large}
use Rattle.contour.proofs.Points.Coordinates.{length_pairs, pair_up-take}
use Rattle.split_loops.specs.declared.buffer.LoopTotals.{LoopTotals}
use Rattle.split_loops.specs.Loops.{Buffered, buffer_points, rest, all_loops, split_loops}
use Rattle.split_loops.specs.Splitting.{loop_totals, first_points, Splittable}
use Rattle.split_loops.proofs.Splitting.{totals_on, writes_on}
use Rattle.split_loops.proofs.Fits.{buffers_fit, buffers_near, length_flatten_keep}
use Rattle.split_loops.proofs.buffer.split_loops.Goals as goal

pub slice_bounds-new-end : goal.slice_bounds-new-end
slice_bounds-new-end c = omega (arith, length_pairs c.args.points.now, c.requires.1.heads_fit)

pub slice_bounds-new-end-2 : goal.slice_bounds-new-end-2
slice_bounds-new-end-2 c = sym (length-take-le (length c.args.points.now / 2 + 1) c.args.memory.heads.now (omega (arith, length_pairs c.args.points.now, c.requires.1.heads_fit)))

pub take_points-len-requires : goal.take_points-len-requires
take_points-len-requires c =
    let a = c.args in
    let p = c.requires in
    let s = c.new-store.ensures in
    let l = s.same_lists in
    let bins_fit = length-take-le (length a.points.now / 2 + 1) a.memory.heads.now (omega (arith, length_pairs a.points.now, p.1.heads_fit)) in (
      p.0,
      s.binned,
      s.empty,
      record {
        heads_fit = omega (arith, length_pairs a.points.now, l.0.1, bins_fit);
        nexts_fit = omega (arith, l.1.1, p.1.nexts_fit);
        seen_fit = omega (arith, l.2.1, p.1.seen_fit);
        numbers_fit = omega (arith, l.3.1, p.1.numbers_fit);
        buffer_fits = p.1.buffer_fits;
        buffer_few = p.1.buffer_few;
      },
      refl,
      p.2,
      p.3,
    )

-- what is taken: the loops found, and the buffer, whose points are the rest
module _ (least : ℕ) (l : List ℤ) (found : LoopTotals) (len : ℕ) (s : Splittable l) where
  abbrev all : Buffered
  all = buffer_points [] [] (pair_up l)

  module _ (found_is : found ≡ loop_totals (keep (is_large least) all.loops)) (len_is : len ≡ length all.buffer) where
    points_fit : found.points + len ≤ length (pair_up l)
    points_fit = omega (arith, ap (λ (f : LoopTotals). f.points) found_is, len_is, length_flatten_keep (is_large least) all.loops, (buffers_fit [] [] (pair_up l)).points)

    loops_fit : found.loops + len ≤ length (pair_up l)
    loops_fit =
        omega (
          arith,
          ap (λ (f : LoopTotals). f.loops) found_is,
          len_is,
          length_keep (is_large least) all.loops,
          (buffers_fit [] [] (pair_up l)).loops,
          (buffers_fit [] [] (pair_up l)).points,
        )

  module _ (buffer : List ℤ) (room : 2 * len ≤ length buffer) (front : first_points len buffer ≡ all.buffer) where
    part_is : pair_up (take (2 * len) buffer) ≡ all.buffer
    part_is = pair_up-take buffer len ∙ front

    splittable : 2 * len ≤ length l → Splittable (take (2 * len) buffer)
    splittable h =
        let n = length-take-le (2 * len) buffer room in
        record {
          whole = omega (arith, n);
          few = omega (arith, n, s.few);
          near = subst AllInRange (sym part_is) (buffers_near [] [] (pair_up l) (λ p m. absurd m) s.near).buffer;
        }

pub overflow_mul-len : goal.overflow_mul-len
overflow_mul-len c =
    let l = c.args.points.now in
    let t = c.take_points-len in
    record { fits = omega (arith, points_fit c.args.min_area l t.new.writer.found t.result c.requires.0 t.ensures.2.found_is t.ensures.0, length_pairs l, c.requires.0.few) }

pub slice_bounds-add_rest-end : goal.slice_bounds-add_rest-end
slice_bounds-add_rest-end c =
    let t = c.take_points-len in
    omega (arith, points_fit c.args.min_area c.args.points.now t.new.writer.found t.result c.requires.0 t.ensures.2.found_is t.ensures.0, t.auto.buffer, c.requires.1.buffer_fits)

pub slice_bounds-add_rest-end-2 : goal.slice_bounds-add_rest-end-2
slice_bounds-add_rest-end-2 c =
    let t = c.take_points-len in
    sym (length-take-le (2 * t.result) t.new.buffer (omega (arith, points_fit c.args.min_area c.args.points.now t.new.writer.found t.result c.requires.0 t.ensures.2.found_is t.ensures.0, t.auto.buffer, c.requires.1.buffer_fits)))

pub add_rest-requires : goal.add_rest-requires
add_rest-requires c =
    let a = c.args in
    let p = c.requires in
    let l = a.points.now in
    let t = c.take_points-len in
    let len = t.result in
    let part = take (2 * len) t.new.buffer in
    let n = length_pairs l in
    let fit = points_fit a.min_area l t.new.writer.found len p.0 t.ensures.2.found_is t.ensures.0 in
    let loops = loops_fit a.min_area l t.new.writer.found len p.0 t.ensures.2.found_is t.ensures.0 in
    let room : 2 * len ≤ length t.new.buffer = omega (arith, fit, t.auto.buffer, p.1.buffer_fits) in
    let length_part : length part ≡ 2 * len = length-take-le (2 * len) t.new.buffer room in (
      splittable a.min_area l t.new.writer.found len p.0 t.new.buffer room t.ensures.1 (omega (arith, n, fit)),
      record {
        points_fit = omega (arith, n, fit, length_part, p.2, t.ensures.2.same_out.1);
        loops_fit = omega (arith, n, loops, length_part, p.3, t.ensures.2.same_lengths.1);
        few = (omega (arith, n, loops, p.0.few), omega (arith, n, fit, p.0.few));
      },
    )

pub returns : goal.returns
unfolding split_loops all_loops
returns c =
    let a = c.args in
    let l = a.points.now in
    let t = c.take_points-len in
    let taken : Buffered = buffer_points [] [] (pair_up l) in
    let large : List (List Point) → List (List Point) = λ l. keep (is_large a.min_area) l in
    let part = take (2 * t.result) t.new.buffer in
    let part_is : pair_up part ≡ taken.buffer = pair_up-take t.new.buffer t.result ∙ t.ensures.1 in
    let loops_are : large taken.loops ++ large (rest (pair_up part)) ≡ split_loops a.min_area (pair_up l) =
    ap (λ (b : List Point). large taken.loops ++ large (rest b)) part_is ∙ sym (keep-++ (is_large a.min_area) taken.loops (rest taken.buffer)) in
    let done = large taken.loops in
    let more = large (rest (pair_up part)) in
    let w = c.add_rest.new.self in
    let writes : Writes (split_loops a.min_area (pair_up l)) a.out.now a.lengths.now w.out.now w.lengths.now =
    subst (λ (l : List (List Point)). Writes l a.out.now a.lengths.now w.out.now w.lengths.now) loops_are (writes_on done more t.ensures.2.found_is t.ensures.2.writes c.add_rest.ensures.adds) in
    (totals_on done more t.ensures.2.found_is c.add_rest.ensures.adds ∙ ap loop_totals loops_are, record { points_are = search (rules, writes.points_are); lengths_are = search (rules, writes.lengths_are) })
