-- The points taken and those to come are all points.
use mathlib.Core.Path.{◌≡◌, refl, sym, ap, subst, ◌∙◌}
use mathlib.Core.List.{List, []}
use mathlib.Core.Bool.{true, cond}
use native.Mathlib.Omega.{arith}
use native.Mathlib.Numerals.{add-one}
use Prim.Native.Nat.{ℕ, suc, ◌+◌, ◌<◌}
use lib.Dec.{ltb}
use lib.ListN.{length, get_or}
use lib.IntN.{ℤ}
use Rattle.geom.specs.declared.Point.{Point}
use Rattle.geom.specs.Points.{in_range}
use Rattle.lists.specs.Members.{keep}
use Rattle.lists.proofs.Members.{in_at}
use Rattle.contour.specs.Points.{pair_up, origin, AllInRange, Writes}
use Rattle.contour.specs.Area.{is_large}
use Rattle.contour.proofs.Points.Coordinates.{length_pairs}
use Rattle.bin_store.specs.Sightings.{Sighting, number_of, sight}
use Rattle.bin_store.specs.Bins.{memory}
use Rattle.bin_store.specs.Stores.{held}
use Rattle.bin_store.proofs.Bins.Items.{none_sighted}
use Rattle.split_loops.specs.Loops.{Buffered, buffer_point}
use Rattle.split_loops.specs.Splitting.{loop_totals, first_points, Adds}
use Rattle.split_loops.proofs.OnePoint.{length-buffered}
use Rattle.split_loops.proofs.Splitting.Taking.{Taking, none-taken, few_points, few_loops, taken_more, all_taken}
use Rattle.split_loops.proofs.buffer.take_points.Goals as goal

pub loop-i-init : goal.loop-i-init
loop-i-init c =
    let a = c.args in
    let w = a.writer.now in
    let empty : memory a.store.counts.count a.store.seen.now a.store.numbers.now ≡ [] = ap (λ n. memory n a.store.seen.now a.store.numbers.now) c.requires.2 ∙ none_sighted a.store.seen.now a.store.numbers.now in
    record {
      taking =
          rw (empty, c.requires.4) (none-taken a.min_area (pair_up a.points.now) w.out.now w.lengths.now);
      len_is = refl;
      binned = c.requires.1;
      few = omega (arith, c.requires.2);
      same_lists = record { heads_same = (refl, refl); nexts_same = (refl, refl); seen_same = (refl, refl); numbers_same = (refl, refl) };
      same_out = (refl, refl);
      same_lengths = (refl, refl);
    }

-- a point read is in range
near : (l : List ℤ) (i : ℕ) (p : Point) → AllInRange (pair_up l) → i < length (pair_up l) → p ≡ get_or (pair_up l) i origin → in_range p ≡ true
near l i p n h e = ap in_range e ∙ n _ (in_at (pair_up l) origin i h)

pub insert_if_not_exist-number-requires : goal.insert_if_not_exist-number-requires
insert_if_not_exist-number-requires c =
    let l = c.args.points.now in
    let inside : c.loop-i.i < length (pair_up l) = omega (arith, c.loop-i-test.true, length_pairs l) in
    let i = c.loop-i.invariant in
    let w = c.requires.3 in
    let h = inside in (
      i.binned,
      record {
        few = omega (arith, i.few, length_pairs l, c.requires.0.few);
        nexts_fit = omega (arith, i.few, i.same_lists.nexts_same.1, w.nexts_fit);
        seen_fit = omega (arith, i.few, i.same_lists.seen_same.1, w.seen_fit);
        numbers_fit = omega (arith, i.few, i.same_lists.numbers_same.1, w.numbers_fit);
      },
      near l c.loop-i.i c.point_at-p.result c.requires.0.near inside c.point_at-p.ensures,
    )

pub close-requires : goal.close-requires
close-requires c =
    let l = c.args.points.now in
    let inside : c.loop-i.i < length (pair_up l) = omega (arith, c.loop-i-test.true, length_pairs l) in
    let few : length (pair_up l) < 2049 = omega (arith, length_pairs l, c.requires.0.few) in
    let i = c.loop-i.invariant in
    let points_room : c.loop-i.writer.found.points + c.loop-i.len < length (pair_up l) = omega (arith, few_points i.taking, i.len_is, inside) in
    let loops_room : c.loop-i.writer.found.loops + c.loop-i.len < length (pair_up l) = omega (arith, few_loops i.taking, i.len_is, inside) in
    let s = c.loop-i.auto in
    let q = c.requires in (
      near l c.loop-i.i c.point_at-p.result q.0.near inside c.point_at-p.ensures,
      omega (arith, points_room, few),
      omega (arith, points_room, s.buffer, q.3.buffer_fits),
      omega (arith, s.buffer, q.3.buffer_few),
      i.taking.near,
      record {
        points_fit = omega (arith, points_room, i.same_out.1, q.5, length_pairs l);
        loops_fit = omega (arith, loops_room, i.same_lengths.1, q.6);
        few = (omega (arith, loops_room, few), omega (arith, points_room, few));
      },
    )

pub loop-i-preserved : goal.loop-i-preserved
loop-i-preserved c =
    let l = c.args.points.now in
    let points = pair_up l in
    let inside : c.loop-i.i < length points = omega (arith, c.loop-i-test.true, length_pairs l) in
    let i = c.loop-i.invariant in
    let p = c.point_at-p.result in
    let told = c.insert_if_not_exist-number in
    let buffer : List Point = first_points c.loop-i.len c.loop-i.buffer in
    let after : List Sighting = held told.new.self in
    let sighted : after ≡ sight (held c.loop-i.store) p (suc (length buffer)) = told.ensures.holds ∙ ap (sight (held c.loop-i.store) p) (add-one c.loop-i.len ∙ ap suc i.len_is) in
    let one : ℕ → Buffered = λ number. buffer_point number buffer p in
    let same : one told.result ≡ one (number_of after p) = ap one told.ensures.tells in
    let close = c.close in
    let w = c.loop-i.writer in
    let w' = close.new.writer in
    let added : Adds (keep (is_large c.args.min_area) (one (number_of after p)).loops) w.found w'.found w.out.now w.lengths.now w'.out.now w'.lengths.now =
    subst (λ (t : Buffered). Adds (keep (is_large c.args.min_area) t.loops) w.found w'.found w.out.now w.lengths.now w'.out.now w'.lengths.now) same close.ensures.1.adds in
    let more : Taking c.args.min_area points c.args.writer.now.out.now c.args.writer.now.lengths.now after (one (number_of after p)).buffer w'.out.now w'.lengths.now w'.found (c.loop-i.i + 1) =
    taken_more i.taking p after (sym c.point_at-p.ensures) inside (near l c.loop-i.i p c.requires.0.near inside c.point_at-p.ensures) sighted added in
    let len_is : c.length_after-len.result ≡ length (one told.result).buffer =
    c.length_after-len.ensures ∙ ap (λ (m : ℕ). cond (ltb told.result m) told.result (suc m)) i.len_is ∙ sym (length-buffered told.result buffer p) in
    let front-is : first_points c.length_after-len.result close.new.buffer ≡ (one told.result).buffer =
    ap (λ (m : ℕ). first_points m close.new.buffer) len_is ∙ close.ensures.0 in
    let a = c.args in
    let s = i.same_lists in
    let t = told.ensures.same_lists in
    record {
      taking =
          subst (λ (b : List Point). Taking a.min_area points a.writer.now.out.now a.writer.now.lengths.now after b w'.out.now w'.lengths.now w'.found (c.loop-i.i + 1))
          (sym (front-is ∙ ap (λ (t : Buffered). t.buffer) same)) more;
      len_is = len_is ∙ sym (ap length front-is);
      binned = told.ensures.binned;
      few = omega (arith, i.few, told.ensures.one_more);
      same_lists = record {
        heads_same = (t.heads_same.0 ∙ s.heads_same.0, t.heads_same.1 ∙ s.heads_same.1);
        nexts_same = (t.nexts_same.0 ∙ s.nexts_same.0, t.nexts_same.1 ∙ s.nexts_same.1);
        seen_same = (t.seen_same.0 ∙ s.seen_same.0, t.seen_same.1 ∙ s.seen_same.1);
        numbers_same = (t.numbers_same.0 ∙ s.numbers_same.0, t.numbers_same.1 ∙ s.numbers_same.1);
      };
      same_out = (close.ensures.1.same_out.0 ∙ i.same_out.0, close.ensures.1.same_out.1 ∙ i.same_out.1);
      same_lengths = (close.ensures.1.same_lengths.0 ∙ i.same_lengths.0, close.ensures.1.same_lengths.1 ∙ i.same_lengths.1);
    }

pub returns : goal.returns
returns c =
    let a = c.args in
    let w₀ = a.writer.now in
    let w = c.loop-i.writer in
    let i = c.loop-i.invariant in
    let all = sym (all_taken i.taking (omega (arith, c.loop-i-test.false, length_pairs a.points.now))) in (
      i.len_is ∙ ap (λ (u : Buffered). length u.buffer) all,
      ap (λ (u : Buffered). u.buffer) all,
      record {
        same_out = i.same_out;
        same_lengths = i.same_lengths;
        found_is = i.taking.found_is ∙ ap (λ (u : Buffered). loop_totals (keep (is_large a.min_area) u.loops)) all;
        writes = subst (λ (u : Buffered). Writes (keep (is_large a.min_area) u.loops) w₀.out.now w₀.lengths.now w.out.now w.lengths.now) all i.taking.writes;
      },
    )
