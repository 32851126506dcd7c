-- Paths written and paths to come are all paths.
use Rattle.std.proofs.Common.{arith}
use Rattle.clip_paths.proofs.Writing.AllPaths.{none_yet, at_few, paths_few, points_for, lengths_for, begins_a_path, enough, fewer, more, no_more, totals_are, all_written}
use Rattle.clip_paths.proofs.links.clip_links.Goals as goal

pub loop-k-init : goal.loop-k-init
loop-k-init c = none_yet _ _ _ _ _

pub overflow_mul-at : goal.overflow_mul-at
overflow_mul-at c = record { fits = omega (arith, at_few _ _ _ _ _ c.requires c.loop-bits.invariant c.loop-k-test.true c.loop-bits-test.true) }

pub offset_bounds-points-at : goal.offset_bounds-points-at
offset_bounds-points-at c = record { fits = omega (arith, at_few _ _ _ _ _ c.requires c.loop-bits.invariant c.loop-k-test.true c.loop-bits-test.true) }

pub slice_bounds-next_path-count : goal.slice_bounds-next_path-count
slice_bounds-next_path-count c = omega (arith, points_for _ _ _ _ _ c.requires c.loop-bits.invariant c.loop-k-test.true c.loop-bits-test.true)

pub slice_bounds-next_path-start : goal.slice_bounds-next_path-start
slice_bounds-next_path-start c = omega (arith, points_for _ _ _ _ _ c.requires c.loop-bits.invariant c.loop-k-test.true c.loop-bits-test.true)

pub next_path-n-requires : goal.next_path-n-requires
next_path-n-requires c = begins_a_path _ _ _ _ _ c.requires c.loop-bits.invariant c.loop-k-test.true c.loop-bits-test.true

pub overflow_cast-lengths : goal.overflow_cast-lengths
overflow_cast-lengths c = record { fits = omega (arith, enough _ _ _ _ _ c.requires c.loop-bits.invariant c.loop-k-test.true c.loop-bits-test.true c.next_path-n.ensures) }

pub offset_bounds-lengths-paths : goal.offset_bounds-lengths-paths
offset_bounds-lengths-paths c = record { fits = omega (arith, paths_few _ _ _ _ _ c.requires c.loop-bits.invariant c.loop-k-test.true c.loop-bits-test.true) }

pub bounds-lengths-paths : goal.bounds-lengths-paths
bounds-lengths-paths c = lengths_for _ _ _ _ _ c.requires c.loop-bits.invariant c.loop-k-test.true c.loop-bits-test.true

pub overflow_add-paths : goal.overflow_add-paths
overflow_add-paths c = record { fits = omega (arith, paths_few _ _ _ _ _ c.requires c.loop-bits.invariant c.loop-k-test.true c.loop-bits-test.true) }

pub overflow_add-at : goal.overflow_add-at
overflow_add-at c = record { fits = omega (arith, enough _ _ _ _ _ c.requires c.loop-bits.invariant c.loop-k-test.true c.loop-bits-test.true c.next_path-n.ensures) }

pub loop-bits-smaller : goal.loop-bits-smaller
loop-bits-smaller c = fewer _ _ _ _ _ c.requires c.loop-bits.invariant c.loop-k-test.true c.loop-bits-test.true c.next_path-n.ensures

pub loop-bits-preserved : goal.loop-bits-preserved
loop-bits-preserved c = more _ _ _ _ _ c.requires c.loop-bits.invariant c.loop-k-test.true c.loop-bits-test.true c.next_path-n.ensures c.next_path-n.auto.moves c.next_path-n.auto.points

pub overflow_sub-result : goal.overflow_sub-result
overflow_sub-result c = omega (arith, no_more _ _ _ _ _ c.requires c.loop-k.invariant c.loop-k-test.false)

pub returns : goal.returns
returns c = (totals_are _ _ _ _ _ c.requires c.loop-k.invariant c.loop-k-test.false c.travel-travel.ensures, all_written _ _ _ _ _ c.requires c.loop-k.invariant c.loop-k-test.false)
