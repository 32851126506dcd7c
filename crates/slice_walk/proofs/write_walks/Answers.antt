-- Walks written and walks to come are all walks.
use Rattle.std.proofs.Common.{arith}
use Rattle.slice_walk.proofs.Writing.Written.{none_yet, whole, at_few, points_for, lengths_for, dirs-for, number_few, begins_a_walk, stuck, fewer, enough, more}
use Rattle.slice_walk.proofs.write_walks.Goals as goal

pub loop-k-init : goal.loop-k-init
loop-k-init c = none_yet _ _ _ _ _

pub bounds-directions-walks : goal.bounds-directions-walks
bounds-directions-walks c = dirs-for _ _ _ _ _ c.requires c.loop-bits.invariant c.loop-k-test.true c.loop-bits-test.true

pub overflow_mul-at : goal.overflow_mul-at
overflow_mul-at c = record { fits = omega (arith, at_few _ _ _ _ _ c.requires c.loop-bits.invariant) }

pub offset_bounds-points-at : goal.offset_bounds-points-at
offset_bounds-points-at c = record { fits = omega (arith, at_few _ _ _ _ _ c.requires c.loop-bits.invariant) }

pub slice_bounds-write_walk-count : goal.slice_bounds-write_walk-count
slice_bounds-write_walk-count c = omega (arith, points_for _ _ _ _ _ c.requires c.loop-bits.invariant)

pub slice_bounds-write_walk-start : goal.slice_bounds-write_walk-start
slice_bounds-write_walk-start c = omega (arith, points_for _ _ _ _ _ c.requires c.loop-bits.invariant)

pub write_walk-requires : goal.write_walk-requires
write_walk-requires c = begins_a_walk _ _ _ _ _ c.requires c.loop-bits.invariant c.loop-k-test.true c.loop-bits-test.true

pub returns-in_err-n : goal.returns-in_err-n
returns-in_err-n c = stuck _ _ _ _ _ c.requires c.loop-bits.invariant c.loop-k-test.true c.loop-bits-test.true _ _ c.in_err-n.ensures _ _ _ _ c.from_residual.ensures

pub overflow_cast-lengths : goal.overflow_cast-lengths
overflow_cast-lengths c = record { fits = omega (arith, enough _ _ _ _ _ c.requires c.loop-bits.invariant c.loop-k-test.true c.loop-bits-test.true _ _ _ c.in_ok-n.ensures) }

pub offset_bounds-lengths-walks : goal.offset_bounds-lengths-walks
offset_bounds-lengths-walks c = record { fits = omega (arith, number_few _ _ _ _ _ c.requires c.loop-bits.invariant c.loop-k-test.true c.loop-bits-test.true) }

pub bounds-lengths-walks : goal.bounds-lengths-walks
bounds-lengths-walks c = lengths_for _ _ _ _ _ c.requires c.loop-bits.invariant c.loop-k-test.true c.loop-bits-test.true

pub overflow_add-walks : goal.overflow_add-walks
overflow_add-walks c = record { fits = omega (arith, number_few _ _ _ _ _ c.requires c.loop-bits.invariant c.loop-k-test.true c.loop-bits-test.true) }

pub overflow_add-at : goal.overflow_add-at
overflow_add-at c = record { fits = omega (arith, enough _ _ _ _ _ c.requires c.loop-bits.invariant c.loop-k-test.true c.loop-bits-test.true _ _ _ c.in_ok-n.ensures) }

pub loop-bits-smaller : goal.loop-bits-smaller
loop-bits-smaller c = fewer _ _ _ _ _ c.requires c.loop-bits.invariant c.loop-k-test.true c.loop-bits-test.true _ _ _ c.in_ok-n.ensures

pub loop-bits-preserved : goal.loop-bits-preserved
loop-bits-preserved c = more _ _ _ _ _ c.requires c.loop-bits.invariant c.loop-k-test.true c.loop-bits-test.true _ _ _ c.in_ok-n.ensures c.write_walk.auto.points

pub returns : goal.returns
returns c = whole _ _ _ _ _ c.requires c.loop-k.invariant c.loop-k-test.false
