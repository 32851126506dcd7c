-- What was left and what is to be left are the path's moves.
use Rattle.std.proofs.Common.{arith}
use Rattle.clip_walk.proofs.Following.{begin, inside, number_few, fewer, more, number_is, moves_are, bits_are}
use Rattle.clip_walk.proofs.follow.Goals as goal

pub loop-next-init : goal.loop-next-init
loop-next-init c = begin _ _ _ _ _ c.requires.0

pub offset_bounds-moves-n : goal.offset_bounds-moves-n
offset_bounds-moves-n c = record { fits = omega (arith, number_few _ _ _ _ _ c.requires.1 c.requires.2 c.loop-next.invariant c.in-Some.is) }

pub bounds-moves-n : goal.bounds-moves-n
bounds-moves-n c = inside _ _ _ _ _ c.requires.1 c.requires.2 c.loop-next.invariant c.in-Some.is

pub overflow_add-n : goal.overflow_add-n
overflow_add-n c = record { fits = omega (arith, number_few _ _ _ _ _ c.requires.1 c.requires.2 c.loop-next.invariant c.in-Some.is) }

pub loop-next-smaller : goal.loop-next-smaller
loop-next-smaller c = fewer _ _ _ _ _ c.requires.1 c.requires.2 c.loop-next.invariant c.in-Some.is c.go_on-next.ensures.0 c.go_on-next.ensures.1

pub loop-next-preserved : goal.loop-next-preserved
loop-next-preserved c = more _ _ _ _ _ c.requires.1 c.requires.2 c.loop-next.invariant c.in-Some.is c.go_on-next.ensures.0 c.go_on-next.ensures.1

pub returns : goal.returns
returns c = (number_is _ _ _ _ _ c.loop-next.invariant c.in_default.is, moves_are _ _ _ _ _ c.loop-next.invariant c.in_default.is, bits_are _ _ _ _ _ c.loop-next.invariant c.in_default.is)
