-- Where there is one before the place and one at it, the tests decide.
use native.Mathlib.Omega.{arith}
use Prim.Native.Nat.{◌-◌}
use Rattle.scan.proofs.Scan.{proper_entry}
use Rattle.verticals.proofs.is_in_gap.Goals as goal
use Rattle.verticals.proofs.is_in_gap.Goals.{then-k-gt0+else-not-lies_under, else-k-gt0}

pub lies_under-requires : goal.lies_under-requires
lies_under-requires c = (proper_entry c.requires.0 c.args.list.now c.requires.2 (c.args.k - 1) (omega (arith, c.requires.3, c.if-k-gt0.true)), c.requires.1.near_a)

pub lies_above-requires : goal.lies_above-requires
lies_above-requires c = (proper_entry c.requires.0 c.args.list.now c.requires.2 c.args.k c.if-k-list.true, c.requires.1.near_b)
