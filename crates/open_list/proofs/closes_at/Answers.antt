-- At either end of the list nothing is asked; between, the test of neighbours.
use native.Mathlib.Omega.{arith}
use Prim.Native.Nat.{◌-◌, ◌+◌}
use Rattle.scan.proofs.Scan.{proper_entry}
use Rattle.open_list.proofs.closes_at.Goals as goal

pub is_lower_neighbour-requires : goal.is_lower_neighbour-requires
is_lower_neighbour-requires c =
    (proper_entry c.requires.0 c.args.list.now c.requires.1 (c.args.k - 1) (omega arith), proper_entry c.requires.0 c.args.list.now c.requires.1 (c.args.k + 1) (omega arith))
