-- The nodes that are written have the ordered ends, and the numbers of their nodes.
use mathlib.Core.Path.{ap}
use native.Mathlib.Omega.{arith}
use Prim.Native.Nat.{◌*◌, ◌≤◌}
use lib.ListN.{length, take}
use lib.Seq.{length-take-le}
use lib.IntN.{nat_abs}
use Rattle.segm.specs.Segments.{Drawing, segments}
use Rattle.graph.specs.Nodes.{Nodes}
use Rattle.balance.proofs.Balance.{nodes_by_point}
use Rattle.drawing_check.specs.Memory.{OrderedIn, NumberedIn}
use Rattle.drawing_check.proofs.check_ends.Goals as goal
use Rattle.drawing_check.proofs.check_ends.Lts
use Rattle.drawing_check.proofs.check_ends.Reads
use Rattle.drawing_check.proofs.check_ends.Tie

abbrev After-write_nodes : Type 0
After-write_nodes = Lts.After-write_nodes Tie.the-claims Reads.Pre Reads.Post

abbrev Start : Type 0
Start = Lts.Start Tie.the-claims Reads.Pre Reads.Post

pub write_nodes-requires : goal.write_nodes-requires
write_nodes-requires c =
    let s = c in
    let few = s.requires.0.few in
    let room = s.requires.1 in
    let memory = s.requires.2 in
    (s.requires.0, room.flat_room, room.starts_room, room.nodes_room, memory.keys_room, memory.scratch_room)

-- the nodes were written
module _ (w : After-write_nodes) where
  abbrev s : Start
  s = w.before.before.before.before.before.before.before.before.before.before.before

  abbrev d : Drawing
  d = segments s.args.s.now

  few : length d ≤ 1024
  few = s.requires.0.few

  written : Nodes d (take (2 * length d) w.write_nodes.new.flat) w.write_nodes.new.starts (take (2 * length d) w.write_nodes.new.nodes)
  written = w.write_nodes.ensures

  ordered : OrderedIn d w.write_nodes.new.flat
  ordered = record { all_ends = omega (arith, s.requires.1.flat_room, w.write_nodes.auto.flat); order = written.order }

  each_end : 2 * length d ≤ length w.write_nodes.new.nodes
  each_end = omega (arith, s.requires.1.nodes_room, w.write_nodes.auto.nodes)

  numbers : NumberedIn d w.write_nodes.new.nodes
  numbers = record { each_end = each_end; numbered = nodes_by_point written (length-take-le _ _ each_end) }

pub find_by_ends-requires : goal.find_by_ends-requires
find_by_ends-requires c =
    let w = c in
    let p = (s w.before.before.before.before.before.before.before.before.before.before.before.before.before).requires in
    (p.0, ordered w.before.before.before.before.before.before.before.before.before.before.before.before.before, numbers w.before.before.before.before.before.before.before.before.before.before.before.before.before, p.2.sums_room, p.2.sums_blank, p.1.tops_room, λ i. omega (arith, ap nat_abs (p.1.blank i)))

pub returns : goal.returns
returns c =
    let f = c in
    let w = f in
    (f.find_by_ends.ensures.0, λ e. record { nodes_are = written w.before.before.before.before.before.before.before.before.before.before.before.before.before.before.before.before; counts_are = f.find_by_ends.ensures.1 e })
