-- Nodes at the front of longer lists.
use mathlib.Core.Path.{◌≡◌, sym, subst}
use mathlib.Core.List.{List}
use Prim.Native.Nat.{ℕ, ◌*◌, ◌≤◌}
use native.Mathlib.Omega.{arith}
use lib.ListN.{length, take, length-take}
use Rattle.segm.specs.Segments.{Drawing}
use Rattle.graph.specs.Nodes.{Nodes, NodesIn}

module _ (d : Drawing) (flat starts nodes : List ℕ) (are : NodesIn d flat starts nodes) (m : ℕ) (m-is : m ≡ length d) where
  pub front_nodes : Nodes d (take (2 * m) flat) starts (take (2 * m) nodes)
  front_nodes = subst (λ (n : ℕ). Nodes d (take (2 * n) flat) starts (take (2 * n) nodes)) (sym m-is) are

  pub ends_room : 2 * m ≤ length flat
  ends_room = omega (arith, m-is, front_nodes.all_ends, length-take (2 * m) flat)

  pub numbers_room : 2 * m ≤ length nodes
  numbers_room = omega (arith, m-is, front_nodes.each_end, length-take (2 * m) nodes)
