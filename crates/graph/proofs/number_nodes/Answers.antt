-- The ends at the places passed have their nodes.
use mathlib.Core.Path.{◌≡◌, sym, subst, ◌∙◌}
use mathlib.Core.Bool.{◌||◌}
use native.Mathlib.Omega.{arith}
use Prim.Native.Nat.{◌+◌, ◌-◌, ◌<◌}
use lib.Dec.{eqb}
use lib.ListN.{length, get_or, set}
use Rattle.segm.specs.Segments.{segments}
use Rattle.lists.proofs.Members.{in_at}
use Rattle.ends.specs.Ends.{end_point, end_before}
use Rattle.graph.proofs.Merged.{starts_by_key}
use Rattle.graph.proofs.Numbering.{Agree, starting, opens, stays, numbers, finished, agreed}
use Rattle.graph.proofs.Flat.{ordered, nodes_of, starts, not_first, goes_on_lem}
use Rattle.graph.proofs.number_nodes.Goals as goal
use Rattle.graph.proofs.number_nodes.Goals.{then-starts_node, else-starts_node}

pub loop-i-init : goal.loop-i-init
loop-i-init c = starting (end_point (segments c.args.links.now)) c.args.flat.now c.args.starts.now c.args.nodes.now

pub overflow_cast-starts : goal.overflow_cast-starts
overflow_cast-starts c = omega (arith, c.requires.1, (ordered (segments c.args.links.now) c.requires.2).all)

pub bounds-starts-v : goal.bounds-starts-v
bounds-starts-v c = omega (arith, c.requires.4, (ordered (segments c.args.links.now) c.requires.2).all, c.loop-i.invariant.few)

pub overflow_cast-nodes : goal.overflow_cast-nodes
overflow_cast-nodes c =
    let many = (ordered (segments c.args.links.now) c.requires.2).all in
    elim c.if-starts_node.branch [ then-starts_node w ↦ omega (arith, c.requires.1, many, c.loop-i.invariant.few) | else-starts_node w ↦ omega (arith, c.requires.1, many, c.loop-i.invariant.few) ]

pub bounds-nodes-e : goal.bounds-nodes-e
bounds-nodes-e c =
    let flat = c.args.flat.now in
    let below = (ordered (segments c.args.links.now) c.requires.2).below (get_or flat c.loop-i.i 0) (in_at flat 0 c.loop-i.i c.loop-i-test.true) in
    omega (arith, below, c.requires.5)

pub loop-i-preserved : goal.loop-i-preserved
loop-i-preserved c =
    let links = segments c.args.links.now in
    let flat = c.args.flat.now in
    let l = c.loop-i in
    let inside = c.loop-i-test.true in
    let ends = ordered links c.requires.2 in
    let told : c.starts_node.result ≡ (eqb l.i 0 || end_before links (get_or flat (l.i - 1) 0) (get_or flat l.i 0)) = c.starts_node.ensures ∙ starts_by_key links c.requires.1 c.requires.0 c.requires.2 l.i inside c.requires.3 in
    let room : l.v < length l.starts = omega (arith, c.requires.4, ends.all, l.invariant.few) in
    let below = ends.below (get_or flat l.i 0) (in_at flat 0 l.i inside) in
    let end_room : get_or flat l.i 0 < length l.nodes = omega (arith, below, c.requires.5) in
    elim c.if-starts_node.branch [
      | then-starts_node w ↦
          simp (w.starts-is, w.v-is)
          (numbers (end_point links) flat ends.distinct l.i (l.v + 1) (set l.starts l.v l.i) l.nodes inside end_room
          (opens (end_point links) flat ends.rise l.i l.v l.starts l.nodes l.invariant inside room (starts links flat l.i (sym told ∙ w.if-starts_node.true))) (omega (arith, l.invariant.few)))
      | else-starts_node w ↦
          let r = sym told ∙ w.if-starts_node.false in
          simp (w.starts-is, w.v-is)
          (numbers (end_point links) flat ends.distinct l.i l.v l.starts l.nodes inside end_room
          (stays (end_point links) flat ends.rise l.i l.v l.starts l.nodes l.invariant inside (not_first links flat l.i r) (goes_on_lem links flat l.i r)) (omega (arith, l.invariant.few)))
    ]

pub overflow_cast-starts-2 : goal.overflow_cast-starts-2
overflow_cast-starts-2 c = omega (arith, c.requires.1, (ordered (segments c.args.links.now) c.requires.2).all)

pub bounds-starts-v-2 : goal.bounds-starts-v-2
bounds-starts-v-2 c = omega (arith, c.requires.4, (ordered (segments c.args.links.now) c.requires.2).all, c.loop-i.invariant.few)

pub returns : goal.returns
returns c =
    let links = segments c.args.links.now in
    let flat = c.args.flat.now in
    let l = c.loop-i in
    let ends = ordered links c.requires.2 in
    let e : l.i ≡ length flat = omega arith in
    let room : l.v < length l.starts = omega (arith, c.requires.4, ends.all, l.invariant.few) in
    nodes_of links c.requires.2 (set l.starts l.v (length flat)) l.nodes (omega (arith, c.requires.5))
    (finished (end_point links) flat ends.rise l.i l.v l.starts l.nodes l.invariant e room)
    (subst (λ k. Agree (end_point links) flat k l.nodes) e (agreed (end_point links) flat l.i l.v l.starts l.nodes l.invariant))
