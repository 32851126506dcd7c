-- The fronts of the lists are lent and come back.
use mathlib.Core.Path.{◌≡◌, sym, ap, subst, ◌∙◌}
use mathlib.Core.List.{List, ◌++◌}
use native.Mathlib.Omega.{arith}
use Prim.Native.Nat.{ℕ, ◌*◌, ◌≤◌}
use lib.ListN.{length, take, drop}
use lib.Seq.{length-take-le}
use Rattle.segm.specs.Segments.{Drawing, segments}
use Rattle.segm.proofs.Segments.{length-segments}
use Rattle.ends.proofs.Ends.{end_near}
use Rattle.ends.proofs.Parts.{prefix_back}
use Rattle.graph.specs.Nodes.{Nodes}
use Rattle.graph.proofs.write_nodes.Goals as goal
use Rattle.graph.proofs.write_nodes.Lts
use Rattle.graph.proofs.write_nodes.Reads
use Rattle.graph.proofs.write_nodes.Tie

abbrev After-count-e : Type 0
After-count-e = Lts.After-count Tie.the-claims Reads.Pre Reads.Post

abbrev Start : Type 0
Start = Lts.Start Tie.the-claims Reads.Pre Reads.Post

module _ (k : After-count-e) where
  abbrev s : Start
  s = k.before.before.before.before.before.before

  abbrev d : Drawing
  d = segments s.args.links.now

  abbrev n : ℕ
  n = k.count-e.result

  n-is : n ≡ length d
  n-is = k.count-e.ensures ∙ sym (length-segments s.args.links.now)

  -- a list that is long enough for the ends
  module _ (l : List ℕ) (room : 2 * length d ≤ length l) where
    front-room : 2 * n ≤ length l
    front-room = omega (arith, n-is, room)

    front_length : length (take (2 * n) l) ≡ 2 * length d
    front_length = length-take-le (2 * n) l front-room ∙ ap (2 *◌) n-is

    -- the front was lent, and `back` came in its place
    front-is : (back : List ℕ) → length back ≡ length (take (2 * n) l) → take (2 * length d) (back ++ drop (2 * n) l) ≡ back
    front-is back kept = ap (λ m. take (2 * m) (back ++ drop (2 * n) l)) (sym n-is) ∙ prefix_back (2 * n) l back front-room kept

pub overflow_mul-e : goal.overflow_mul-e
overflow_mul-e c = record { fits = omega (arith, n-is c.before, (s c.before).requires.0.few) }

pub slice_bounds-build_nodes-end : goal.slice_bounds-build_nodes-end
slice_bounds-build_nodes-end c = front-room c.before (s c.before).args.flat.now (s c.before).requires.1

pub slice_bounds-build_nodes-end-2 : goal.slice_bounds-build_nodes-end-2
slice_bounds-build_nodes-end-2 c = let k = c.before.before in sym (length-take-le _ _ (front-room k (s k).args.flat.now (s k).requires.1))

pub slice_bounds-build_nodes-end-3 : goal.slice_bounds-build_nodes-end-3
slice_bounds-build_nodes-end-3 c = let k = c.before.before.before in front-room k (s k).args.nodes.now (s k).requires.3

pub slice_bounds-build_nodes-end-4 : goal.slice_bounds-build_nodes-end-4
slice_bounds-build_nodes-end-4 c = let k = c.before.before.before.before in sym (length-take-le _ _ (front-room k (s k).args.nodes.now (s k).requires.3))

pub slice_bounds-build_nodes-end-5 : goal.slice_bounds-build_nodes-end-5
slice_bounds-build_nodes-end-5 c = let k = c.before.before.before.before in front-room k (s k).args.keys.now (s k).requires.4

pub slice_bounds-build_nodes-end-6 : goal.slice_bounds-build_nodes-end-6
slice_bounds-build_nodes-end-6 c = let k = c.before.before.before.before.before in sym (length-take-le _ _ (front-room k (s k).args.keys.now (s k).requires.4))

pub build_nodes-requires : goal.build_nodes-requires
build_nodes-requires c =
    let k = c.before.before.before.before.before in
    let h = (s k).requires in
    (h.0.rising, end_near (d k) h.0, h.0.few, front_length k (s k).args.flat.now h.1, h.2, front_length k (s k).args.nodes.now h.3, front_length k (s k).args.keys.now h.4, h.5)

pub returns : goal.returns
returns c =
    let b = c in
    let k = c.before.before.before.before.before.before.before.before.before.before.before.before.before.before.before.before.before in
    let built = b.build_nodes in
    subst (λ (nodes : List ℕ). Nodes (d k) (take (2 * length (d k)) (built.new.flat ++ drop (2 * n k) (s k).args.flat.now)) built.new.starts nodes) (sym (front-is k (s k).args.nodes.now (s k).requires.3 built.new.nodes built.auto.nodes))
    (subst (λ (flat : List ℕ). Nodes (d k) flat built.new.starts built.new.nodes) (sym (front-is k (s k).args.flat.now (s k).requires.1 built.new.flat built.auto.flat)) built.ensures)
