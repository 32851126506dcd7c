-- The keys of all ends are written and ordered, and their ends numbered.
use mathlib.Core.Path.{◌≡◌, refl, sym, ap, ◌∙◌}
use mathlib.Core.List.{List, map}
use native.Mathlib.Omega.{arith}
use Prim.Native.Nat.{ℕ, ◌*◌, ◌%◌}
use lib.ListN.{length, length-map}
use Rattle.lists.specs.UpFrom.{up_from}
use Rattle.segm.specs.Segments.{Drawing, segments}
use Rattle.segm.proofs.Segments.{length-segments}
use Rattle.lists.proofs.UpFrom.{length_up_from}
use Rattle.ends.specs.Ends.{end_before}
use Rattle.ends.specs.Ordering.{ordering}
use Rattle.keys.specs.Keys.{key_of}
use Rattle.graph.proofs.Merged.{length_rest, relent, length_relent, merged, ends_back}
use Rattle.graph.proofs.build_nodes.Goals as goal
use Rattle.graph.proofs.build_nodes.Lts
use Rattle.graph.proofs.build_nodes.Reads
use Rattle.graph.proofs.build_nodes.Tie

abbrev After-write_keys : Type 0
After-write_keys = Lts.After-write_keys Tie.the-claims Reads.Pre Reads.Post

abbrev Start : Type 0
Start = Lts.Start Tie.the-claims Reads.Pre Reads.Post

abbrev After-order_keys : Type 0
After-order_keys = Lts.After-order_keys Tie.the-claims Reads.Pre Reads.Post

-- the keys written
module _ (c : After-write_keys) where
  abbrev s : Start
  s = c.before.before.before.before.before.before.before.before

  abbrev links : Drawing
  links = segments s.args.links.now

  abbrev m : ℕ
  m = c.count-m.result

  abbrev keys : List ℕ
  keys = c.write_keys.new.keys

  links-m : m ≡ length links
  links-m = c.count-m.ensures ∙ sym (length-segments s.args.links.now)

  counted : keys ≡ map (key_of links) (up_from 0 (2 * length links))
  counted = c.write_keys.ensures

  twice : length keys ≡ 2 * length links
  twice = ap length counted ∙ length-map (up_from 0 (2 * length links)) (key_of links) ∙ length_up_from 0 (2 * length links)

pub offset_bounds-keys-m : goal.offset_bounds-keys-m
offset_bounds-keys-m c = let u = c.before.before.before in omega (arith, links-m u, (s u).requires.2)

pub slice_bounds-order_keys-count : goal.slice_bounds-order_keys-count
slice_bounds-order_keys-count c = let u = c.before.before.before in omega (arith, links-m u, twice u)

pub slice_bounds-order_keys-start : goal.slice_bounds-order_keys-start
slice_bounds-order_keys-start c = let u = c.before.before.before in omega (arith, links-m u, twice u)

pub order_keys-requires : goal.order_keys-requires
order_keys-requires c = let u = c.before.before.before.before.before in omega (arith, links-m u, length_rest (links u) (s u).requires.2 (s u).requires.1 (m u) (links-m u) (keys u) (counted u), (s u).requires.7)

-- the rest come back
module _ (o : After-order_keys) where
  abbrev u : After-write_keys
  u = o.before.before.before.before.before

  length_all : length (relent (links u) (s u).requires.2 (s u).requires.1 (m u) (links-m u) (keys u) (counted u) o.order_keys.new.keys) ≡ 2 * length (links u)
  length_all = length_relent (links u) (s u).requires.2 (s u).requires.1 (m u) (links-m u) (keys u) (counted u) o.order_keys.new.keys o.order_keys.auto.keys

pub merge_halves-requires : goal.merge_halves-requires
merge_halves-requires c =
    let o = c.before.before.before.before.before.before.before in
    (omega (arith, links-m (u o), length_all o), omega (arith, links-m (u o), o.order_keys.auto.scratch, (s (u o)).requires.7))

pub number_nodes-requires : goal.number_nodes-requires
number_nodes-requires c =
    let w = c in
    let g = c in
    let o = c.before.before.before.before.before.before.before.before.before.before.before.before.before.before.before.before.before.before in
    let d = links (u o) in
    let p = (s (u o)).requires in
    let all : g.merge_halves.new.keys ≡ map (key_of d) (ordering (end_before d) (up_from 0 (2 * length d))) =
    merged d p.2 p.1 (m (u o)) (links-m (u o)) (keys (u o)) (counted (u o)) o.order_keys.new.keys p.0 o.order_keys.ensures g.merge_halves.ensures in
    let flat : w.write_ends.new.ends ≡ ordering (end_before d) (up_from 0 (2 * length d)) = w.write_ends.ensures ∙ ap (map (λ k. k % 2048)) all ∙ ends_back d p.2 p.1 refl in
    (p.1, p.2, flat, all ∙ sym (ap (map (key_of d)) flat), p.4, p.5)
