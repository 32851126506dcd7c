-- The links are walked by the line bits at the front of working memory.
use mathlib.Core.Path.{◌≡◌, sym, ap, subst, ◌∙◌}
use mathlib.Core.List.{List}
use native.Mathlib.Omega.{arith}
use Prim.Native.Nat.{ℕ, ◌*◌, ◌≤◌}
use lib.ListN.{length, take}
use lib.Seq.{length-take-le}
use Rattle.geom.specs.declared.Point.{Point}
use Rattle.segm.specs.Segments.{Drawing, segments}
use Rattle.segm.proofs.Segments.{length-segments}
use Rattle.graph.specs.Nodes.{Nodes}
use Rattle.graph.proofs.Fronts.{front_nodes, ends_room, numbers_room}
use Rattle.contour.specs.Points.{Writes}
use Rattle.clip_paths.specs.Paths.{totals}
use Rattle.clip_paths.specs.Writing.{bits_paths}
use Rattle.string_clip.proofs.clip_kept.Goals as goal

pub overflow_mul-e : goal.overflow_mul-e
overflow_mul-e c =
    let d : Drawing =
    segments c.args.s.now in
    let m : ℕ =
    c.count-m.result in
    let m-is : m ≡ length d =
    c.count-m.ensures ∙ sym (length-segments c.args.s.now) in
    record { fits = omega (arith, m-is, c.requires.0.faultless.few) }

pub slice_bounds-g-end : goal.slice_bounds-g-end
slice_bounds-g-end c =
    let d : Drawing =
    segments c.args.s.now in
    let m : ℕ =
    c.count-m.result in
    let m-is : m ≡ length d =
    c.count-m.ensures ∙ sym (length-segments c.args.s.now) in
    let flat_room : 2 * m ≤ length c.args.flat.now =
    ends_room d c.args.flat.now c.args.starts.now c.args.nodes.now c.requires.1 m m-is in
    sym (length-take-le _ _ flat_room)

pub slice_bounds-g-end-2 : goal.slice_bounds-g-end-2
slice_bounds-g-end-2 c =
    let d : Drawing =
    segments c.args.s.now in
    let m : ℕ =
    c.count-m.result in
    let m-is : m ≡ length d =
    c.count-m.ensures ∙ sym (length-segments c.args.s.now) in
    let nodes_room : 2 * m ≤ length c.args.nodes.now =
    numbers_room d c.args.flat.now c.args.starts.now c.args.nodes.now c.requires.1 m m-is in
    sym (length-take-le _ _ nodes_room)

pub slice_bounds-clip_links-end : goal.slice_bounds-clip_links-end
slice_bounds-clip_links-end c =
    let d : Drawing =
    segments c.args.s.now in
    let m : ℕ =
    c.count-m.result in
    let m-is : m ≡ length d =
    c.count-m.ensures ∙ sym (length-segments c.args.s.now) in
    let bits_room : m ≤ length c.args.bits.now =
    omega (arith, m-is, c.requires.2) in
    bits_room

pub slice_bounds-clip_links-end-2 : goal.slice_bounds-clip_links-end-2
slice_bounds-clip_links-end-2 c =
    let d : Drawing =
    segments c.args.s.now in
    let m : ℕ =
    c.count-m.result in
    let m-is : m ≡ length d =
    c.count-m.ensures ∙ sym (length-segments c.args.s.now) in
    let bits_room : m ≤ length c.args.bits.now =
    omega (arith, m-is, c.requires.2) in
    let bits : List ℕ =
    take m c.args.bits.now in
    let bits-number : length bits ≡ m =
    length-take-le _ _ bits_room in
    sym bits-number

pub clip_links-requires : goal.clip_links-requires
clip_links-requires c =
    let d : Drawing =
    segments c.args.s.now in
    let m : ℕ =
    c.count-m.result in
    let m-is : m ≡ length d =
    c.count-m.ensures ∙ sym (length-segments c.args.s.now) in
    let nodes_are : Nodes d (take (2 * m) c.args.flat.now) c.args.starts.now (take (2 * m) c.args.nodes.now) =
    front_nodes d c.args.flat.now c.args.starts.now c.args.nodes.now c.requires.1 m m-is in
    let bits_room : m ≤ length c.args.bits.now =
    omega (arith, m-is, c.requires.2) in
    let bits : List ℕ =
    take m c.args.bits.now in
    let bits-number : length bits ≡ m =
    length-take-le _ _ bits_room in
    let p = c.requires in (
      record { good = p.0; nodes_are = nodes_are; as_many = bits-number ∙ m-is },
      omega (arith, bits-number, m-is, p.3),
      omega (arith, bits-number, m-is, p.4.points_fit),
      omega (arith, bits-number, m-is, p.4.lengths_fit),
    )

pub returns : goal.returns
returns c =
    let d : Drawing =
    segments c.args.s.now in
    let m : ℕ =
    c.count-m.result in
    let m-is : m ≡ length d =
    c.count-m.ensures ∙ sym (length-segments c.args.s.now) in
    let bits : List ℕ =
    take m c.args.bits.now in
    let bits_are : bits ≡ take (length d) c.args.bits.now =
    ap (λ n. take n c.args.bits.now) m-is in
    let a = c.args in
    let paths = ap (bits_paths d) bits_are in (
      c.clip_links.ensures.0 ∙ ap totals paths,
      subst (λ (p : List (List Point)). Writes p a.points.now a.lengths.now c.clip_links.new.points c.clip_links.new.lengths) paths c.clip_links.ensures.1,
    )
