-- The ordered ends stand at the front of their list.
use mathlib.Core.Path.{◌≡◌, sym, ap, ◌∙◌}
use mathlib.Core.List.{List}
use native.Mathlib.Omega.{arith}
use Prim.Native.Nat.{ℕ, ◌*◌, ◌≤◌}
use lib.ListN.{length}
use lib.Seq.{length-take-le}
use lib.IntN.{nat_abs}
use Rattle.segm.specs.Segments.{Drawing, segments}
use Rattle.segm.proofs.Segments.{length-segments}
use Rattle.graph.proofs.Fronts.{front_nodes, ends_room}
use Rattle.drawing_check.proofs.Memory.{fresh}
use Rattle.measure.proofs.is_swept.Goals as goal

pub overflow_mul-e : goal.overflow_mul-e
overflow_mul-e c =
    let d : Drawing =
    segments c.args.s.now in
    let n : ℕ =
    c.count-e.result in
    let n-is : n ≡ length d =
    c.count-e.ensures ∙ sym (length-segments c.args.s.now) in
    record { fits = omega (arith, n-is, c.requires.faultless.few) }

pub slice_bounds-flat-end : goal.slice_bounds-flat-end
slice_bounds-flat-end c =
    let d : Drawing =
    segments c.args.s.now in
    let n : ℕ =
    c.count-e.result in
    let flat : List ℕ =
    c.write_nodes.new.flat in
    let n-is : n ≡ length d =
    c.count-e.ensures ∙ sym (length-segments c.args.s.now) in
    let room : 2 * n ≤ length flat =
    ends_room d flat c.write_nodes.new.starts c.write_nodes.new.nodes c.write_nodes.ensures n n-is in
    room

pub slice_bounds-is_clear-end : goal.slice_bounds-is_clear-end
slice_bounds-is_clear-end c =
    let d : Drawing =
    segments c.args.s.now in
    let n : ℕ =
    c.count-e.result in
    let flat : List ℕ =
    c.write_nodes.new.flat in
    let n-is : n ≡ length d =
    c.count-e.ensures ∙ sym (length-segments c.args.s.now) in
    let room : 2 * n ≤ length flat =
    ends_room d flat c.write_nodes.new.starts c.write_nodes.new.nodes c.write_nodes.ensures n n-is in
    sym (length-take-le _ _ room)

pub is_clear-requires : goal.is_clear-requires
is_clear-requires c =
    let d : Drawing =
    segments c.args.s.now in
    let n : ℕ =
    c.count-e.result in
    let flat : List ℕ =
    c.write_nodes.new.flat in
    let n-is : n ≡ length d =
    c.count-e.ensures ∙ sym (length-segments c.args.s.now) in (
      c.requires.faultless,
      (front_nodes d flat c.write_nodes.new.starts c.write_nodes.new.nodes c.write_nodes.ensures n n-is).order,
      c.requires.faultless.few,
      λ i. omega (arith, ap nat_abs (fresh 1024 i)),
    )
