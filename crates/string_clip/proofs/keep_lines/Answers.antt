-- The kept line bits are written to the front of the list.
use mathlib.Core.Path.{◌≡◌, sym, ap, ◌∙◌}
use mathlib.Core.List.{List, ◌++◌}
use native.Mathlib.Omega.{arith}
use Prim.Native.Nat.{ℕ, ◌≤◌}
use lib.ListN.{length, take, drop}
use lib.Seq.{length-take-le}
use mir.Facts.{to_z-of_z}
use Rattle.segm.specs.Segments.{Drawing, segments}
use Rattle.segm.proofs.Segments.{length-segments}
use Rattle.ends.proofs.Parts.{prefix_back}
use Rattle.fill_rule.specs.FillRule.{rule_of}
use Rattle.build.specs.Links.{filter_of, masked_bits}
use Rattle.string_clip.proofs.keep_lines.Goals as goal

pub slice_bounds-masked_bits-end : goal.slice_bounds-masked_bits-end
slice_bounds-masked_bits-end c =
    let d : Drawing =
    segments c.args.s.now in
    let m : ℕ =
    c.count-m.result in
    let m-is : m ≡ length d =
    c.count-m.ensures ∙ sym (length-segments c.args.s.now) in
    let room : m ≤ length c.args.bits.now =
    omega (arith, m-is, c.requires.3) in
    room

pub slice_bounds-masked_bits-end-2 : goal.slice_bounds-masked_bits-end-2
slice_bounds-masked_bits-end-2 c =
    let d : Drawing =
    segments c.args.s.now in
    let m : ℕ =
    c.count-m.result in
    let m-is : m ≡ length d =
    c.count-m.ensures ∙ sym (length-segments c.args.s.now) in
    let room : m ≤ length c.args.bits.now =
    omega (arith, m-is, c.requires.3) in
    sym (length-take-le _ _ room)

pub masked_bits-requires : goal.masked_bits-requires
masked_bits-requires c =
    let d : Drawing =
    segments c.args.s.now in
    let m : ℕ =
    c.count-m.result in
    let m-is : m ≡ length d =
    c.count-m.ensures ∙ sym (length-segments c.args.s.now) in
    let room : m ≤ length c.args.bits.now =
    omega (arith, m-is, c.requires.3) in
    let p = c.requires in
    (p.0, p.1, p.2, length-take-le _ _ room ∙ m-is)

pub returns : goal.returns
returns c =
    let d : Drawing =
    segments c.args.s.now in
    let m : ℕ =
    c.count-m.result in
    let m-is : m ≡ length d =
    c.count-m.ensures ∙ sym (length-segments c.args.s.now) in
    let room : m ≤ length c.args.bits.now =
    omega (arith, m-is, c.requires.3) in
    let written : List ℕ = c.masked_bits.new.bits in
    ap (λ n. take n (written ++ drop m c.args.bits.now)) (sym m-is)
    ∙ prefix_back m c.args.bits.now written room c.masked_bits.auto.bits
    ∙ c.masked_bits.ensures
    ∙ ap (λ q. masked_bits q c.filter_of-filter.result d) (c.rule_of-by.ensures ∙ ap rule_of (to_z-of_z c.ranges.rule))
    ∙ ap (λ q. masked_bits (rule_of c.args.rule) q d) (c.filter_of-filter.ensures ∙ (λ i. filter_of (to_z-of_z c.ranges.invert i) (to_z-of_z c.ranges.boundary i)))
