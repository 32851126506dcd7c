-- The front of the working memory that the links need is lent, and has their side bits when the walks are made.
use Rattle.std.proofs.Common.{◌≡◌, sym, ap, subst, ◌∙◌, List, map, ℕ, ◌%◌, ◌≤◌, length, take, arith}
use lib.Seq.{length-take-le}
use Rattle.lists.specs.Written.{written}
use Rattle.lists.proofs.Written.{written_whole}
use Rattle.segm.specs.Segments.{Drawing, segments}
use Rattle.segm.proofs.Segments.{length-segments}
use Rattle.fill_rule.specs.declared.Rule.{Rule}
use Rattle.ray.specs.Ray.{fills}
use Rattle.ray.proofs.Fills.{length-fills}
use Rattle.slice_walk.specs.Walk.{walks}
use Rattle.slice_walk.specs.Writing.{WalksAre}
use Rattle.string_slice.specs.Contours.{side_bits}
use Rattle.string_slice.proofs.SliceContours.{length_sides}
use Rattle.string_slice.proofs.walks.walk_links.Goals as goal

-- what comes back of the first m of bits, which are lent for the fills of m segments
sides_are : (rule : Rule) (d : Drawing) (m : ℕ) (bits : List ℕ) {out sides : List ℕ} → m ≡ length d → m ≤ length bits → out ≡ written (fills rule d) (take m bits)
    → sides ≡ map (λ f. f % 4) out → sides ≡ side_bits rule d
unfolding side_bits
sides_are rule d m bits m-is room e k =
    k ∙ ap (map (λ f. f % 4)) (e ∙ written_whole (fills rule d) (take m bits) (omega (arith, m-is, length-fills rule d, length-take-le m bits room)))

pub slice_bounds-bits-end : goal.slice_bounds-bits-end
slice_bounds-bits-end c = omega (arith, length-segments c.args.s.now, c.requires.4)

pub slice_bounds-bits-end-2 : goal.slice_bounds-bits-end-2
slice_bounds-bits-end-2 c = sym (length-take-le _ _ (omega (arith, length-segments c.args.s.now, c.requires.4)))

pub write_fills-requires : goal.write_fills-requires
write_fills-requires c =
    let m = c.count-m.result in
    let m-is : m ≡ length (segments c.args.s.now) = c.count-m.ensures ∙ sym (length-segments c.args.s.now) in
    let p = c.requires in
    (p.0, p.2, p.3, omega (arith, m-is, length-take-le m c.args.bits.now (omega (arith, m-is, p.4))))

pub write_walks-requires : goal.write_walks-requires
write_walks-requires c =
    let m = c.count-m.result in
    let d = segments c.args.s.now in
    let p = c.requires in
    let m-is : m ≡ length d = c.count-m.ensures ∙ sym (length-segments c.args.s.now) in
    let sides = sides_are c.args.rule d m c.args.bits.now m-is (omega (arith, m-is, p.4)) c.write_fills.ensures c.keep_sides.ensures in
    let k : length c.keep_sides.new.fills ≡ length d = ap length sides ∙ length_sides c.args.rule d in (
      record {
        faultless = p.0.faultless;
        nodes_are = p.1;
        as_many = k;
      },
      omega (arith, k, p.5.points_room),
      omega (arith, k, p.5.lengths_room),
      omega (arith, k, p.5.directions_room),
    )

pub returns : goal.returns
returns c =
    let m = c.count-m.result in
    let d = segments c.args.s.now in
    let m-is : m ≡ length d = c.count-m.ensures ∙ sym (length-segments c.args.s.now) in
    let sides = sides_are c.args.rule d m c.args.bits.now m-is (omega (arith, m-is, c.requires.4)) c.write_fills.ensures c.keep_sides.ensures in
    subst (λ (bits : List ℕ). WalksAre d (walks d bits) c.args.points.now c.args.lengths.now c.args.directions.now c.write_walks.result c.write_walks.new.points c.write_walks.new.lengths c.write_walks.new.directions)
    sides c.write_walks.ensures
