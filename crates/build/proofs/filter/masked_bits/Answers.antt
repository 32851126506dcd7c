-- What is written so far are the line bits of the segments passed, each by its own fill.
use mathlib.Core.Path.{refl, sym, ap, ap₂, ◌∙◌}
use mathlib.Core.List.{List, map, map-map}
use mathlib.Core.Bool.{cond}
use native.Mathlib.Omega.{arith}
use Prim.Native.Nat.{ℕ, ◌/◌}
use lib.ListN.{set, length-map}
use lib.Seq.{take_all}
use lib.IntN.{nat_abs}
use Rattle.segm.specs.declared.Segment.{Segment}
use Rattle.lists.specs.Written.{written}
use Rattle.segm.specs.Segments.{Drawing, segments, segment_at, nowhere}
use Rattle.lists.proofs.Written.{written_map, written_whole}
use Rattle.build.specs.Links.{keeps, masked}
use Rattle.build.proofs.Links.{kept_lines}
use Rattle.build.proofs.filter.masked_bits.Invariants.{mask, lines}
use Rattle.build.proofs.filter.masked_bits.Goals as goal

pub loop-i-init : goal.loop-i-init
unfolding written
loop-i-init c = refl

pub fill_at-requires : goal.fill_at-requires
fill_at-requires c = (c.requires.0, c.requires.1, c.requires.2, omega (arith, c.loop-i.auto.bits, c.requires.3))

pub loop-i-preserved : goal.loop-i-preserved
unfolding segment_at
loop-i-preserved c =
    let a = c.args in
    let i = c.loop-i.i in
    let d = segments a.s.now in
    let byte = c.kept_bits.ensures ∙ ap (λ n. cond (keeps a.filter n) (n / 4) 0) c.fill_at.ensures ∙ kept_lines a.rule a.filter d (segment_at d i) in
    ap₂ (λ (b : List ℕ) x. set b i x) c.loop-i.invariant byte
    ∙ written_map (lines a.rule a.filter d) d nowhere a.bits.now i (omega (arith, c.loop-i.auto.bits, c.requires.3)) (omega (arith, c.requires.3))

pub returns : goal.returns
unfolding masked
returns c =
    let a = c.args in
    let d = segments a.s.now in
    let one = mask a.rule a.filter d in
    let all = lines a.rule a.filter d in
    c.loop-i.invariant
    ∙ ap (λ (e : Drawing). written (map all e) a.bits.now) (take_all c.loop-i.i d (omega (arith, c.loop-i.auto.bits, c.requires.3)))
    ∙ written_whole (map all d) a.bits.now (omega (arith, c.requires.3, length-map d all))
    ∙ sym (map-map (λ (t : Segment). nat_abs t.bits) one d)
