-- What is written so far are the fills of the segments passed.
use Rattle.std.proofs.Common.{refl, ap, ap₂, ◌∙◌, List, map, ℕ, set, arith}
use lib.Seq.{take_all}
use Rattle.lists.specs.Written.{written}
use Rattle.lists.proofs.Written.{written_map}
use Rattle.segm.specs.Segments.{Drawing, segments, segment_at, nowhere}
use Rattle.segm.proofs.Segments.{count_inside, count_past}
use Rattle.ray.specs.Ray.{fill, fills}
use Rattle.top_fills.proofs.write_fills.Goals as goal

pub loop-i-init : goal.loop-i-init
unfolding written
loop-i-init c = refl

pub fill_at-requires : goal.fill_at-requires
fill_at-requires c = (c.requires.0, c.requires.1, c.requires.2, count_inside c.args.s.now c.count-i-end.ensures c.loop-i-test.true)

pub bounds-out-i : goal.bounds-out-i
bounds-out-i c = omega (arith, count_inside c.args.s.now c.count-i-end.ensures c.loop-i-test.true, c.requires.3, c.loop-i.auto.out)

pub loop-i-preserved : goal.loop-i-preserved
unfolding segment_at
loop-i-preserved c =
    let i = c.loop-i.i in
    let d = segments c.args.s.now in
    ap₂ (λ (a : List ℕ) (x : ℕ). set a i x) c.loop-i.invariant c.fill_at.ensures
    ∙ written_map (fill c.args.rule d) d nowhere c.args.out.now i (count_inside c.args.s.now c.count-i-end.ensures c.loop-i-test.true) c.requires.3

pub returns : goal.returns
unfolding fills
returns c =
    let d = segments c.args.s.now in
    c.loop-i.invariant ∙ ap (λ (e : Drawing). written (map (fill c.args.rule d) e) c.args.out.now) (take_all c.loop-i.i d (count_past c.args.s.now c.count-i-end.ensures c.loop-i-test.false))
