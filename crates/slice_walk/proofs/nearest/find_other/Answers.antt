-- The best end so far and the rest of the part decide.
use Rattle.std.proofs.Common.{◌*◌, ◌<◌, ◌∙◌, ap, sym, arith, length, inl, inr}
use Rattle.geom.specs.Points.{in_range}
use Rattle.segm.specs.Segments.{segments}
use Rattle.ends.proofs.Ends.{end_near}
use Rattle.moves.proofs.ByEnd.{part_is, end_below}
use Rattle.slice_walk.proofs.Ends.{far_near, passed, taken, sought}
use Rattle.slice_walk.proofs.nearest.find_other.Goals as goal
use Rattle.slice_walk.proofs.nearest.find_other.Goals.{then-e-f+then-remains, else-e-f, else-e-f-via-then-e-f+else-remains, else-e-f-via-else-e-f}

pub loop-end-init : goal.loop-end-init
loop-end-init c = record { below = tt; same = rw part_is }

pub remains-requires : goal.remains-requires
remains-requires c = end_below _ _ _ _ _ c.requires.2 c.loop-end-test.true

pub add-best-requires : goal.add-best-requires
add-best-requires c =
    let f : c.args.f < 2 * length (segments c.args.links.now) = omega arith in (
      c.requires.0,
      ap in_range c.end_point-c.ensures ∙ end_near _ c.requires.0 c.args.f f,
      ap in_range c.far_point-a.ensures ∙ far_near _ c.requires.0 c.args.f f,
      c.loop-end.invariant.below,
      omega (arith, end_below _ _ _ _ _ c.requires.2 c.loop-end-test.true),
    )

pub loop-end-preserved : goal.loop-end-preserved
loop-end-preserved c =
    elim c.if-e-f.branch [
      | then-e-f+then-remains w ↦ taken _ _ _ _ _ _ c.loop-end.invariant c.requires.1 c.loop-end-test.true (end_below _ _ _ _ _ c.requires.2 c.loop-end-test.true) w.if-e-f.true (sym w.remains.ensures ∙ w.if-remains.true) c.end_point-c.ensures c.far_point-a.ensures (w.best-is ∙ w.add-best.ensures)
      | else-e-f w ↦ elim w.else-e-f.branch [
        | else-e-f-via-then-e-f+else-remains w' ↦ passed _ _ _ _ _ _ c.loop-end.invariant c.requires.1 c.loop-end-test.true (inr (sym w'.remains.ensures ∙ w'.if-remains.false)) w.best-is
        | else-e-f-via-else-e-f w' ↦ passed _ _ _ _ _ _ c.loop-end.invariant c.requires.1 c.loop-end-test.true (inl w'.if-e-f.false) w.best-is
      ]
    ]

pub returns : goal.returns
returns c = sought _ _ _ _ _ _ c.loop-end.invariant c.loop-end-test.false
