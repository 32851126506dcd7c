-- The points passed are written.
use Rattle.std.proofs.Common.{arith, ◌+◌}
use Rattle.segm.specs.Segments.{segments}
use Rattle.clip_paths.specs.Writing.{ends_points}
use Rattle.clip_paths.proofs.Writing.Points.{length_points, Passed, none_passed, pass, all_passed}
use Rattle.clip_paths.proofs.path.write_path.Goals as goal

pub loop-q-init : goal.loop-q-init
loop-q-init c = none_passed _ _

pub loop-q-preserved : goal.loop-q-preserved
loop-q-preserved c =
    let number = length_points (segments c.args.links.now) c.args.out c.args.moves.now c.requires.1 in
    pass _ _ c.loop-q.invariant c.path_point.ensures c.put_point.ensures (omega (arith, number, c.loop-q-test.true)) (omega (arith, number, c.requires.2))

pub returns-2 : goal.returns-2
returns-2 c =
    let number = length_points (segments c.args.links.now) c.args.out c.args.moves.now c.requires.1 in
    let last : Passed (ends_points (segments c.args.links.now) c.args.out c.args.moves.now) c.args.points.now c.put_point.new.points (c.loop-q.q + 1) =
    pass _ _ c.loop-q.invariant c.path_point.ensures c.put_point.ensures (omega (arith, number, c.loop-q-test.true)) (omega (arith, number, c.requires.2)) in
    all_passed _ _ last (omega (arith, number))
