-- The lines of the points passed are put.
use native.Mathlib.Omega.{arith}
use borrow.Author.Rules.{rules}
use Prim.Native.Nat.{◌+◌, ◌*◌}
use lib.ListN.{get_or, drop}
use lib.IntN.{pos}
use mir.Syntax.{w32}
use mir.Val.{SFits}
use mir.Facts.{to_z-of_z}
use Rattle.contour.specs.Points.{pair_up}
use Rattle.clip_print.specs.Printed.{path_lines}
use Rattle.clip_print.proofs.Printed.{path_more, path_none}
use Rattle.writing.proofs.Puts.{left_less, left_none, left_fits}
use Rattle.clip_print.proofs.put_path.Goals as goal

pub put_point-requires : goal.put_point-requires
put_point-requires c =
    let i = c.loop-i.i in
    let points = c.args.points.now in
    let x : SFits w32 (get_or points (2 * i) (pos 0)) = search rules in
    let y : SFits w32 (get_or points (2 * i + 1) (pos 0)) = search rules in
    left_fits c.loop-i.invariant _ (path_lines c.args.path (i + 1) (pair_up (drop (2 * (i + 1)) points))) (path_more c.args.path i points (to_z-of_z x) (to_z-of_z y) (omega arith)) c.requires

pub loop-i-preserved : goal.loop-i-preserved
loop-i-preserved c =
    let i = c.loop-i.i in
    let points = c.args.points.now in
    let x : SFits w32 (get_or points (2 * i) (pos 0)) = search rules in
    let y : SFits w32 (get_or points (2 * i + 1) (pos 0)) = search rules in
    left_less c.loop-i.invariant (path_more c.args.path i points (to_z-of_z x) (to_z-of_z y) (omega arith)) c.put_point.ensures

pub returns : goal.returns
returns c = left_none c.loop-i.invariant (path_none c.args.path c.loop-i.i c.args.points.now (omega (arith, c.loop-i-test.false)))
