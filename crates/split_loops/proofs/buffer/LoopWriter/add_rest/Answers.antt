-- By the test of its length.
use mathlib.Core.Path.{sym, subst}
use mathlib.Core.List.{List}
use native.Mathlib.Omega.{arith}
use Rattle.geom.specs.declared.Point.{Point}
use Rattle.lists.specs.Members.{keep}
use Rattle.contour.specs.Points.{pair_up}
use Rattle.contour.specs.Area.{is_large}
use Rattle.contour.proofs.Points.Coordinates.{length_pairs}
use Rattle.split_loops.specs.Splitting.{Added}
use Rattle.split_loops.proofs.Splitting.{added_none}
use Rattle.split_loops.proofs.OnePoint.{no_rest, one-rest}
use Rattle.split_loops.proofs.buffer.LoopWriter.add_rest.Goals as goal

pub returns-then-buffer-gt4 : goal.returns-then-buffer-gt4
returns-then-buffer-gt4 c =
    let a = c.args in
    subst (λ (l : List (List Point)). Added (keep (is_large a.min_area) l) a.self.now c.add.new.self)
    (sym (one-rest (pair_up a.buffer.now) (omega (arith, length_pairs a.buffer.now, c.requires.0.whole, c.if-buffer-gt4.true)))) c.add.ensures

pub returns-else-buffer-gt4 : goal.returns-else-buffer-gt4
unfolding keep
returns-else-buffer-gt4 c =
    let a = c.args in
    subst (λ (l : List (List Point)). Added (keep (is_large a.min_area) l) a.self.now a.self.now)
    (sym (no_rest (pair_up a.buffer.now) (omega (arith, length_pairs a.buffer.now, c.if-buffer-gt4.false)))) (added_none a.self.now)
