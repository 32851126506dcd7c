-- The lines of the points passed are put.
use Prim.Native.Nat.{◌*◌}
use lib.ListN.{drop}
use Rattle.contour.specs.Points.{pair_up}
use Rattle.clip_print.specs.Printed.{path_lines}
use Rattle.writing.proofs.Puts.{Left}
use Rattle.clip_print.proofs.put_path.Given as goal

abbrev pub invariant-loop-i : goal.invariant-loop-i
invariant-loop-i l = Left (path_lines l.path 0 (pair_up l.points)) l.initial.lines (path_lines l.path l.i (pair_up (drop (2 * l.i) l.points))) l.lines
