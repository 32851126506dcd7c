-- The lines of the paths, then the total.
use mathlib.Core.Path.{◌≡◌, ap}
use mathlib.Core.List.{List, ◌++◌}
use lib.IntN.{ℤ}
use Rattle.clip_paths.specs.declared.Totals.{Totals}
use Prim.Native.Nat.{ℕ, ◌+◌, ◌≤◌}
use native.Mathlib.Omega.{arith}
use lib.ListN.{length, take, length-append}
use borrow.Author.Rules.{rules}
use Rattle.writing.specs.Puts.{Put}
use Rattle.contour.specs.Points.{pair_up, cut}
use Rattle.clip_print.specs.Printed.{paths_lines, total_line}
use Rattle.writing.proofs.Puts.{then, as_well}
use Rattle.clip_print.proofs.Printed.{cut-first}
use Rattle.clip_print.proofs.put_run.Goals as goal

module _ (n : ℕ) (lengths : List ℕ) (points : List ℤ) where
  -- the lines of the paths, as they are put
  abbrev lines : List ℕ
  lines = paths_lines 0 (cut (length (take n lengths)) (take n lengths) (pair_up points))

  first : lines ≡ paths_lines 0 (cut n lengths (pair_up points))
  first = ap (paths_lines 0) (cut-first n lengths (pair_up points))

  room : (t : Totals) (most : ℕ) → length (paths_lines 0 (cut n lengths (pair_up points)) ++ total_line t) ≤ most → length lines + length (total_line t) ≤ most
  room t most h = omega (arith, ap length first, length-append (paths_lines 0 (cut n lengths (pair_up points))) (total_line t))

pub put_paths-requires-clause-room : goal.put_paths-requires-clause-room
put_paths-requires-clause-room c = omega (arith, room c.args.t.paths c.args.lengths.now c.args.points.now c.args.t _ c.requires.points_in_bounds, ap length c.new-lines.ensures.list, c.new-lines.ensures.front)

pub put_total-requires : goal.put_total-requires
put_total-requires c = omega (arith, room c.args.t.paths c.args.lengths.now c.args.points.now c.args.t _ c.requires.points_in_bounds, ap length c.new-lines.ensures.list, c.new-lines.ensures.front, c.put_paths.ensures.put.place, c.put_paths.ensures.room)

pub returns : goal.returns
returns c =
    let t = c.args.t in
    let paths = as_well c.put_paths.ensures (first t.paths c.args.lengths.now c.args.points.now) in
    let all : Put c.args.out.now 0 (paths_lines 0 (cut t.paths c.args.lengths.now (pair_up c.args.points.now)) ++ total_line t) c.put_total.new.lines.at c.put_total.new.lines.out.now = rw (c.new-lines.ensures.list, c.new-lines.ensures.front) at (then paths c.put_total.ensures).put in
    record { list = search (rules, all.list); place = all.place }
