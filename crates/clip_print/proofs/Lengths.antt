-- The lengths counted are those of the lines, and no answer is longer than its lists allow.
use mathlib.Core.Path.{◌≡◌, refl, ◌∙◌}
use mathlib.Core.List.{List, [], ◌∷◌}
use Prim.Native.Nat.{ℕ, zero, suc, ◌*◌, ◌≤◌}
use native.Mathlib.Omega.{arith}
use lib.ListN.{length, take, drop, length-append, length-take, length-drop}
use Rattle.lists.specs.Sums.{tally}
use Rattle.geom.specs.declared.Point.{Point}
use Rattle.contour.specs.Points.{pair_up, cut}
use Rattle.contour.proofs.Points.Coordinates.{length_pairs}
use Rattle.clip_paths.specs.declared.Totals.{Totals}
use Rattle.std.specs.Prelude.{Result, Ok, Err}
use Rattle.refusal.specs.declared.Refusal.{Refusal}
use Rattle.refusal.specs.Numbers.{number_of}
use Rattle.string_clip.specs.Run.{Outcome, output}
use Rattle.decimal.specs.Decimal.{decimal, signed}
use Rattle.writing.specs.Lengths.{line_length}
use Rattle.writing.proofs.Lengths.{length-decimal, length-signed, length-line, length_refused, at_most_20, at_most_21, refused_short}
use Rattle.clip_print.specs.Printed.{point_line, path_lines, paths_lines, total_word, total_line, lines_of, printed}
use Rattle.clip_print.specs.Lengths.{point_length, path_length, paths_length, total_length, lines_length, printed_length, longest}

-- ---- the lengths of the lines
length_point : (path point : ℕ) (p : Point) → length (point_line path point p) ≡ point_length path point p
unfolding point_line point_length
length_point path point p = length-line (decimal path ∷ decimal point ∷ signed p.x ∷ signed p.y ∷ []) ∙ rw (length-decimal path, length-decimal point, length-signed p.x, length-signed p.y)

length_path : (path point : ℕ) (l : List Point) → length (path_lines path point l) ≡ path_length path point l
unfolding path_lines path_length
length_path path point [] = refl
length_path path point (p ∷ l) = omega (arith, length-append (point_line path point p) (path_lines path (suc point) l), length_point path point p, length_path path (suc point) l)

length_paths : (path : ℕ) (paths : List (List Point)) → length (paths_lines path paths) ≡ paths_length path paths
unfolding paths_lines paths_length
length_paths path [] = refl
length_paths path (l ∷ paths) = omega (arith, length-append (path_lines path 0 l) (paths_lines (suc path) paths), length_path path 0 l, length_paths (suc path) paths)

length-total : (t : Totals) → length (total_line t) ≡ total_length t
unfolding total_line total_length
length-total t = length-line (total_word ∷ decimal t.paths ∷ decimal t.points ∷ decimal t.steps ∷ decimal t.travel ∷ []) ∙ rw (length-decimal t.paths, length-decimal t.points, length-decimal t.steps, length-decimal t.travel)

length_lines : (r : Result Totals Refusal) (paths : List (List Point)) → length (lines_of r paths) ≡ lines_length r paths
length_lines (Ok t) paths = omega (arith, length-append (paths_lines 0 paths) (total_line t), length_paths 0 paths, length-total t)
length_lines (Err r) paths = length_refused (number_of r.kind) r.place

pub length-printed : (o : Outcome) → length (printed o) ≡ printed_length o
unfolding printed printed_length
length-printed o = length_lines o.answer (output o)

-- ---- at most so long
-- twice 20 digits and twice 21 bytes, three commas and LF
point_short : (path point : ℕ) (p : Point) → point_length path point p ≤ 86
unfolding point_length line_length tally
point_short path point p = omega (arith, at_most_20 path, at_most_20 point, at_most_21 p.x, at_most_21 p.y)

path_short : (path point : ℕ) (l : List Point) → path_length path point l ≤ 86 * length l
unfolding path_length
path_short path point [] = omega arith
path_short path point (p ∷ l) = omega (arith, point_short path point p, path_short path (suc point) l)

paths_short : (path n : ℕ) (lengths : List ℕ) (points : List Point) → paths_length path (cut n lengths points) ≤ 86 * length points
unfolding paths_length cut
paths_short path zero lengths points = omega arith
paths_short path (suc n) [] points = omega arith
paths_short path (suc n) (k ∷ lengths) points =
    omega (arith, path_short path 0 (take k points), paths_short (suc path) n lengths (drop k points), length-take k points, length-drop k points)

total_short : (t : Totals) → total_length t ≤ 90
unfolding total_length line_length tally
total_short t = omega (arith, at_most_20 t.paths, at_most_20 t.points, at_most_20 t.steps, at_most_20 t.travel)

pub printed_short : (o : Outcome) → printed_length o ≤ longest (length o.lists.points)
unfolding printed_length output
printed_short o = by o.answer
  where
    by : (r : Result Totals Refusal) → lines_length r (output o) ≤ longest (length o.lists.points)
    by (Ok t) = omega (arith, paths_short 0 o.numbers.totals.paths o.lists.lengths (pair_up o.lists.points), length_pairs o.lists.points, total_short t)
    by (Err r) = omega (arith, refused_short (number_of r.kind) r.place)
