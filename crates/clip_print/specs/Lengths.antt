-- How many bytes are printed of a clip run, by counting.
use Rattle.std.specs.Prelude.{List, [], ◌∷◌, ℕ, suc, ◌+◌, ◌*◌, Result, Ok, Err}
use Rattle.geom.specs.declared.Point.{Point}
use Rattle.refusal.specs.declared.Refusal.{Refusal}
use Rattle.refusal.specs.Numbers.{number_of}
use Rattle.clip_paths.specs.declared.Totals.{Totals}
use Rattle.string_clip.specs.Run.{Outcome, output}
use Rattle.writing.specs.Lengths.{digits_in, signed_length, line_length, refused_length}

-- path, point, x, y
unfoldable pub point_length : (path point : ℕ) → Point → ℕ
point_length path point p = line_length (digits_in path ∷ digits_in point ∷ signed_length p.x ∷ signed_length p.y ∷ [])

-- the points of a path, from this point on
unfoldable pub path_length : (path point : ℕ) → List Point → ℕ
path_length path point [] = 0
path_length path point (p ∷ l) = point_length path point p + path_length path (suc point) l

-- the paths, from this path on
unfoldable pub paths_length : (path : ℕ) → List (List Point) → ℕ
paths_length path [] = 0
paths_length path (l ∷ paths) = path_length path 0 l + paths_length (suc path) paths

-- the word `total`, then paths, points, steps, travel
unfoldable pub total_length : Totals → ℕ
total_length t = line_length (5 ∷ digits_in t.paths ∷ digits_in t.points ∷ digits_in t.steps ∷ digits_in t.travel ∷ [])

-- all lines of an answer
abbrev pub lines_length : Result Totals Refusal → List (List Point) → ℕ
lines_length (Ok t) paths = paths_length 0 paths + total_length t
lines_length (Err r) paths = refused_length (number_of r.kind) r.place

-- what is printed of a run
unfoldable pub printed_length : Outcome → ℕ
printed_length o = lines_length o.answer (output o)

-- no answer over a list of n coordinates is longer: 86 bytes for each point, 90 for the last line
abbrev pub longest : ℕ → ℕ
longest n = 43 * n + 90
