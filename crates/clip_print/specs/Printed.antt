-- What is printed of a clip run, as bytes.
use Rattle.std.specs.Prelude.{List, [], ◌∷◌, ◌++◌, ℕ, suc, ◌*◌, ◌≤◌, length, take, ℤ, Result, Ok, Err}
use Rattle.lists.specs.Sums.{tally}
use Rattle.geom.specs.declared.Point.{Point}
use Rattle.refusal.specs.declared.Refusal.{Refusal}
use Rattle.refusal.specs.Numbers.{number_of}
use Rattle.clip_paths.specs.declared.Totals.{Totals}
use Rattle.string_clip.specs.Run.{Outcome, output}
use Rattle.decimal.specs.Decimal.{decimal, signed}
use Rattle.writing.specs.Lines.{line_of, refused_line}

-- path, point, x, y
unfoldable pub point_line : (path point : ℕ) → Point → List ℕ
point_line path point p = line_of (decimal path ∷ decimal point ∷ signed p.x ∷ signed p.y ∷ [])

-- the points of a path, from this point on
unfoldable pub path_lines : (path point : ℕ) → List Point → List ℕ
path_lines path point [] = []
path_lines path point (p ∷ l) = point_line path point p ++ path_lines path (suc point) l

-- the paths, from this path on
unfoldable pub paths_lines : (path : ℕ) → List (List Point) → List ℕ
paths_lines path [] = []
paths_lines path (l ∷ paths) = path_lines path 0 l ++ paths_lines (suc path) paths

-- the word `total`
abbrev pub total_word : List ℕ
total_word = 116 ∷ 111 ∷ 116 ∷ 97 ∷ 108 ∷ []

-- last the total: paths, points, steps, travel
unfoldable pub total_line : Totals → List ℕ
total_line t = line_of (total_word ∷ decimal t.paths ∷ decimal t.points ∷ decimal t.steps ∷ decimal t.travel ∷ [])

-- all lines of an answer: the points, then the total; or the refusal
abbrev pub lines_of : Result Totals Refusal → List (List Point) → List ℕ
lines_of (Ok t) paths = paths_lines 0 paths ++ total_line t
lines_of (Err r) paths = refused_line (number_of r.kind) r.place

-- a run's output as read from its lists, then its four numbers; or its refusal
unfoldable pub printed : Outcome → List ℕ
printed o = lines_of o.answer (output o)

-- ---- on the way
-- the lengths of so many paths stand in one list, their points in the other
pub record Held (paths : ℕ) (points : List ℤ) (lengths : List ℕ) : Type 0 where
  pub few_paths : paths ≤ length lengths
  pub few_points : 2 * tally (λ n. n) (take paths lengths) ≤ length points
