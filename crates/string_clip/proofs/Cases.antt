-- Worked cases of the clip runs, by computing: document 01's trial drawings, whatever the lent lists hold.
use mathlib.Core.Path.{◌≡◌, refl}
use mathlib.Core.List.{List, [], ◌∷◌, ◌++◌, map, flatten}
use mathlib.Core.Bool.{true}
use Prim.Native.Nat.{ℕ}
use lib.ListN.{drop}
use lib.IntN.{ℤ, pos, negsuc}
use Rattle.geom.specs.Points.{eq_z, within, lt_p, eq_p, coordinate, in_range, cross, between, travel}
use Rattle.lists.specs.Members.{any, keep}
use Rattle.lists.specs.Sums.{sum, tally}
use Rattle.lists.specs.Written.{written}
use Rattle.lists.specs.UpFrom.{up_from}
use Rattle.segm.specs.CaseA.{segment, A}
use Rattle.segm.specs.Segments.{front, segments_of, count, whole, segments, segment_at, total}
use Rattle.meetings.specs.Meetings.{side, parts, in_interior, same_ends, meets_wrongly}
use Rattle.refusal.specs.Order.{accepted}
use Rattle.balance.specs.Balance.{balance, balances}
use Rattle.faults.specs.Faults.{ends_in_range, rises, winding_in_range, bits_in_range, lot_in_range, fault, fault_at, faults_of}
use Rattle.drawing_check.specs.Drawing.{meeting_at, unbalanced_at, meetings_of, unbalanced_of, drawing_verdict}
use Rattle.refusal.specs.Asked.{wrong_length, unknown_choice, too_short, asked_first}
use Rattle.refusal.specs.Order.{first_from, first}
use Rattle.checks.specs.Runs.{asked, verdict, clip_run}
use Rattle.checks.specs.Accepted.{accepts}
use Rattle.fill_rule.specs.FillRule.{filled, rule_of, fill_of}
use Rattle.strip.specs.Strip.{spans, above, clockwise}
use Rattle.ray.specs.Ray.{met, bottom, top, fill}
use Rattle.build.specs.Links.{sides_set, keeps_sides, keeps, filter_of, kept_links}
use Rattle.graph.specs.Nodes.{node}
use Rattle.clip_paths.specs.declared.Totals.{Totals}
use Rattle.refusal.specs.declared.Refusal.{Refusal}
use Rattle.std.specs.Prelude.{Result, Ok, Err}
use Rattle.refusal.specs.Order.{refusal}
use Rattle.refusal.specs.declared.Kind.TheVariants.{UnknownChoice, TooShort}
use Rattle.moves.specs.Bits.{has, clear}
use Rattle.moves.specs.Steps.{as_drawn, way, other, fitting}
use Rattle.moves.specs.Moves.{remains, taken, taken_all, bits_remaining, over}
use Rattle.moves.specs.Begins.{first_remaining, both_moves, begins}
use Rattle.clip_walk.specs.Walk.{goes_on, follow, path_from, paths_from, walk}
use Rattle.clip_paths.specs.Paths.{through, finished, path_points, clip_paths, steps_from, steps_of_path, steps_of, travel_of, totals}
use Rattle.contour.specs.Points.{coordinates}
use Rattle.string_clip.specs.Run.{lists, Outcome, outcome, answered, clip_outcome}

-- under nonzero, with no check
abbrev clip : (invert boundary : ℤ) → List ℤ → List ℤ → List ℕ → Outcome
clip invert boundary numbers points lengths = answered accepted (clip_paths (rule_of (pos 1)) (filter_of invert boundary) (segments numbers)) (lists points lengths)

-- inside, and outside, boundary included
abbrev clip_inside : List ℤ → List ℤ → List ℕ → Outcome
clip_inside = clip (pos 0) (pos 1)

abbrev clip_outside : List ℤ → List ℤ → List ℕ → Outcome
clip_outside = clip (pos 1) (pos 1)

-- a run, and what comes of it, over these lists
abbrev run : List ℤ → (rule invert boundary : ℤ) → List ℤ → List ℕ → Outcome
run numbers rule invert boundary points lengths = clip_outcome numbers rule invert boundary (lists points lengths)

abbrev out : Result Totals Refusal → List ℤ → List ℕ → Outcome
out answer points lengths = outcome answer (lists points lengths)

abbrev found : ℕ → ℕ → ℕ → ℕ → Result Totals Refusal
found paths points steps travel = Ok (record { paths = paths; points = points; steps = steps; travel = travel })

abbrev there_and_back : List ℤ
there_and_back = segment (pos 0) (pos 0) (pos 1) (pos 0) (pos 0) (pos 3)

-- a square with a line on its bottom edge
abbrev pub edged : List ℤ
edged =
    segment (pos 0) (pos 0) (pos 0) (pos 2) (negsuc 0) (pos 0)
    ++ segment (pos 0) (pos 0) (pos 2) (pos 0) (pos 1) (pos 1)
    ++ segment (pos 0) (pos 2) (pos 2) (pos 2) (negsuc 0) (pos 0)
    ++ segment (pos 2) (pos 0) (pos 2) (pos 2) (pos 1) (pos 0)

pub record Cases : Type 0 where
  -- A: the line part in the square, and the two parts outside
  pub inside-A : (xs : List ℤ) (ns : List ℕ) → clip_inside A xs ns ≡ out (found 1 2 1 10) (pos 0 ∷ pos 5 ∷ pos 10 ∷ pos 5 ∷ drop 4 xs) (2 ∷ drop 1 ns)
  pub outside-A : (xs : List ℤ) (ns : List ℕ) → clip_outside A xs ns
      ≡ out (found 2 4 2 10) (negsuc 4 ∷ pos 5 ∷ pos 0 ∷ pos 5 ∷ pos 10 ∷ pos 5 ∷ pos 15 ∷ pos 5 ∷ drop 8 xs) (2 ∷ 2 ∷ drop 2 ns)
  -- both bits of one segment: there and back
  pub there_and_back_lem : (xs : List ℤ) (ns : List ℕ) → clip_outside there_and_back xs ns ≡ out (found 1 3 2 2) (pos 0 ∷ pos 0 ∷ pos 1 ∷ pos 0 ∷ pos 0 ∷ pos 0 ∷ drop 6 xs) (3 ∷ drop 1 ns)
  -- bit 2 only: one path backward, reversed when finished
  pub in_line : (xs : List ℤ) (ns : List ℕ) → clip_outside (segment (pos 0) (pos 0) (pos 1) (pos 0) (pos 0) (pos 2) ++ segment (pos 1) (pos 0) (pos 2) (pos 0) (pos 0) (pos 2)) xs ns
      ≡ out (found 1 3 2 2) (pos 2 ∷ pos 0 ∷ pos 1 ∷ pos 0 ∷ pos 0 ∷ pos 0 ∷ drop 6 xs) (3 ∷ drop 1 ns)
  -- paths are not extended at their first point
  pub forked : (xs : List ℤ) (ns : List ℕ) → clip_outside (segment (pos 0) (pos 0) (pos 2) (negsuc 0) (pos 0) (pos 1) ++ segment (pos 0) (pos 0) (pos 2) (pos 1) (pos 0) (pos 2)) xs ns
      ≡ out (found 2 4 2 6) (pos 0 ∷ pos 0 ∷ pos 2 ∷ negsuc 0 ∷ pos 2 ∷ pos 1 ∷ pos 0 ∷ pos 0 ∷ drop 8 xs) (2 ∷ 2 ∷ drop 2 ns)
  -- bit 1 before bit 2, and at (1,0) the link that starts there before the one that ends there
  pub ordered : (xs : List ℤ) (ns : List ℕ) → clip_outside (segment (pos 0) (pos 0) (pos 1) (pos 0) (pos 0) (pos 3) ++ segment (pos 1) (pos 0) (pos 2) (pos 0) (pos 0) (pos 1)) xs ns
      ≡ out (found 2 5 3 3) (pos 0 ∷ pos 0 ∷ pos 1 ∷ pos 0 ∷ pos 2 ∷ pos 0 ∷ pos 1 ∷ pos 0 ∷ pos 0 ∷ pos 0 ∷ drop 10 xs) (3 ∷ 2 ∷ drop 2 ns)
  pub empty : (invert boundary : ℤ) (xs : List ℤ) (ns : List ℕ) → clip invert boundary [] xs ns ≡ out (found 0 0 0 0) xs ns
  -- a line on the outline: inside if the boundary is included, otherwise outside
  pub edge_inside : (xs : List ℤ) (ns : List ℕ) → clip (pos 0) (pos 1) edged xs ns ≡ out (found 1 2 1 2) (pos 0 ∷ pos 0 ∷ pos 2 ∷ pos 0 ∷ drop 4 xs) (2 ∷ drop 1 ns)
  pub edge_not_inside : (xs : List ℤ) (ns : List ℕ) → clip (pos 0) (pos 0) edged xs ns ≡ out (found 0 0 0 0) xs ns
  pub edge_not_outside : (xs : List ℤ) (ns : List ℕ) → clip (pos 1) (pos 1) edged xs ns ≡ out (found 0 0 0 0) xs ns
  pub edge_outside : (xs : List ℤ) (ns : List ℕ) → clip (pos 1) (pos 0) edged xs ns ≡ out (found 1 2 1 2) (pos 0 ∷ pos 0 ∷ pos 2 ∷ pos 0 ∷ drop 4 xs) (2 ∷ drop 1 ns)
  -- whole runs: lists exactly long enough, one too short, an unknown choice
  pub done : run there_and_back (pos 1) (pos 1) (pos 1) (map pos (up_from 1 8)) (9 ∷ 9 ∷ [])
      ≡ out (found 1 3 2 2) (pos 0 ∷ pos 0 ∷ pos 1 ∷ pos 0 ∷ pos 0 ∷ pos 0 ∷ pos 7 ∷ pos 8 ∷ []) (3 ∷ 9 ∷ [])
  pub short : run there_and_back (pos 1) (pos 1) (pos 1) (map pos (up_from 1 8)) (9 ∷ []) ≡ out (Err (refusal TooShort 0)) (map pos (up_from 1 8)) (9 ∷ [])
  pub unknown : run there_and_back (pos 1) (pos 2) (pos 1) (map pos (up_from 1 8)) (9 ∷ 9 ∷ []) ≡ out (Err (refusal UnknownChoice 0)) (map pos (up_from 1 8)) (9 ∷ 9 ∷ [])
  -- the claim is of something
  pub accepted-A : accepts A (pos 1) (pos 0) (pos 1) ≡ true

pub cases : Cases
unfolding accepts clip_run verdict asked asked_first drawing_verdict faults_of meetings_of unbalanced_of wrong_length unknown_choice too_short first first_from fault_at meeting_at unbalanced_at fault ends_in_range rises winding_in_range bits_in_range lot_in_range balance balances meets_wrongly parts in_interior same_ends side total any sum tally keep written up_from front segments_of count whole segments segment_at eq_z within lt_p eq_p coordinate in_range cross between spans above clockwise met bottom top filled rule_of fill_of fill sides_set keeps_sides keeps filter_of kept_links node has clear as_drawn remains taken taken_all bits_remaining first_remaining both_moves begins way over other fitting goes_on follow path_from paths_from walk through finished path_points clip_paths steps_from steps_of_path steps_of travel_of travel totals coordinates flatten clip_outcome
cases = record {
  inside-A = λ xs ns. refl;
  outside-A = λ xs ns. refl;
  there_and_back_lem = λ xs ns. refl;
  in_line = λ xs ns. refl;
  forked = λ xs ns. refl;
  ordered = λ xs ns. refl;
  empty = λ invert boundary xs ns. refl;
  edge_inside = λ xs ns. refl;
  edge_not_inside = λ xs ns. refl;
  edge_not_outside = λ xs ns. refl;
  edge_outside = λ xs ns. refl;
  done = refl;
  short = refl;
  unknown = refl;
  accepted-A = refl;
}
