-- Worked cases of the fills, by computing, beside document 01's case A (`trials`): each rule, and each clause of the ray.
use mathlib.Core.Path.{◌≡◌, refl}
use mathlib.Core.List.{List, [], ◌∷◌, ◌++◌, map}
use mathlib.Core.Bool.{true, false}
use Prim.Native.Nat.{ℕ}
use lib.IntN.{ℤ, pos, negsuc}
use Rattle.geom.specs.Points.{eq_z, within, lt_p, eq_p, coordinate, in_range, cross, between}
use Rattle.lists.specs.Members.{any}
use Rattle.lists.specs.Sums.{sum}
use Rattle.lists.specs.Written.{written}
use Rattle.segm.specs.Segments.{front, segments_of, count, whole, segments, segment_at, total}
use Rattle.meetings.specs.Meetings.{side, parts, in_interior, same_ends, meets_wrongly}
use Rattle.balance.specs.Balance.{balance, balances}
use Rattle.faults.specs.Faults.{ends_in_range, rises, winding_in_range, bits_in_range, lot_in_range, fault, fault_at, faults_of}
use Rattle.drawing_check.specs.Drawing.{meeting_at, unbalanced_at, meetings_of, unbalanced_of, drawing_verdict}
use Rattle.refusal.specs.Asked.{wrong_length, unknown_choice, too_short, asked_first}
use Rattle.refusal.specs.Order.{refusal, first_from, first}
use Rattle.checks.specs.Runs.{asked, verdict, fills_run}
use Rattle.segm.specs.CaseA.{segment, A}
use Rattle.fill_rule.specs.declared.Rule.TheVariants.{EvenOdd}
use Rattle.std.specs.Prelude.{Err}
use Rattle.refusal.specs.declared.Kind.TheVariants.{UnknownChoice, TooShort}
use Rattle.fill_rule.specs.FillRule.{filled, rule_of, fill_of}
use Rattle.strip.specs.Strip.{spans, above, clockwise}
use Rattle.ray.specs.Ray.{met, bottom, top, fill, fills}
use Rattle.build.specs.Fills.{outcome, fills_outcome}

-- the bottom counts of all segments
abbrev bottoms : List ℤ → List ℤ
bottoms numbers = map (bottom (segments numbers)) (segments numbers)

-- a square run counter-clockwise twice, in it a hole run clockwise three times, and beside it a small square run once
abbrev three : List ℤ
three =
    segment (pos 0) (pos 0) (pos 0) (pos 9) (negsuc 1) (pos 0)
    ++ segment (pos 0) (pos 0) (pos 9) (pos 0) (pos 2) (pos 0)
    ++ segment (pos 0) (pos 9) (pos 9) (pos 9) (negsuc 1) (pos 0)
    ++ segment (pos 3) (pos 3) (pos 3) (pos 6) (pos 3) (pos 0)
    ++ segment (pos 3) (pos 3) (pos 6) (pos 3) (negsuc 2) (pos 2)
    ++ segment (pos 3) (pos 6) (pos 6) (pos 6) (pos 3) (pos 0)
    ++ segment (pos 6) (pos 3) (pos 6) (pos 6) (negsuc 2) (pos 0)
    ++ segment (pos 9) (pos 0) (pos 9) (pos 9) (pos 2) (pos 0)
    ++ segment (pos 11) (pos 0) (pos 11) (pos 2) (negsuc 0) (pos 0)
    ++ segment (pos 11) (pos 0) (pos 13) (pos 0) (pos 1) (pos 0)
    ++ segment (pos 11) (pos 2) (pos 13) (pos 2) (negsuc 0) (pos 3)
    ++ segment (pos 13) (pos 0) (pos 13) (pos 2) (pos 1) (pos 0)

-- a lent list that held something
abbrev noise : List ℕ
noise = 21 ∷ 22 ∷ 23 ∷ 24 ∷ 25 ∷ 26 ∷ 27 ∷ 28 ∷ 29 ∷ 30 ∷ 31 ∷ []

pub record Cases : Type 0 where
  -- refused: nothing is written
  pub unknown_rule : fills_outcome A (pos 4) noise ≡ outcome (Err (refusal UnknownChoice 0)) noise
  pub one_short : fills_outcome A (pos 1) (1 ∷ 2 ∷ 3 ∷ 4 ∷ 5 ∷ 6 ∷ 7 ∷ 8 ∷ []) ≡ outcome (Err (refusal TooShort 0)) (1 ∷ 2 ∷ 3 ∷ 4 ∷ 5 ∷ 6 ∷ 7 ∷ 8 ∷ [])
  -- counts 2 in the square, -1 in its hole, 1 in the small one: no two rules fill the same
  pub three_counts : bottoms three ≡ pos 2 ∷ pos 0 ∷ pos 2 ∷ negsuc 0 ∷ pos 2 ∷ negsuc 0 ∷ pos 2 ∷ pos 0 ∷ pos 1 ∷ pos 0 ∷ pos 1 ∷ pos 0 ∷ []
  pub by_even_odd : fills (rule_of (pos 0)) (segments three) ≡ 0 ∷ 0 ∷ 0 ∷ 2 ∷ 9 ∷ 2 ∷ 1 ∷ 0 ∷ 2 ∷ 1 ∷ 14 ∷ 1 ∷ []
  pub by_nonzero : fills (rule_of (pos 1)) (segments three) ≡ 2 ∷ 1 ∷ 2 ∷ 3 ∷ 11 ∷ 3 ∷ 3 ∷ 1 ∷ 2 ∷ 1 ∷ 14 ∷ 1 ∷ []
  pub by_positive : fills (rule_of (pos 2)) (segments three) ≡ 2 ∷ 1 ∷ 2 ∷ 1 ∷ 10 ∷ 1 ∷ 2 ∷ 1 ∷ 2 ∷ 1 ∷ 14 ∷ 1 ∷ []
  pub by_negative : fills (rule_of (pos 3)) (segments three) ≡ 0 ∷ 0 ∷ 0 ∷ 2 ∷ 9 ∷ 2 ∷ 1 ∷ 0 ∷ 0 ∷ 0 ∷ 12 ∷ 0 ∷ []
  -- a segment is counted up to its b.x, which itself is left out
  pub reaches : bottoms (segment (pos 0) (pos 0) (pos 3) (pos 0) (pos 1) (pos 0) ++ segment (pos 2) (pos 1) (pos 4) (pos 1) (pos 0) (pos 0)) ≡ pos 0 ∷ pos 1 ∷ []
  pub ends_there : bottoms (segment (pos 0) (pos 0) (pos 2) (pos 0) (pos 1) (pos 0) ++ segment (pos 2) (pos 1) (pos 4) (pos 1) (pos 0) (pos 0)) ≡ pos 0 ∷ pos 0 ∷ []
  -- a vertical one is not counted
  pub vertical : bottoms (segment (pos 0) (pos 0) (pos 0) (pos 5) (pos 1) (pos 0) ++ segment (pos 0) (pos 6) (pos 1) (pos 6) (pos 0) (pos 0)) ≡ pos 0 ∷ pos 0 ∷ []
  -- of two with one start the clockwise one is under the other, in either order
  pub one_start : bottoms (segment (pos 0) (pos 0) (pos 2) (negsuc 0) (pos 1) (pos 0) ++ segment (pos 0) (pos 0) (pos 2) (pos 1) (pos 1) (pos 0)) ≡ pos 0 ∷ pos 1 ∷ []
  pub other_order : bottoms (segment (pos 0) (pos 0) (pos 2) (pos 1) (pos 1) (pos 0) ++ segment (pos 0) (pos 0) (pos 2) (negsuc 0) (pos 1) (pos 0)) ≡ pos 1 ∷ pos 0 ∷ []
  -- the start itself is on the other's line, which then is not under it
  pub on_the_line : bottoms (segment (pos 0) (pos 0) (pos 2) (pos 0) (pos 1) (pos 0) ++ segment (pos 1) (pos 0) (pos 1) (pos 1) (pos 0) (pos 0)) ≡ pos 0 ∷ pos 0 ∷ []
  -- -1 is odd, and -2 is not
  pub odd_below : filled EvenOdd (negsuc 0) ≡ true
  pub even_below : filled EvenOdd (negsuc 1) ≡ false

pub cases : Cases
unfolding eq_z within lt_p eq_p coordinate in_range cross between any sum written front segments_of count whole segments segment_at total side parts in_interior same_ends meets_wrongly ends_in_range rises winding_in_range bits_in_range lot_in_range fault fault_at meeting_at balance balances unbalanced_at wrong_length unknown_choice too_short first_from first asked asked_first drawing_verdict faults_of meetings_of unbalanced_of verdict fills_run spans above clockwise met bottom top filled rule_of fill_of fill fills fills_outcome
cases = record {
  unknown_rule = refl;
  one_short = refl;
  three_counts = refl;
  by_even_odd = refl;
  by_nonzero = refl;
  by_positive = refl;
  by_negative = refl;
  reaches = refl;
  ends_there = refl;
  vertical = refl;
  one_start = refl;
  other_order = refl;
  on_the_line = refl;
  odd_below = refl;
  even_below = refl;
}
