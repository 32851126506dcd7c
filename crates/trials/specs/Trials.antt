-- Document 01's trial drawings, those marked P: one joint proposition about whole runs, choices and refusals included. What lent lists hold past an answer
-- stays.
use Rattle.std.specs.Prelude.{◌≡◌, List, [], ◌∷◌, ◌++◌, map, ℕ, ◌*◌, drop, ℤ, pos, negsuc, Ok}
use Rattle.lists.specs.UpFrom.{up_from}
use Rattle.refusal.specs.declared.Kind.TheVariants.{WrongMeeting, Unbalanced}
use Rattle.refusal.specs.Order.{Verdict, accepted, refused}
use Rattle.checks.specs.Runs.{verdict, clip_run}
use Rattle.segm.specs.CaseA.{segment, A}
use Rattle.build.specs.Fills as fills
use Rattle.string_clip.specs.Run as clip
use Rattle.string_split.specs.Run as split

-- ---- drawings
-- a line, with no winding
abbrev pub line : ℤ → ℤ → ℤ → ℤ → ℤ → List ℤ
line ax ay bx by bits = segment ax ay bx by (pos 0) bits

-- two lines that start at (0,0), the second drawn towards it
abbrev pub forked : List ℤ
forked = line (pos 0) (pos 0) (pos 2) (negsuc 0) (pos 1) ++ line (pos 0) (pos 0) (pos 2) (pos 1) (pos 2)

-- ---- runs
-- lent lists, with something in them: n entries from 101 up
abbrev pub held : ℕ → List ℕ
held n = up_from 101 n

-- the same as integers
abbrev pub held_numbers : ℕ → List ℤ
held_numbers n = map pos (held n)

-- a clip run over n segments under nonzero, boundary included, inside (0) or outside (1), with lists exactly long enough
abbrev pub clip_of : ℤ → ℕ → List ℤ → clip.Outcome
clip_of invert n numbers = clip.clip_outcome numbers (pos 1) invert (pos 1) (clip.lists (held_numbers (8 * n)) (held (2 * n)))

-- it finds these paths, points, steps and this travel, and writes these numbers and lengths
abbrev pub finds : ℕ → (paths points steps travel : ℕ) → List ℤ → List ℕ → clip.Outcome
finds n paths points steps travel numbers lengths =
    clip.outcome (Ok (record { paths = paths; points = points; steps = steps; travel = travel }))
    (clip.lists (numbers ++ drop (2 * points) (held_numbers (8 * n))) (lengths ++ drop paths (held (2 * n))))

-- the verdict on such a run
abbrev pub verdict_on : ℕ → List ℤ → Verdict
verdict_on n numbers = verdict (clip_run numbers (pos 1) (pos 0) (pos 1) (8 * n) (2 * n))

-- a split run over n points, with minimum area 0 and lists exactly long enough
abbrev pub split_of : ℕ → List ℤ → split.Outcome
split_of n points = split.split_outcome points 0 (split.lists (held_numbers (2 * n)) (held n))

-- it finds one loop
abbrev pub finds_loop : ℕ → (points : ℕ) → List ℤ → split.Outcome
finds_loop n points numbers = split.outcome (Ok (record { loops = 1; points = points })) (split.lists (numbers ++ drop (2 * points) (held_numbers (2 * n))) (points ∷ drop 1 (held n)))

-- ---- the trial drawings
pub record Trials : Type 0 where
  -- A's fills: 4,2,1,2,7,2,1,1,4
  pub fills_of-A : fills.fills_outcome A (pos 1) (held 10) ≡ fills.outcome (Ok 9) (4 ∷ 2 ∷ 1 ∷ 2 ∷ 7 ∷ 2 ∷ 1 ∷ 1 ∷ 4 ∷ drop 9 (held 10))
  -- A with invert 1: (-5,5),(0,5) and (10,5),(15,5); 2 steps, travel 10
  pub A-inverted : clip_of (pos 1) 9 A ≡ finds 9 2 4 2 10 (negsuc 4 ∷ pos 5 ∷ pos 0 ∷ pos 5 ∷ pos 10 ∷ pos 5 ∷ pos 15 ∷ pos 5 ∷ []) (2 ∷ 2 ∷ [])
  -- (0,0)-(1,0) bits 3, outside: one path (0,0),(1,0),(0,0)
  pub there_and_back_lem : clip_of (pos 1) 1 (line (pos 0) (pos 0) (pos 1) (pos 0) (pos 3)) ≡ finds 1 1 3 2 2 (pos 0 ∷ pos 0 ∷ pos 1 ∷ pos 0 ∷ pos 0 ∷ pos 0 ∷ []) (3 ∷ [])
  -- (0,0)-(1,0), (1,0)-(2,0), bits 2, outside: (2,0),(1,0),(0,0)
  pub backward : clip_of (pos 1) 2 (line (pos 0) (pos 0) (pos 1) (pos 0) (pos 2) ++ line (pos 1) (pos 0) (pos 2) (pos 0) (pos 2))
      ≡ finds 2 1 3 2 2 (pos 2 ∷ pos 0 ∷ pos 1 ∷ pos 0 ∷ pos 0 ∷ pos 0 ∷ []) (3 ∷ [])
  -- (0,0)-(2,-1) bits 1, (0,0)-(2,1) bits 2, outside: two paths, (0,0),(2,-1) and (2,1),(0,0)
  pub two_paths : clip_of (pos 1) 2 forked
      ≡ finds 2 2 4 2 6 (pos 0 ∷ pos 0 ∷ pos 2 ∷ negsuc 0 ∷ pos 2 ∷ pos 1 ∷ pos 0 ∷ pos 0 ∷ []) (2 ∷ 2 ∷ [])
  -- no segments: no paths, inside or outside
  pub nothing_inside : clip_of (pos 0) 0 [] ≡ finds 0 0 0 0 0 [] []
  pub nothing_outside : clip_of (pos 1) 0 [] ≡ finds 0 0 0 0 0 [] []
  -- (0,0)-(2,0) and (1,0)-(1,1): 8, place 0. With (2,0)-(2,1) instead: no refusal 8
  pub meeting_wrongly : verdict_on 2 (line (pos 0) (pos 0) (pos 2) (pos 0) (pos 0) ++ line (pos 1) (pos 0) (pos 1) (pos 1) (pos 0)) ≡ refused WrongMeeting 0
  pub meeting_well : verdict_on 2 (line (pos 0) (pos 0) (pos 2) (pos 0) (pos 0) ++ line (pos 2) (pos 0) (pos 2) (pos 1) (pos 0)) ≡ accepted
  -- one segment, winding 1: 9, place 0
  pub unbalanced : verdict_on 1 (segment (pos 0) (pos 0) (pos 1) (pos 0) (pos 1) (pos 0)) ≡ refused Unbalanced 0
  -- loops of A B C A D: B C A only
  pub loop-ABCAD : split_of 5 (pos 1 ∷ pos 1 ∷ pos 2 ∷ pos 1 ∷ pos 2 ∷ pos 3 ∷ pos 1 ∷ pos 1 ∷ pos 4 ∷ pos 1 ∷ []) ≡ finds_loop 5 3 (pos 2 ∷ pos 1 ∷ pos 2 ∷ pos 3 ∷ pos 1 ∷ pos 1 ∷ [])
  -- A B A C D: A C D
  pub loop-ABACD : split_of 5 (pos 1 ∷ pos 1 ∷ pos 2 ∷ pos 1 ∷ pos 1 ∷ pos 1 ∷ pos 2 ∷ pos 3 ∷ pos 4 ∷ pos 1 ∷ []) ≡ finds_loop 5 3 (pos 1 ∷ pos 1 ∷ pos 2 ∷ pos 3 ∷ pos 4 ∷ pos 1 ∷ [])
