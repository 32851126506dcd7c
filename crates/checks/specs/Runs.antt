-- The runs on a drawing: which choices each has, what its lent lists must hold, and the verdict on it.
use Rattle.std.specs.Prelude.{List, [], ◌∷◌, ℕ, length, ℤ, pos}
use Rattle.lists.specs.Members.{any}
use Rattle.refusal.specs.Order.{Verdict}
use Rattle.refusal.specs.Order.{◌then◌}
use Rattle.refusal.specs.Asked.{wrong_length, Choice, up_to, unknown_choice, Lent, lent, too_short, asked_first}
use Rattle.segm.specs.Segments.{width, count, segments}
use Rattle.drawing_check.specs.Drawing.{drawing_verdict}

-- a run: its numbers, its choices and its lent lists
pub record Run : Type 0 where
  pub numbers : List ℤ
  pub choices : List Choice
  pub lists : List Lent

-- a rule is 0 to 3
abbrev pub rule_choice : ℤ → Choice
rule_choice = up_to (pos 3)

-- invert, boundary and output direction are 0 or 1
abbrev pub flag_choice : ℤ → Choice
flag_choice = up_to (pos 1)

-- rule, invert, boundary
abbrev pub clip_choices : ℤ → ℤ → ℤ → List Choice
clip_choices rule invert boundary = rule_choice rule ∷ flag_choice invert ∷ flag_choice boundary ∷ []

-- fills: n entries
unfoldable pub fills_run : List ℤ → ℤ → ℕ → Run
fills_run numbers rule fills = record { numbers = numbers; choices = rule_choice rule ∷ []; lists = lent fills 1 ∷ [] }

-- clip: 8n numbers and 2n lengths
unfoldable pub clip_run : List ℤ → ℤ → ℤ → ℤ → ℕ → ℕ → Run
clip_run numbers rule invert boundary points lengths =
    record { numbers = numbers; choices = clip_choices rule invert boundary; lists = lent points 8 ∷ lent lengths 2 ∷ [] }

-- the input of a clip run alone, with no lent list
abbrev pub clip_input : List ℤ → ℤ → ℤ → ℤ → Run
clip_input numbers rule invert boundary = record { numbers = numbers; choices = clip_choices rule invert boundary; lists = [] }

-- slice: 4n numbers, 2n lengths, 2n roles
unfoldable pub slice_run : List ℤ → ℤ → ℤ → ℕ → ℕ → ℕ → Run
slice_run numbers rule direction points lengths roles =
    record { numbers = numbers; choices = rule_choice rule ∷ flag_choice direction ∷ []; lists = lent points 4 ∷ lent lengths 2 ∷ lent roles 2 ∷ [] }

-- what a run asks first: that there are whole segments, at most 1,024 (2), that its choices are known (10) and its lists long enough (11)
unfoldable pub asked : Run → Verdict
asked r = asked_first (wrong_length width 1024 (length r.numbers)) (any unknown_choice r.choices) (any (too_short (count r.numbers)) r.lists)

-- the verdict on a run: 2, 10, 11, then that on its drawing
unfoldable pub verdict : Run → Verdict
verdict r = asked r then drawing_verdict (segments r.numbers)
