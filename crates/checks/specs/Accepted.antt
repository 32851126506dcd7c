-- What the laws of the checks speak of: each refusal by itself, and what an accepted drawing has.
use Rattle.std.specs.Prelude.{◌≡◌, List, Bool, true, false, ℕ, suc, ◌<◌, length, ℤ, pos}
use Rattle.lists.specs.Members.{◌∈◌}
use Rattle.geom.specs.declared.Point.{Point}
use Rattle.geom.specs.Points.{lt_p}
use Rattle.refusal.specs.declared.Kind.{Kind}
use Rattle.refusal.specs.declared.Kind.TheVariants.{WrongLength, OutOfRange, NotRising, BadWinding, BadBits, OutOfOrder, WrongMeeting, Unbalanced, UnknownChoice, TooShort, BadLot}
use Rattle.refusal.specs.Order.{is_accepted}
use Rattle.refusal.specs.Asked.{wrong_length, Choice, unknown_choice, Lent, too_short}
use Rattle.segm.specs.Segments.{Drawing, width, count, segments, segment_at}
use Rattle.faults.specs.Faults.{ends_in_range, rises, winding_in_range, bits_in_range, lot_in_range}
use Rattle.faults.specs.Faultless.{Faultless}
use Rattle.meetings.specs.Meetings.{meets_wrongly, NoneMeetWrongly}
use Rattle.balance.specs.Balance.{balance, balances}
use Rattle.checks.specs.Runs.{Run, clip_input, verdict}

-- ---- the list of refusals: `Fits r kind place`, each with nothing said of the others
module _ (r : Run) where
  -- the run's drawing
  abbrev d : Drawing
  d = segments r.numbers

  -- a refusal fits: what is wrong, and its place
  pub data Fits : Kind → ℕ → Type 0 where
    wrong_length_lem : wrong_length width 1024 (length r.numbers) ≡ true → Fits WrongLength 0
    coordinate_out : (i : ℕ) → i < length d → ends_in_range (segment_at d i) ≡ false → Fits OutOfRange i
    not_rising : (i : ℕ) → i < length d → rises (segment_at d i) ≡ false → Fits NotRising i
    winding_out : (i : ℕ) → i < length d → winding_in_range (segment_at d i) ≡ false → Fits BadWinding i
    bits_out : (i : ℕ) → i < length d → bits_in_range (segment_at d i) ≡ false → Fits BadBits i
    lot_out : (i : ℕ) → i < length d → lot_in_range (segment_at d i) ≡ false → Fits BadLot i
    start_falls : (i : ℕ) → suc i < length d → lt_p (segment_at d (suc i)).a (segment_at d i).a ≡ true → Fits OutOfOrder (suc i)
    wrong_meeting : (i j : ℕ) → i < j → j < length d → meets_wrongly (segment_at d i) (segment_at d j) ≡ true → Fits WrongMeeting i
    a_unbalanced : (i : ℕ) → i < length d → balances d (segment_at d i).a ≡ false → Fits Unbalanced i
    b_unbalanced : (i : ℕ) → i < length d → balances d (segment_at d i).b ≡ false → Fits Unbalanced i
    unknown_choice_lem : (c : Choice) → c ∈ r.choices → unknown_choice c ≡ true → Fits UnknownChoice 0
    too_short_lem : (l : Lent) → l ∈ r.lists → too_short (count r.numbers) l ≡ true → Fits TooShort 0

-- ---- accepted
-- a drawing with its choices is accepted when no refusal from the input fits a clip run on it: refusal 11 is from the state
unfoldable pub accepts : List ℤ → ℤ → ℤ → ℤ → Bool
accepts numbers rule invert boundary = is_accepted (verdict (clip_input numbers rule invert boundary))

-- what an accepted drawing has: what 2 to 7 and 13 leave, no two segments meet wrongly (8), and every point is balanced (9)
pub record Good (d : Drawing) : Type 0 where
  pub faultless : Faultless d
  pub apart : NoneMeetWrongly d
  pub balanced : (p : Point) → balance d p ≡ pos 0
