-- Worked cases of the verdict, by computing, beside document 01's trial drawings (`trials`).
use mathlib.Core.Path.{◌≡◌, refl}
use mathlib.Core.List.{List, [], ◌∷◌, ◌++◌}
use lib.IntN.{ℤ, pos, negsuc}
use Rattle.geom.specs.Points.{eq_z, within, lt_p, eq_p, coordinate, in_range, cross, between}
use Rattle.lists.specs.Members.{any}
use Rattle.lists.specs.Sums.{sum}
use Rattle.segm.specs.CaseA.{lot_segment, segment, A}
use Rattle.segm.specs.Segments.{front, segments_of, count, whole, segments, segment_at, total}
use Rattle.meetings.specs.Meetings.{side, parts, in_interior, same_ends, meets_wrongly}
use Rattle.balance.specs.Balance.{balance, balances}
use Rattle.refusal.specs.Order.{Verdict}
use Rattle.refusal.specs.declared.Kind.TheVariants.{WrongLength, OutOfRange, NotRising, BadBits, OutOfOrder, WrongMeeting, Unbalanced, UnknownChoice, TooShort, BadLot}
use Rattle.refusal.specs.Order.{accepted, refused}
use Rattle.faults.specs.Faults.{ends_in_range, rises, winding_in_range, bits_in_range, lot_in_range, fault, fault_at, faults_of}
use Rattle.drawing_check.specs.Drawing.{meeting_at, meetings_of, unbalanced_at, unbalanced_of, drawing_verdict}
use Rattle.refusal.specs.Order.{first_from, first}
use Rattle.refusal.specs.Asked.{wrong_length, unknown_choice, too_short, asked_first}
use Rattle.checks.specs.Runs.{fills_run, clip_run, slice_run, asked, verdict}

-- a clip run under nonzero, inside, boundary included, with lists for three segments
abbrev clip : List ℤ → Verdict
clip numbers = verdict (clip_run numbers (pos 1) (pos 0) (pos 1) 24 6)

-- three lines in a row, of these lots
abbrev chain : (first middle last : ℤ) → List ℤ
chain first middle last =
    lot_segment (pos 0) (pos 0) (pos 1) (pos 0) (pos 0) (pos 1) first ++ lot_segment (pos 1) (pos 0) (pos 2) (pos 0) (pos 0) (pos 1) middle ++ lot_segment (pos 2) (pos 0) (pos 3) (pos 0) (pos 0) (pos 1) last

pub record Cases : Type 0 where
  -- x 16,777,216 is taken, 16,777,217 is not
  pub on_the_limit : clip (segment (pos 16777216) (pos 0) (pos 16777216) (pos 1) (pos 0) (pos 0)) ≡ accepted
  pub past_the_limit : clip (segment (pos 16777217) (pos 0) (pos 16777217) (pos 1) (pos 0) (pos 0)) ≡ refused OutOfRange 0
  -- no segments, and a list of no whole ones
  pub nothing : clip [] ≡ accepted
  pub ragged : clip (pos 0 ∷ []) ≡ refused WrongLength 0
  -- 4 before 5 within one segment; a 6 at place 2 before an 8 at place 0; 8 before 9
  pub four_before_five : clip (segment (pos 1) (pos 0) (pos 1) (pos 0) (pos 1001) (pos 0)) ≡ refused NotRising 0
  pub six_before_eight : clip (segment (pos 0) (pos 0) (pos 2) (pos 0) (pos 0) (pos 0) ++ segment (pos 1) (pos 0) (pos 1) (pos 1) (pos 0) (pos 0) ++ segment (pos 3) (pos 0) (pos 4) (pos 0) (pos 0) (pos 4)) ≡ refused BadBits 2
  pub eight_before_nine : clip (segment (pos 0) (pos 0) (pos 2) (pos 0) (pos 1) (pos 0) ++ segment (pos 1) (pos 0) (pos 1) (pos 1) (pos 0) (pos 0)) ≡ refused WrongMeeting 0
  -- lots 0 to 9,999 are taken, at the first, a middle and the last place; 6 before 13 before 7 within one segment
  pub lot_9999 : clip (chain (pos 9999) (pos 0) (pos 9999)) ≡ accepted
  pub lot_10000_first : clip (chain (pos 10000) (pos 10000) (negsuc 0)) ≡ refused BadLot 0
  pub lot_below_middle : clip (chain (pos 0) (negsuc 0) (pos 10000)) ≡ refused BadLot 1
  pub lot_10000_last : clip (chain (pos 1) (pos 2) (pos 10000)) ≡ refused BadLot 2
  pub six_before_thirteen : clip (lot_segment (pos 0) (pos 0) (pos 1) (pos 0) (pos 0) (pos 4) (pos 10000)) ≡ refused BadBits 0
  pub thirteen_before_seven : clip (segment (pos 0) (pos 1) (pos 2) (pos 2) (pos 0) (pos 0) ++ lot_segment (pos 0) (pos 0) (pos 2) (pos 0) (pos 0) (pos 0) (negsuc 0)) ≡ refused BadLot 1
  -- equal starts are taken, falling ones are not
  pub equal_starts : clip (segment (pos 0) (pos 0) (pos 2) (pos 2) (pos 0) (pos 0) ++ segment (pos 0) (pos 0) (pos 2) (pos 0) (pos 0) (pos 0)) ≡ accepted
  pub falling_starts : clip (segment (pos 0) (pos 1) (pos 2) (pos 2) (pos 0) (pos 0) ++ segment (pos 0) (pos 0) (pos 2) (pos 0) (pos 0) (pos 0)) ≡ refused OutOfOrder 1
  -- the lowest segment that touches an unbalanced point, here one of winding 0
  pub touched : clip (segment (pos 0) (pos 0) (pos 1) (pos 0) (pos 0) (pos 1) ++ segment (pos 1) (pos 0) (pos 2) (pos 0) (pos 1) (pos 0)) ≡ refused Unbalanced 0
  -- unknown choices, which come before lists too short
  pub unknown_rule : verdict (clip_run A (pos 4) (pos 0) (pos 1) 0 0) ≡ refused UnknownChoice 0
  pub unknown_invert : verdict (clip_run A (pos 1) (negsuc 0) (pos 1) 72 18) ≡ refused UnknownChoice 0
  pub unknown_boundary : verdict (clip_run A (pos 1) (pos 0) (pos 2) 72 18) ≡ refused UnknownChoice 0
  pub unknown_direction : verdict (slice_run A (pos 1) (pos 2) 36 18 18) ≡ refused UnknownChoice 0
  -- lists exactly long enough for case A, and each one entry short
  pub fills_room : verdict (fills_run A (pos 0) 9) ≡ accepted
  pub fills_short : verdict (fills_run A (pos 0) 8) ≡ refused TooShort 0
  pub clip_room : verdict (clip_run A (pos 3) (pos 1) (pos 0) 72 18) ≡ accepted
  pub points_short : verdict (clip_run A (pos 3) (pos 1) (pos 0) 71 18) ≡ refused TooShort 0
  pub lengths_short : verdict (clip_run A (pos 3) (pos 1) (pos 0) 72 17) ≡ refused TooShort 0
  pub slice_room : verdict (slice_run A (pos 2) (pos 1) 36 18 18) ≡ accepted
  pub numbers_short : verdict (slice_run A (pos 2) (pos 1) 35 18 18) ≡ refused TooShort 0
  pub contours_short : verdict (slice_run A (pos 2) (pos 1) 36 17 18) ≡ refused TooShort 0
  pub roles_short : verdict (slice_run A (pos 2) (pos 1) 36 18 17) ≡ refused TooShort 0

pub cases : Cases
unfolding fills_run clip_run slice_run verdict asked asked_first wrong_length unknown_choice too_short first first_from drawing_verdict faults_of meetings_of unbalanced_of fault_at meeting_at unbalanced_at fault ends_in_range rises winding_in_range bits_in_range lot_in_range balance balances meets_wrongly parts in_interior same_ends side total any sum front segments_of count whole segments segment_at eq_z within lt_p eq_p coordinate in_range cross between
cases = record {
  on_the_limit = refl;
  past_the_limit = refl;
  nothing = refl;
  ragged = refl;
  four_before_five = refl;
  six_before_eight = refl;
  eight_before_nine = refl;
  lot_9999 = refl;
  lot_10000_first = refl;
  lot_below_middle = refl;
  lot_10000_last = refl;
  six_before_thirteen = refl;
  thirteen_before_seven = refl;
  equal_starts = refl;
  falling_starts = refl;
  touched = refl;
  unknown_rule = refl;
  unknown_invert = refl;
  unknown_boundary = refl;
  unknown_direction = refl;
  fills_room = refl;
  fills_short = refl;
  clip_room = refl;
  points_short = refl;
  lengths_short = refl;
  slice_room = refl;
  numbers_short = refl;
  contours_short = refl;
  roles_short = refl;
}
