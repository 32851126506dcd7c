-- Texts written and moved, by computing: what is written, and refusals in their order.
use mathlib.Core.Path.{◌≡◌, refl}
use mathlib.Core.List.{List, [], ◌∷◌, ◌++◌, flatten}
use Prim.Native.Nat.{ℕ}
use Prim.Native.String.{String}
use lib.ListN.{length, replicate}
use lib.IntN.{ℤ, pos, negsuc}
use Rattle.geom.specs.Points.{eq_z, within, lt_p, eq_p, coordinate, in_range, cross, between}
use Rattle.lists.specs.Members.{any}
use Rattle.lists.specs.Sums.{sum}
use Rattle.lists.specs.Written.{written}
use Rattle.segm.specs.Segments.{front, segments_of, count, segments, numbers_of, laid, segment_at, total}
use Rattle.meetings.specs.Meetings.{side, parts, in_interior, same_ends, meets_wrongly}
use Rattle.balance.specs.Balance.{balance, balances}
use Rattle.faults.specs.Faults.{ends_in_range, rises, winding_in_range, bits_in_range, lot_in_range, fault, fault_at, faults_of}
use Rattle.drawing_check.specs.Drawing.{meeting_at, unbalanced_at, meetings_of, unbalanced_of, drawing_verdict}
use Rattle.refusal.specs.Asked.{wrong_length, unknown_choice, too_short, asked_first}
use Rattle.refusal.specs.Order.{refusal, first_from, first}
use Rattle.checks.specs.Runs.{asked, verdict}
use Rattle.decimal.specs.Decimal.{worth, positive, field_of, digits, decimal, signed}
use Rattle.decimal.proofs.Spelled.{bytes}
use Rattle.writing.specs.Lines.{joined, line_of, text_of}
use Rattle.text.specs.Grammar.{pieces, row, fields_in, rows_from, choices_of, parsed}
use Rattle.text.specs.Writing.{choice_numbers}
use Rattle.text_forms.specs.declared.Form.{Form}
use Rattle.text_forms.specs.declared.Form.TheVariants.{Old, New}
use Rattle.text_forms.specs.Forms.{row_of, writing}
use Rattle.text_forms.specs.Reading.{old_segments_of, old_segments, parsed_in}
use Rattle.std.specs.Prelude.{Ok, Err}
use Rattle.refusal.specs.declared.Kind.{Kind}
use Rattle.refusal.specs.declared.Kind.TheVariants.{BadText, NotRising, Unbalanced, UnknownChoice, TooShort, BadLot, LotLost}
use Rattle.stored_text.specs.Outcome.{Outcome, outcome, lot_at, lots_of, written_unless, write_outcome, move_outcome}

-- a list of n bytes, none of which a text has
abbrev noise : ℕ → List ℕ
noise n = replicate n 0

-- this text becomes that one, before what the list held past it
abbrev Becomes : (from to : Form) → String → String → Type 0
Becomes from to s t = move_outcome from to (bytes s) (noise 40) ≡ outcome (Ok (length (bytes t))) (written (bytes t) (noise 40))

-- it is refused over a list of n bytes
abbrev Stays : (from to : Form) → String → ℕ → Kind → ℕ → Type 0
Stays from to s n kind place = move_outcome from to (bytes s) (noise n) ≡ outcome (Err (refusal kind place)) (noise n)

-- one line there and back, with a lot; nonzero, inside, boundary included
abbrev drawn : List ℤ
drawn = pos 0 ∷ pos 0 ∷ pos 2 ∷ negsuc 0 ∷ pos 0 ∷ pos 3 ∷ pos 7 ∷ []

abbrev writes : List ℤ → ℕ → Outcome
writes l n = write_outcome l (record { rule = pos 1; invert = pos 0; boundary = pos 1 }) (noise n)

pub record Cases : Type 0 where
  -- ---- the writer
  pub wrote : writes drawn 24 ≡ outcome (Ok 21) (bytes "1,0,1\n0,0,2,-1,0,3,7\n" ++ noise 3)
  pub wrote_exact : writes drawn 21 ≡ outcome (Ok 21) (bytes "1,0,1\n0,0,2,-1,0,3,7\n")
  pub one_short : writes drawn 20 ≡ outcome (Err (refusal TooShort 0)) (noise 20)
  -- ---- the mover
  pub up : Becomes Old New "1,0,1\n0,0,2,0,0,1\n2,0,4,0,0,2\n" "1,0,1\n0,0,2,0,0,1,0\n2,0,4,0,0,2,0\n"
  pub down : Becomes New Old "1,0,1\n0,0,2,0,0,1,0\n2,0,4,0,0,2,0\n" "1,0,1\n0,0,2,0,0,1\n2,0,4,0,0,2\n"
  pub no_segments_up : Becomes Old New "3,1,0\n" "3,1,0\n"
  pub no_segments_down : Becomes New Old "3,1,0\n" "3,1,0\n"
  -- a text of the other form
  pub seven_up : Stays Old New "1,0,1\n0,0,2,0,0,1,0\n" 40 BadText 2
  pub six_down : Stays New Old "1,0,1\n0,0,2,0,0,1\n" 40 BadText 2
  -- a bad line before an unknown choice before the drawing's own
  pub text_first : Stays Old New "4,0,1\n0,0,0,0,0,1\nx\n" 0 BadText 3
  pub choice_next : Stays Old New "4,0,1\n0,0,0,0,0,1\n" 0 UnknownChoice 0
  pub drawing_next : Stays Old New "3,0,1\n0,0,0,0,0,1\n" 0 NotRising 0
  -- 13 before 14, 9 before 14, 14 at its lowest place and before 11, 11 last
  pub out_before_lost : Stays New Old "1,0,1\n0,0,2,0,0,1,5\n2,0,4,0,0,1,10000\n" 0 BadLot 1
  pub unbalanced_before_lost : Stays New Old "1,0,1\n0,0,2,0,0,1,5\n2,0,4,0,1,1,0\n" 0 Unbalanced 0
  pub lost : Stays New Old "1,0,1\n0,0,2,0,0,1,0\n2,0,4,0,0,1,5\n4,0,6,0,0,1,9\n" 0 LotLost 1
  pub short_last : Stays New Old "1,0,1\n0,0,2,0,0,1,0\n" 17 TooShort 0

pub cases : Cases
unfolding eq_z within lt_p eq_p coordinate in_range cross between any sum written front segments_of count segments numbers_of laid segment_at total side parts in_interior same_ends meets_wrongly balance balances ends_in_range rises winding_in_range bits_in_range lot_in_range fault fault_at faults_of meeting_at unbalanced_at meetings_of unbalanced_of drawing_verdict wrong_length unknown_choice too_short asked_first first_from first asked verdict worth positive field_of digits decimal signed joined line_of text_of flatten pieces row fields_in rows_from choices_of parsed choice_numbers row_of writing old_segments_of old_segments parsed_in lot_at lots_of written_unless write_outcome move_outcome
cases = record {
  wrote = refl;
  wrote_exact = refl;
  one_short = refl;
  up = refl;
  down = refl;
  no_segments_up = refl;
  no_segments_down = refl;
  seven_up = refl;
  six_down = refl;
  text_first = refl;
  choice_next = refl;
  drawing_next = refl;
  out_before_lost = refl;
  unbalanced_before_lost = refl;
  lost = refl;
  short_last = refl;
}
