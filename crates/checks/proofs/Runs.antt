-- What acceptance of a run says of what it is asked first, and of its drawing.
use mathlib.Core.Path.{◌≡◌, refl, sym, ap, ◌∙◌}
use mathlib.Core.Bool.{true}
use Prim.Native.Nat.{◌*◌, ◌≤◌}
use native.Mathlib.Omega.{arith}
use lib.ListN.{length}
use lib.IntN.{pos}
use Rattle.lists.specs.Members.{◌∈◌, any}
use Rattle.geom.specs.Points.{within}
use Rattle.refusal.specs.Order.{Verdict}
use Rattle.refusal.specs.declared.Kind.TheVariants.{WrongLength}
use Rattle.refusal.specs.Order.{accepted, refused}
use Rattle.refusal.specs.Order.{◌then◌}
use Rattle.refusal.specs.Asked.{wrong_length, Choice, unknown_choice, Lent, too_short, asked_first}
use Rattle.refusal.specs.declared.Refusal.{Refusal}
use Rattle.std.specs.Prelude.{Err}
use Rattle.refusal.proofs.Order.{accepted_then, passed_on}
use Rattle.refusal.proofs.Asked.{AskedPasses, asked_passes, passes_asked, few_entries, all_known, all_long}
use Rattle.segm.specs.Segments.{width, count, segments}
use Rattle.segm.proofs.Segments.{length-segments}
use Rattle.drawing_check.specs.Drawing.{drawing_verdict}
use Rattle.checks.specs.Runs.{Run, asked, verdict}
pub mod Listed

-- a run that is accepted passed every check
pub record Passed (r : Run) : Type 0 where
  pub asks : AskedPasses (wrong_length width 1024 (length r.numbers)) (any unknown_choice r.choices) (any (too_short (count r.numbers)) r.lists)
  pub drawing : drawing_verdict (segments r.numbers) ≡ accepted

-- what was asked first
pub asked_passes_run : (r : Run) → asked r ≡ accepted → AskedPasses (wrong_length width 1024 (length r.numbers)) (any unknown_choice r.choices) (any (too_short (count r.numbers)) r.lists)
unfolding asked
asked_passes_run r e = asked_passes _ _ _ e

-- few segments
pub asked_few : (r : Run) → asked r ≡ accepted → length (segments r.numbers) ≤ 1024
unfolding count
asked_few r e = let p = asked_passes_run r e in omega (arith, length-segments r.numbers, few_entries width 1024 (length r.numbers) p.right_length)

pub passed : (r : Run) → verdict r ≡ accepted → Passed r
unfolding verdict
passed r e = let both = accepted_then (asked r) _ e in record { asks = asked_passes_run r both.0; drawing = both.1 }

pub passes : (r : Run) → Passed r → verdict r ≡ accepted
unfolding verdict asked
passes r p = ap (λ (v : Verdict). v then drawing_verdict (segments r.numbers)) (passes_asked _ _ _ p.asks) ∙ p.drawing

-- numbers of a wrong length are refused whatever they are
pub wrong_refused : (r : Run) → wrong_length width 1024 (length r.numbers) ≡ true → verdict r ≡ refused WrongLength 0
unfolding verdict asked asked_first
wrong_refused r e = rw e refl

-- the code asks first, and then looks at the drawing
pub asked_refused : (r : Run) {w : Verdict} {e : Refusal} → Err e ≡ asked r → w ≡ Err e → w ≡ verdict r
unfolding verdict
asked_refused r a e = passed_on (asked r) (drawing_verdict (segments r.numbers)) e (sym a)

pub asked_accepted : (r : Run) {w : Verdict} → accepted ≡ asked r → w ≡ drawing_verdict (segments r.numbers) → w ≡ verdict r
unfolding verdict
asked_accepted r a e = e ∙ ap (λ (v : Verdict). v then drawing_verdict (segments r.numbers)) a

-- its choices are known, and its lists long enough
module _ (r : Run) (e : verdict r ≡ accepted) where
  pub verdict_known : (c : Choice) → c ∈ r.choices → within (pos 0) c.greatest c.value ≡ true
  verdict_known = all_known r.choices (passed r e).asks.known

  pub verdict_room : (l : Lent) → l ∈ r.lists → l.each * count r.numbers ≤ l.entries
  verdict_room = all_long (count r.numbers) r.lists (passed r e).asks.long
