-- What `read` answers, by what it told of the lines; and what an answer says of the lent list.
use mathlib.Core.Path.{◌≡◌, refl, sym, ap, ap₂, ◌∙◌}
use mathlib.Core.Bool.{Bool, true, false}
use mathlib.Core.List.{List, flatten}
use Rattle.std.specs.Prelude.{Some, Result, Ok, Err}
use Prim.Native.Nat.{ℕ, ◌+◌, ◌*◌, ◌≤◌}
use native.Mathlib.Nat.{zero-add}
use native.Mathlib.Omega.{arith}
use borrow.Author.Tests.{ltb-false}
use lib.ListN.{length}
use lib.Seq.{sets, take_all}
use lib.IntN.{ℤ}
use Rattle.lists.specs.Written.{written}
use Rattle.lists.proofs.Written.{length_written, sets_front}
use Rattle.refusal.specs.declared.Kind.TheVariants.{BadText, TooShort}
use Rattle.refusal.specs.declared.Refusal.{Refusal}
use Rattle.refusal.specs.Order.{Verdict, accepted, refusal, refuse_if}
use Rattle.refusal.proofs.Order.{accepted_then, accepted_if}
use Rattle.refusal.specs.Asked.{lent, too_short}
use Rattle.text.specs.declared.Choices.{Choices}
use Rattle.text.specs.declared.Reading.{Reading}
use Rattle.text.specs.Grammar.{RowsFound, Bad, Rows, and_lines, Parsed, Drawn, choices_of, parsed_rows}
use Rattle.text.specs.Storing.{Outcome, outcome, reading, malformed, choices_in, numbers_in, read_verdict, answered, read_into, Nothing, Numbers, rows_stored, lines_stored}
use Rattle.text.proofs.Storing.StoredRows.{differ}
pub mod StoredRows

-- a list is too short for n numbers exactly where it has fewer entries
pub long_enough : (n entries : ℕ) → too_short n (lent entries 1) ≡ false → n ≤ entries
unfolding too_short
long_enough n entries e = omega (arith, ltb-false entries (1 * n) e)

-- ---- the answer
-- storing nothing told of a bad line
pub bad_answer : (first : List ℤ) (rest : RowsFound) (r : Refusal) (l old : List ℤ) → Nothing r ≡ rows_stored 0 l rest
    → outcome (Err r) old ≡ read_into old (parsed_rows (and_lines 1 (Some first) rest))
unfolding read_verdict
bad_answer first (Bad later) r l old e = let q : r ≡ refusal BadText later = cc in rw q
bad_answer first (Rows rows) r l old e = absurd (differ (cc))

-- ... or of none, and how many numbers there are: the list is too short for them,
pub short_answer : (first : List ℤ) (rest : RowsFound) (count : ℕ) (l m old : List ℤ) → Numbers count m ≡ rows_stored 0 l rest → too_short count (lent (length old) 1) ≡ true
    → outcome (Err (refusal TooShort 0)) old ≡ read_into old (parsed_rows (and_lines 1 (Some first) rest))
unfolding read_verdict
short_answer first (Bad later) count l m old e t = absurd (differ (cc))
short_answer first (Rows rows) count l m old e t =
    let p : count ≡ 0 + length (flatten rows) = cc in
    let n : length (flatten rows) ≡ count = sym (p ∙ zero-add (length (flatten rows))) in
    rw (n, t)

-- or all are stored
pub good_answer : (first : List ℤ) (rest : RowsFound) (count : ℕ) (l m old new : List ℤ) (again : Result ℕ Refusal) → Numbers count m ≡ rows_stored 0 l rest → lines_stored again new ≡ rows_stored 0 old rest
    → too_short count (lent (length old) 1) ≡ false → outcome (Ok (reading (choices_of first) count)) new ≡ read_into old (parsed_rows (and_lines 1 (Some first) rest))
unfolding read_verdict
good_answer first (Bad later) count l m old new again e f t = absurd (differ (cc))
good_answer first (Rows rows) count l m old new (Err r) e f t = absurd (differ (cc))
good_answer first (Rows rows) count l m old new (Ok n) e f t =
    let zs = flatten rows in
    let p : count ≡ 0 + length zs = cc in
    let q : new ≡ sets old 0 zs = cc in
    let n : count ≡ length zs = p ∙ zero-add (length zs) in
    let enough : length zs ≤ length old = omega (arith, n, long_enough count (length old) t) in
    let all : new ≡ written zs old = q ∙ sets_front zs old ∙ ap (λ (l : List ℤ). written l old) (take_all (length old) zs enough) in
    let long : too_short (length zs) (lent (length old) 1) ≡ false = ap (λ k. too_short k (lent (length old) 1)) (sym n) ∙ t in
    ap₂ (λ k t. outcome (Ok (reading (choices_of first) k)) t) n all ∙ sym (ap (λ (b : Bool). answered (refuse_if TooShort b) (Drawn (choices_of first) zs) old) long)

-- ---- the list
-- all numbers of what was accepted stand in the list
pub answered-held : (v : Verdict) (p : Parsed) (old : List ℤ) {c : Choices} {n : ℕ} {l : List ℤ} → (v ≡ accepted → length (numbers_in p) ≤ length old) → outcome (Ok (reading c n)) l ≡ answered v p old → n ≤ length l
answered-held (Ok _) p old {c} {n} {l} room e =
    let q = ap (λ (o : Outcome). o.answer) e in
    let r : reading c n ≡ reading (choices_in p) (length (numbers_in p)) = cc in
    let count : n ≡ length (numbers_in p) = ap (λ (x : Reading). x.count) r in
    let list : l ≡ written (numbers_in p) old = ap (λ (o : Outcome). o.list) e in
    omega (arith, count, ap length list, length_written (numbers_in p) old (room refl), room refl)
answered-held (Err r) p old room e = let q = ap (λ (o : Outcome). o.answer) e in absurd (differ (cc))

pub read_held : (old : List ℤ) (p : Parsed) {c : Choices} {n : ℕ} {l : List ℤ} → outcome (Ok (reading c n)) l ≡ read_into old p → n ≤ length l
unfolding read_verdict
read_held old p e = answered-held (read_verdict p (length old)) p old (λ a. long_enough (length (numbers_in p)) (length old) (accepted_if TooShort _ (accepted_then (malformed p) _ a).1)) e
