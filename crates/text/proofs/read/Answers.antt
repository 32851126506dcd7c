-- The lines decide: nothing is stored until each was read once.
use mathlib.Core.Path.{◌≡◌, refl, sym, ap, ◌∙◌}
use mathlib.Core.List.{List, [], ◌∷◌}
use mathlib.Core.Bool.{Bool, true}
use Prim.Native.Nat.{ℕ, ◌+◌, ◌-◌, ◌≤◌}
use native.Mathlib.Omega.{arith}
use borrow.Author.Rules.{rules}
use borrow.Author.Tests.{lt-ltb, le-ltb}
use lib.Dec.{eqb}
use lib.ListN.{length, take, drop, get_or, length-drop}
use lib.Seq.{length-take-le}
use lib.IntN.{ℤ, pos}
use mir.Syntax.{w32}
use mir.Val.{SFits}
use mir.Facts.{to_z-of_z}
use Rattle.std.specs.Prelude.{Option, Some, None, Ok, Err, position}
use Rattle.std.proofs.lemmas.Result.{err_from_is_err_and}
use Rattle.refusal.specs.declared.Kind.TheVariants.{BadText}
use Rattle.refusal.specs.Order.{refusal}
use Rattle.text.specs.Grammar.{pieces, row, fields_in, RowsFound, and_lines, rows_from, after_last, BadLine, choices_of, parsed_rows, most_bytes, parsed}
use Rattle.text.specs.Storing.{outcome, reading, read_verdict, read_into, read_outcome, row_stored, list_if, rows_stored, lines_stored}
use Rattle.text.proofs.Grammar.Finding.{cut_at, not_cut, past}
use Rattle.text.proofs.Storing.StoredRows.{row-length, line_bad, lines_next, row-filled}
use Rattle.text.proofs.Storing.{bad_answer, short_answer, good_answer}
use Rattle.text.proofs.read.Goals as goal

-- what the first line's list holds before
abbrev zeros : List ℤ
zeros = pos 0 ∷ pos 0 ∷ pos 0 ∷ []

pub returns-then-text-gt-MOST_BYTES : goal.returns-then-text-gt-MOST_BYTES
unfolding read_outcome parsed read_verdict
returns-then-text-gt-MOST_BYTES c = rw (c.bad_line.ensures, lt-ltb most_bytes (length c.args.text.now) (omega (arith, c.if-text-gt-MOST_BYTES.true)))

-- ---- a text that is not too long
-- with no LF
no_end : (text : List ℕ) (width : ℕ) (old : List ℤ) → length text ≤ most_bytes → None ≡ position (λ x. eqb x 10) text → outcome (Err (refusal BadText 1)) old ≡ read_outcome width text old
unfolding read_outcome parsed rows_from read_verdict
no_end text width old few f = rw (le-ltb most_bytes (length text) few, not_cut 10 text f) (ap (λ p. read_into old p) (sym (one_line text)))
  where
    one_line : (s : List ℕ) → parsed_rows (after_last 1 s) ≡ BadLine 1
    one_line [] = refl
    one_line (b ∷ s) = refl

-- the numbers of the first line
abbrev first : List ℕ → ℕ → Option (List ℤ)
first text end = row 3 (pieces 44 (take end text))

-- the lines after it
abbrev rest : List ℕ → ℕ → ℕ → RowsFound
rest text width end = rows_from width 2 (pieces 10 (drop (end + 1) text))

module _ (text : List ℕ) (width : ℕ) (old : List ℤ) (end : ℕ) (few : length text ≤ most_bytes) (f : Some end ≡ position (λ x. eqb x 10) text) where
  by_first : read_outcome width text old ≡ read_into old (parsed_rows (and_lines 1 (first text end) (rest text width end)))
  unfolding read_outcome parsed fields_in
  by_first = rw (le-ltb most_bytes (length text) few, (cut_at 10 text end f).1) (ap (λ r. read_into old (parsed_rows r)) (lines_next width 1 (take end text) (drop (end + 1) text)))

  -- a good first line
  by-rest : (new : List ℤ) → list_if true new ≡ row_stored 0 zeros (first text end) → read_outcome width text old ≡ read_into old (parsed_rows (and_lines 1 (Some new) (rest text width end)))
  by-rest new told = by_first ∙ ap (λ o. read_into old (parsed_rows (and_lines 1 o (rest text width end)))) (row-filled (first text end) zeros new (row-length 3 (pieces 44 (take end text))) told)

-- what reading a line told
told : (new : List ℤ) {t u : Bool} {o : Option (List ℤ)} → t ≡ u → list_if t new ≡ o → list_if u new ≡ o
told new q e = ap (λ t. list_if t new) (sym q) ∙ e

pub returns-in_default : goal.returns-in_default
returns-in_default c =
    ap (λ r. outcome (Err r) c.args.numbers.now) c.bad_line-in_default.ensures
    ∙ no_end c.args.text.now c.args.width c.args.numbers.now c.if-text-gt-MOST_BYTES.false (sym c.in_default.is ∙ c.find.ensures)

pub read_line-requires : goal.read_line-requires
read_line-requires c =
    let inside = (cut_at 10 c.args.text.now c.in-Some.end (sym c.in-Some.is ∙ c.find.ensures)).0 in
    omega (arith, length-take-le c.in-Some.end c.args.text.now (omega (arith, inside)), inside, c.if-text-gt-MOST_BYTES.false)

pub returns-then-not-read_line : goal.returns-then-not-read_line
unfolding read_verdict
returns-then-not-read_line c =
    let text = c.args.text.now in
    let width = c.args.width in
    let end = c.in-Some.end in
    let bad = line_bad 1 0 zeros (first text end) (rest text width end) (told c.read_line.new.numbers c.if-not-read_line.true c.read_line.ensures) in
    ap (λ r. outcome (Err r) c.args.numbers.now) c.bad_line-then-not-read_line.ensures
    ∙ sym (by_first text width c.args.numbers.now end c.if-text-gt-MOST_BYTES.false (sym c.in-Some.is ∙ c.find.ensures) ∙ ap (λ r. read_into c.args.numbers.now (parsed_rows r)) bad)

-- the lines after the first, as the code takes them
taken : (text : List ℕ) (width end : ℕ) → rows_from width 2 (pieces 10 (take (length text - (end + 1)) (drop (end + 1) text))) ≡ rest text width end
taken text width end = ap (λ (t : List ℕ). rows_from width 2 (pieces 10 t)) (past text end)

pub read_lines-requires : goal.read_lines-requires
read_lines-requires c = omega (arith, ap length (past c.args.text.now c.in-Some.end), length-drop (c.in-Some.end + 1) c.args.text.now, c.if-text-gt-MOST_BYTES.false)

pub returns-in_err-count : goal.returns-in_err-count
returns-in_err-count c =
    let text = c.args.text.now in
    let width = c.args.width in
    let old = c.args.numbers.now in
    let end = c.in-Some.end in
    let l = c.read_line.new.numbers in
    let m = c.read_lines.new.numbers in
    let bad = ap (λ t. lines_stored t m) (sym c.in_err-count.was) ∙ c.read_lines.ensures ∙ ap (rows_stored 0 []) (taken text width end) in
    let e = err_from_is_err_and c.from_residual.result c.from_residual.ensures.1 in
    rw (e.1, e.2)
    (bad_answer l (rest text width end) c.in_err-count.field-0.0 [] old bad
    ∙ sym (by-rest text width old end c.if-text-gt-MOST_BYTES.false (sym c.in-Some.is ∙ c.find.ensures) l (told l c.if-not-read_line.false c.read_line.ensures)))

pub returns-then-is_short : goal.returns-then-is_short
returns-then-is_short c =
    let text = c.args.text.now in
    let width = c.args.width in
    let old = c.args.numbers.now in
    let end = c.in-Some.end in
    let l = c.read_line.new.numbers in
    let m = c.read_lines.new.numbers in
    let once = ap (λ t. lines_stored t m) (sym c.in_ok-count.was) ∙ c.read_lines.ensures ∙ ap (rows_stored 0 []) (taken text width end) in
    short_answer l (rest text width end) c.in_ok-count.count [] m old once (sym c.is_short.ensures ∙ c.if-is_short.true)
    ∙ sym (by-rest text width old end c.if-text-gt-MOST_BYTES.false (sym c.in-Some.is ∙ c.find.ensures) l (told l c.if-not-read_line.false c.read_line.ensures))

pub returns : goal.returns
unfolding choices_of
returns c =
    let text = c.args.text.now in
    let width = c.args.width in
    let old = c.args.numbers.now in
    let end = c.in-Some.end in
    let l = c.read_line.new.numbers in
    let m = c.read_lines.new.numbers in
    let once = ap (λ t. lines_stored t m) (sym c.in_ok-count.was) ∙ c.read_lines.ensures ∙ ap (rows_stored 0 []) (taken text width end) in
    let again = c.read_lines-2.ensures ∙ ap (rows_stored 0 old) (taken text width end) in
    let f0 : SFits w32 (get_or l 0 (pos 0)) = search rules in
    let f1 : SFits w32 (get_or l 1 (pos 0)) = search rules in
    let f2 : SFits w32 (get_or l 2 (pos 0)) = search rules in
    let chosen : _ ≡ choices_of l = λ i. record { rule = to_z-of_z f0 i; invert = to_z-of_z f1 i; boundary = to_z-of_z f2 i } in
    ap (λ choices. outcome (Ok (reading choices c.in_ok-count.count)) c.read_lines-2.new.numbers) chosen
    ∙ good_answer l (rest text width end) c.in_ok-count.count [] m old c.read_lines-2.new.numbers c.read_lines-2.result once again (sym c.is_short.ensures ∙ c.if-is_short.false)
    ∙ sym (by-rest text width old end c.if-text-gt-MOST_BYTES.false (sym c.in-Some.is ∙ c.find.ensures) l (told l c.if-not-read_line.false c.read_line.ensures))
