-- What is left of the text decides.
use mathlib.Core.Path.{◌≡◌, refl, sym, ap, ◌∙◌}
use mathlib.Core.Bool.{Bool, true}
use mathlib.Core.List.{List, [], ◌∷◌, flatten}
use Prim.Native.Nat.{ℕ, suc, ◌+◌, ◌<◌, ◌≤◌}
use native.Mathlib.Nat.{add-zero}
use native.Mathlib.Numerals.{add-one}
use native.Mathlib.Omega.{arith}
use lib.Dec.{eqb}
use lib.ListN.{length, take, drop, length-drop}
use lib.Seq.{length-take-le}
use lib.IntN.{ℤ}
use Rattle.std.specs.Prelude.{Option, Some, None, Err, position}
use Rattle.text.specs.Grammar.{pieces, row, and_lines, after_last, rows_from}
use Rattle.text.specs.Storing.{row_stored, list_if, rows_stored, lines_stored, Nothing, Numbers}
use Rattle.text.proofs.Grammar.Finding.{cut_at, not_cut, past}
use Rattle.text.proofs.Storing.StoredRows.{row-length, fields_later, last_bad, line_bad, lines_next, row_stored_lem, line_stored}
use Rattle.text.proofs.Writing.{row_narrow}
use Rattle.text.proofs.lines.read_lines.Invariants.{Walked}
use Rattle.text.proofs.lines.read_lines.Goals as goal

pub loop-end-init : goal.loop-end-init
loop-end-init c = record { later = omega arith; lines = omega arith; places = omega arith; left = refl }

-- the line that was found
module _ {text : List ℕ} {width : ℕ} {old numbers : List ℤ} {rest : List ℕ} {line at : ℕ} (l : Walked text width old numbers rest line at) {end : ℕ} (f : Some end ≡ position (λ x. eqb x 10) rest) where
  inside : end < length rest
  inside = (cut_at 10 rest end f).0

  next : rows_stored 0 old (rows_from width 2 (pieces 10 text)) ≡ rows_stored at numbers (and_lines line (row width (pieces 44 (take end rest))) (rows_from width (suc line) (pieces 10 (drop (end + 1) rest))))
  next =
      l.left
      ∙ ap (λ lines. rows_stored at numbers (rows_from width line lines)) (cut_at 10 rest end f).1
      ∙ ap (rows_stored at numbers) (lines_next width line (take end rest) (drop (end + 1) rest))
      ∙ ap (λ k. rows_stored at numbers (and_lines line (row k (pieces 44 (take end rest))) (rows_from width (suc line) (pieces 10 (drop (end + 1) rest))))) (fields_later width line l.later)

  -- a good line has its numbers, which leave few for the lines before it
  narrow : (new : List ℤ) → list_if true new ≡ row_stored at numbers (row width (pieces 44 (take end rest))) → width ≤ end + 1
  narrow new told = row_stored_lem at numbers new (row width (pieces 44 (take end rest))) told (λ zs e. omega (arith, row_narrow width (take end rest) zs e, length-take-le end rest (omega (arith, inside))))

-- what reading the line told
told : (new : List ℤ) {t u : Bool} {o : Option (List ℤ)} → t ≡ u → list_if t new ≡ o → list_if u new ≡ o
told new q e = ap (λ t. list_if t new) (sym q) ∙ e

pub read_line-requires : goal.read_line-requires
read_line-requires c = omega (arith, inside c.loop-end.invariant (sym c.in-Some.is ∙ c.find.ensures), length-take-le c.in-Some.end c.loop-end.rest.now)

pub returns-then-not-read_line : goal.returns-then-not-read_line
returns-then-not-read_line c =
    let l = c.loop-end in
    let r = row c.args.width (pieces 44 (take c.in-Some.end l.rest.now)) in
    let below = rows_from c.args.width (suc l.line) (pieces 10 (drop (c.in-Some.end + 1) l.rest.now)) in
    ap (λ r. lines_stored (Err r) c.read_line.new.numbers) c.bad_line.ensures
    ∙ sym (next l.invariant (sym c.in-Some.is ∙ c.find.ensures) ∙ ap (rows_stored l.at l.numbers) (line_bad l.line l.at l.numbers r below (told c.read_line.new.numbers c.if-not-read_line.true c.read_line.ensures)))

pub overflow_add-at : goal.overflow_add-at
overflow_add-at c =
    let f = sym c.in-Some.is ∙ c.find.ensures in
    omega (arith, narrow c.loop-end.invariant f c.read_line.new.numbers (told c.read_line.new.numbers c.if-not-read_line.false c.read_line.ensures), inside c.loop-end.invariant f, c.requires)

pub loop-end-preserved : goal.loop-end-preserved
loop-end-preserved c =
    let l = c.loop-end in
    let v = l.invariant in
    let rest = l.rest.now in
    let end = c.in-Some.end in
    let f = sym c.in-Some.is ∙ c.find.ensures in
    let r = row c.args.width (pieces 44 (take end rest)) in
    let below = rows_from c.args.width (suc l.line) (pieces 10 (drop (end + 1) rest)) in
    let good = told c.read_line.new.numbers c.if-not-read_line.false c.read_line.ensures in
    let left = ap length (past rest end) ∙ length-drop (end + 1) rest in
    record {
      later = omega (arith, v.later);
      lines = omega (arith, v.lines, left, inside v f);
      places = omega (arith, v.places, narrow v f c.read_line.new.numbers good, left, inside v f);
      left =
          next v f
          ∙ line_stored l.line l.at c.args.width l.numbers c.read_line.new.numbers r below (row-length c.args.width (pieces 44 (take end rest))) good
          ∙ ap (λ k. rows_stored (l.at + c.args.width) c.read_line.new.numbers (rows_from c.args.width k (pieces 10 (drop (end + 1) rest)))) (sym (add-one l.line))
          ∙ ap (λ (t : List ℕ). rows_stored (l.at + c.args.width) c.read_line.new.numbers (rows_from c.args.width (l.line + 1) (pieces 10 t))) (sym (past rest end));
    }

pub loop-end-smaller : goal.loop-end-smaller
loop-end-smaller c =
    omega (arith, inside c.loop-end.invariant (sym c.in-Some.is ∙ c.find.ensures), ap length (past c.loop-end.rest.now c.in-Some.end), length-drop (c.in-Some.end + 1) c.loop-end.rest.now)

-- no LF is left
module _ {text : List ℕ} {width : ℕ} {old numbers : List ℤ} {rest : List ℕ} {line at : ℕ} (l : Walked text width old numbers rest line at) (f : None ≡ position (λ x. eqb x 10) rest) where
  last : rows_stored 0 old (rows_from width 2 (pieces 10 text)) ≡ rows_stored at numbers (after_last line rest)
  unfolding rows_from
  last = l.left ∙ ap (λ lines. rows_stored at numbers (rows_from width line lines)) (not_cut 10 rest f)

none_left : (at line : ℕ) (l : List ℤ) (rest : List ℕ) → length rest ≡ 0 → Numbers at l ≡ rows_stored at l (after_last line rest)
unfolding flatten
none_left at line l [] h = ap (λ n. Numbers n l) (sym (add-zero at))
none_left at line l (b ∷ rest) h = absurd (omega arith)

pub returns-then-is_empty : goal.returns-then-is_empty
returns-then-is_empty c =
    let l = c.loop-end in
    none_left l.at l.line l.numbers l.rest.now (grind arith) ∙ sym (last l.invariant (sym c.in_default.is ∙ c.find.ensures))

pub returns-else-is_empty : goal.returns-else-is_empty
returns-else-is_empty c =
    let l = c.loop-end in
    let some : 0 < length l.rest.now = grind arith in
    ap Nothing c.bad_line-else-is_empty.ensures ∙ sym (last l.invariant (sym c.in_default.is ∙ c.find.ensures) ∙ ap (rows_stored l.at l.numbers) (last_bad l.line l.rest.now some))
