-- The lines passed are counted.
use borrow.Author.Rules.{rules}
use mathlib.Core.Path.{◌≡◌, sym, ap}
use mathlib.Core.List.{List, ◌∷◌}
use Prim.Native.Nat.{ℕ, ◌+◌, ◌*◌, ◌≤◌, ◌<◌}
use native.Mathlib.Omega.{arith}
use lib.IntN.{ℤ}
use Rattle.text.specs.declared.Choices.{Choices}
use Rattle.text_forms.specs.declared.Form.{Form}
use lib.ListN.{length, take, drop}
use Rattle.lists.specs.Sums.{tally}
use Rattle.segm.specs.Segments.{Drawing, segments, segment_at, numbers_of}
use Rattle.segm.proofs.Segments.{count_past}
use Rattle.writing.specs.Lengths.{row_length, text_length}
use Rattle.writing.proofs.Lengths.{length_text}
use Rattle.text.specs.Writing.{choice_numbers}
use Rattle.text_forms.specs.Forms.{fields_of, row_of, writing}
use Rattle.text_forms.proofs.Rows.{rows, row_at, few_bytes, rows_more, rows_none}
use Rattle.text_forms.proofs.putting.text_length.Goals as goal

-- all lines together
abbrev all : Form → Choices → Drawing → ℕ
all form c d = row_length (choice_numbers c) + text_length (rows (fields_of form) d)

whole : (form : Form) (c : Choices) (d : Drawing) → all form c d ≡ length (writing form c d)
unfolding writing row_of text_length tally
whole form c d = sym (length_text (choice_numbers c ∷ rows (fields_of form) d))

few : (form : Form) (c : Choices) (d : Drawing) → length d ≤ 1024 → all form c d ≤ 1025 * 155
unfolding text_length tally
few form c d h = few_bytes form c d h

pub line_length-total-requires : goal.line_length-total-requires
line_length-total-requires c = omega (arith, ap row_length c.first_row.ensures.0, few c.args.form c.args.c (segments c.args.numbers.now) c.requires)

-- the first line was counted
begun : (form : Form) (c : Choices) (d : Drawing) {row : List ℤ} {k first : ℕ} → row ≡ choice_numbers c → k ≡ fields_of form → first ≡ row_length row → first + text_length (rows k d) ≡ all form c d
begun form c d r e q = omega (arith, q, ap row_length r, ap (λ n. text_length (rows n d)) e)

-- one line more
more : (k : ℕ) (d : Drawing) (i : ℕ) → i < length d → text_length (rows k (drop i d)) ≡ row_length (take k (numbers_of (segment_at d i))) + text_length (rows k (drop (i + 1) d))
unfolding text_length tally
more k d i h = ap (tally row_length) (rows_more k d i h)

pub overflow_mul-from : goal.overflow_mul-from
overflow_mul-from c = omega (arith, (row_at c.args.form c.args.numbers.now c.fields-k.ensures c.count-i-end.ensures c.loop-i-test.true).room)

pub overflow_add-from : goal.overflow_add-from
overflow_add-from c = let at = row_at c.args.form c.args.numbers.now c.fields-k.ensures c.count-i-end.ensures c.loop-i-test.true in omega (arith, at.room, at.few)

pub offset_bounds-numbers-from : goal.offset_bounds-numbers-from
offset_bounds-numbers-from c = let h = (row_at c.args.form c.args.numbers.now c.fields-k.ensures c.count-i-end.ensures c.loop-i-test.true).room in search rules

pub slice_bounds-line_length-end-in-loop-i : goal.slice_bounds-line_length-end-in-loop-i
slice_bounds-line_length-end-in-loop-i c = let at = row_at c.args.form c.args.numbers.now c.fields-k.ensures c.count-i-end.ensures c.loop-i-test.true in omega (arith, at.room, at.few)

pub line_length-total-requires-in-loop-i : goal.line_length-total-requires-in-loop-i
line_length-total-requires-in-loop-i c =
    let d = segments c.args.numbers.now in
    let at = row_at c.args.form c.args.numbers.now c.fields-k.ensures c.count-i-end.ensures c.loop-i-test.true in
    omega (arith, ap row_length at.is, more c.fields-k.result d c.loop-i.i at.inside, c.loop-i.invariant, begun c.args.form c.args.c d c.first_row.ensures.0 c.fields-k.ensures c.line_length-total.ensures, few c.args.form c.args.c d c.requires)

pub overflow_add-total : goal.overflow_add-total
overflow_add-total c =
    let d = segments c.args.numbers.now in
    let at = row_at c.args.form c.args.numbers.now c.fields-k.ensures c.count-i-end.ensures c.loop-i-test.true in
    omega (arith, c.line_length-total-in-loop-i.ensures, ap row_length at.is, more c.fields-k.result d c.loop-i.i at.inside, c.loop-i.invariant, begun c.args.form c.args.c d c.first_row.ensures.0 c.fields-k.ensures c.line_length-total.ensures, few c.args.form c.args.c d c.requires)

pub loop-i-preserved : goal.loop-i-preserved
loop-i-preserved c =
    let at = row_at c.args.form c.args.numbers.now c.fields-k.ensures c.count-i-end.ensures c.loop-i-test.true in
    omega (arith, c.loop-i.invariant, c.line_length-total-in-loop-i.ensures, ap row_length at.is, more c.fields-k.result (segments c.args.numbers.now) c.loop-i.i at.inside)

pub returns : goal.returns
unfolding text_length tally
returns c =
    let d = segments c.args.numbers.now in
    let none_left = ap (tally row_length) (rows_none c.fields-k.result d c.loop-i.i (count_past c.args.numbers.now c.count-i-end.ensures c.loop-i-test.false)) in
    omega (arith, c.loop-i.invariant, none_left, begun c.args.form c.args.c d c.first_row.ensures.0 c.fields-k.ensures c.line_length-total.ensures, whole c.args.form c.args.c d)
