-- The lines passed are put.
use borrow.Author.Rules.{rules}
use mathlib.Core.Path.{◌≡◌, refl, sym, ap}
use mathlib.Core.List.{List, ◌++◌, flatten}
use Prim.Native.Nat.{ℕ, ◌+◌, ◌≤◌, ◌<◌}
use native.Mathlib.Omega.{arith}
use Rattle.text.specs.declared.Choices.{Choices}
use Rattle.text_forms.specs.declared.Form.{Form}
use lib.ListN.{length, take, drop, length-append}
use lib.IntN.{ℤ}
use Rattle.segm.specs.Segments.{Drawing, segments, segment_at, numbers_of}
use Rattle.segm.proofs.Segments.{count_past}
use Rattle.writing.specs.Lines.{text_of}
use Rattle.writing.specs.declared.Writer.{Writer}
use Rattle.writing.specs.Puts.{Put, Room, Appended}
use Rattle.writing.proofs.Puts.{then, as_well, left_less, left_none, left_fits}
use Rattle.text.specs.Writing.{choice_numbers}
use Rattle.text_forms.specs.Forms.{fields_of, row_of, writing}
use Rattle.text_forms.proofs.Rows.{rows, row_at, rows_more, rows_none}
use Rattle.text_forms.proofs.putting.put_text.Invariants.{line}
use Rattle.text_forms.proofs.putting.put_text.Goals as goal

-- the whole text
abbrev others : Form → Drawing → List ℕ
others form d = text_of (rows (fields_of form) d)

whole : (form : Form) (c : Choices) (d : Drawing) → writing form c d ≡ line (choice_numbers c) ++ others form d
unfolding writing row_of text_of flatten
whole form c d = refl

-- there is room for its first line, and then for the others
module _ (form : Form) (c : Choices) (d : Drawing) (w : Writer) (h : Room w (writing form c d)) where
  room : {row : List ℤ} → row ≡ choice_numbers c → Room w (line row)
  room r = omega (arith, ap length (whole form c d), length-append (line (choice_numbers c)) (others form d), ap (λ (l : List ℤ). length (line l)) r, h)

  fits : {k : ℕ} {row : List ℤ} {v : Writer} → k ≡ fields_of form → row ≡ choice_numbers c → Appended w (line row) v → Room v (text_of (rows k d))
  fits e r p = omega (arith, p.put.place, p.room, ap length (whole form c d), length-append (line (choice_numbers c)) (others form d), ap (λ (l : List ℤ). length (line l)) r, ap (λ k. length (text_of (rows k d))) e, h)

-- at the front of the list
front : (w : Writer) {out : List ℕ} (s : List ℕ) → w.out.now ≡ out → w.at ≡ 0 → length s ≤ length out → Room w s
front w s e z h = omega (arith, ap length e, z, h)

pub put_line-requires : goal.put_line-requires
put_line-requires c =
    let d = segments c.args.numbers.now in
    room c.args.form c.args.c d c.new-text.result (front c.new-text.result (writing c.args.form c.args.c d) c.new-text.ensures.list c.new-text.ensures.front c.requires) c.first_row.ensures.0

-- one line more
left : (k : ℕ) (d : Drawing) (i : ℕ) → i < length d → text_of (rows k (drop i d)) ≡ line (take k (numbers_of (segment_at d i))) ++ text_of (rows k (drop (i + 1) d))
unfolding text_of flatten
left k d i h = ap text_of (rows_more k d i h)

pub overflow_mul-from : goal.overflow_mul-from
overflow_mul-from c = omega (arith, (row_at c.args.form c.args.numbers.now c.fields-k.ensures c.count-i-end.ensures c.loop-i-test.true).room)

pub overflow_add-from : goal.overflow_add-from
overflow_add-from c = let at = row_at c.args.form c.args.numbers.now c.fields-k.ensures c.count-i-end.ensures c.loop-i-test.true in omega (arith, at.room, at.few)

pub offset_bounds-numbers-from : goal.offset_bounds-numbers-from
offset_bounds-numbers-from c = let h = (row_at c.args.form c.args.numbers.now c.fields-k.ensures c.count-i-end.ensures c.loop-i-test.true).room in search rules

pub slice_bounds-put_line-end-in-loop-i : goal.slice_bounds-put_line-end-in-loop-i
slice_bounds-put_line-end-in-loop-i c = let at = row_at c.args.form c.args.numbers.now c.fields-k.ensures c.count-i-end.ensures c.loop-i-test.true in omega (arith, at.room, at.few)

pub put_line-requires-in-loop-i : goal.put_line-requires-in-loop-i
put_line-requires-in-loop-i c =
    let d = segments c.args.numbers.now in
    let k = c.fields-k.result in
    let i = c.loop-i.i in
    let at = row_at c.args.form c.args.numbers.now c.fields-k.ensures c.count-i-end.ensures c.loop-i-test.true in
    let all = front c.new-text.result (writing c.args.form c.args.c d) c.new-text.ensures.list c.new-text.ensures.front c.requires in
    omega (arith, left_fits c.loop-i.invariant (line (take k (numbers_of (segment_at d i)))) (text_of (rows k (drop (i + 1) d))) (left k d i at.inside) (fits c.args.form c.args.c d c.new-text.result all c.fields-k.ensures c.first_row.ensures.0 c.put_line.ensures), ap (λ (r : List ℤ). length (line r)) at.is)

pub loop-i-preserved : goal.loop-i-preserved
loop-i-preserved c =
    let at = row_at c.args.form c.args.numbers.now c.fields-k.ensures c.count-i-end.ensures c.loop-i-test.true in
    left_less c.loop-i.invariant (left c.fields-k.result (segments c.args.numbers.now) c.loop-i.i at.inside) (as_well c.put_line-in-loop-i.ensures (ap line at.is))

-- all lines are put
pub returns : goal.returns
unfolding text_of flatten
returns c =
    let form = c.args.form in
    let d = segments c.args.numbers.now in
    let k = c.fields-k.result in
    let none_left = ap text_of (rows_none k d c.loop-i.i (count_past c.args.numbers.now c.count-i-end.ensures c.loop-i-test.false)) in
    let first = as_well c.put_line.ensures (ap line c.first_row.ensures.0) in
    let others = as_well (left_none c.loop-i.invariant none_left) (ap (λ n. text_of (rows n d)) c.fields-k.ensures) in
    let p : Put c.args.out.now 0 (writing form c.args.c d) c.loop-i.text.at c.loop-i.text.out.now = rw (c.new-text.ensures.list, c.new-text.ensures.front) at (as_well (then first others) (sym (whole form c.args.c d))).put in
    record { list = search (rules, p.list); place = p.place }
