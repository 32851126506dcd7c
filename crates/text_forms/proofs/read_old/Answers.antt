-- The reading decides, and its numbers get their lots.
use mathlib.Core.Path.{◌≡◌, sym, ap, ◌∙◌}
use mathlib.Core.List.{List}
use Prim.Native.Nat.{ℕ, ◌*◌, ◌/◌, ◌≤◌}
use native.Mathlib.Omega.{arith}
use lib.ListN.{length, take}
use lib.Seq.{length-take-le}
use lib.IntN.{ℤ}
use Rattle.std.specs.Prelude.{Result, Ok}
use Rattle.std.proofs.lemmas.Result.{err_from_is_err_and}
use Rattle.refusal.specs.declared.Refusal.{Refusal}
use Rattle.segm.specs.Segments.{width}
use Rattle.text.specs.declared.Reading.{Reading}
use Rattle.text.specs.Grammar.{parsed}
use Rattle.text.specs.Storing.{Outcome, outcome, reading, read_outcome}
use Rattle.text.proofs.Storing.{read_held}
use Rattle.text_forms.specs.declared.Form.TheVariants.{Old}
use Rattle.text_forms.specs.Reading.{parsed_in, drawn_into}
use Rattle.text_forms.proofs.Old.{length_old}
use Rattle.text_forms.proofs.Reading.{lines_in, told, told_by, told-ok, old_read, old_read_lem}
use Rattle.text_forms.proofs.read_old.Goals as goal

-- what was read
module _ (text : List ℕ) (old stored numbers : List ℤ) {a : Result Reading Refusal} (q : outcome a stored ≡ read_outcome 6 text old) where
  by-reading : {r : Result Reading Refusal} → length old ≡ 1024 * 6 → told a ≡ r → old_read numbers r stored ≡ drawn_into numbers (parsed_in Old text)
  unfolding read_outcome parsed_in
  by-reading n e =
      ap (λ (r : Result Reading Refusal). old_read numbers r stored) (sym e)
      ∙ ap (λ (o : Outcome). old_read numbers (told o.answer) o.list) q
      ∙ old_read_lem numbers (parsed 6 text) old (lines_in 6 text) n

  -- so many numbers stand in the list
  held : {m : Result Reading Refusal} (r : Reading) → m ≡ told a → m ≡ Ok r → r.count ≤ length stored
  unfolding read_outcome
  held r t e = read_held old (parsed 6 text) (ap (λ (r : Result Reading Refusal). outcome r stored) (sym (told-ok a r (sym t ∙ e))) ∙ q)

pub slice_bounds-add_lots-end : goal.slice_bounds-add_lots-end
slice_bounds-add_lots-end c = held c.args.text.now c.args.old.now c.read.new.numbers c.args.numbers.now c.read.ensures c.in_ok-reading.reading (told_by c.read.result c.map_err.result c.map_err.ensures.cases) c.in_ok-reading.was

pub slice_bounds-add_lots-end-2 : goal.slice_bounds-add_lots-end-2
slice_bounds-add_lots-end-2 c = sym (length-take-le _ _ (held c.args.text.now c.args.old.now c.read.new.numbers c.args.numbers.now c.read.ensures c.in_ok-reading.reading (told_by c.read.result c.map_err.result c.map_err.ensures.cases) c.in_ok-reading.was))

pub add_lots-requires : goal.add_lots-requires
add_lots-requires c =
    let n = c.in_ok-reading.reading.count in
    let stored = c.read.new.numbers in
    let few = held c.args.text.now c.args.old.now c.read.new.numbers c.args.numbers.now c.read.ensures c.in_ok-reading.reading (told_by c.read.result c.map_err.result c.map_err.ensures.cases) c.in_ok-reading.was in
    omega (arith, length_old (take n stored), length-take-le n stored few, few, c.read.auto.numbers, c.requires.0, c.requires.1)

pub overflow_mul-result : goal.overflow_mul-result
overflow_mul-result c = omega (arith, held c.args.text.now c.args.old.now c.read.new.numbers c.args.numbers.now c.read.ensures c.in_ok-reading.reading (told_by c.read.result c.map_err.result c.map_err.ensures.cases) c.in_ok-reading.was, c.read.auto.numbers, c.requires.0)

pub returns : goal.returns
returns c =
    ap (outcome (Ok (reading c.in_ok-reading.reading.choices (c.in_ok-reading.reading.count / 6 * width)))) c.add_lots.ensures
    ∙ by-reading c.args.text.now c.args.old.now c.read.new.numbers c.args.numbers.now c.read.ensures c.requires.0 (sym (told_by c.read.result c.map_err.result c.map_err.ensures.cases) ∙ c.in_ok-reading.was)

pub returns-in_err-reading : goal.returns-in_err-reading
returns-in_err-reading c =
    let e = err_from_is_err_and c.from_residual.result c.from_residual.ensures.1 in
    rw (e.1, e.2) (by-reading c.args.text.now c.args.old.now c.read.new.numbers c.args.numbers.now c.read.ensures c.requires.0 (sym (told_by c.read.result c.map_err.result c.map_err.ensures.cases) ∙ c.in_err-reading.was))
