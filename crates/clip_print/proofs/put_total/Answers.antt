-- Field by field, then LF.
use mathlib.Core.Path.{◌≡◌, refl, ap}
use mathlib.Core.List.{List, [], ◌∷◌}
use Prim.Native.Nat.{ℕ, ◌+◌, ◌^◌, ◌<◌}
use native.Mathlib.Omega.{arith}
use borrow.Author.Rules.{rules}
use lib.ListN.{length}
use Rattle.lists.specs.Sums.{tally}
use Rattle.decimal.specs.Decimal.{decimal}
use Rattle.writing.specs.Lengths.{line_length}
use Rattle.writing.proofs.Lengths.{length-line}
use Rattle.writing.proofs.Puts.{next_printed, as_well, left_all, left_less, left_none, line_rest, line_first}
use Rattle.clip_paths.specs.declared.Totals.{Totals}
use Rattle.clip_print.specs.Printed.{total_word, total_line}
use Rattle.clip_print.proofs.put_total.Goals as goal

abbrev numbers : Totals → List (List ℕ)
numbers t = decimal t.paths ∷ decimal t.points ∷ decimal t.steps ∷ decimal t.travel ∷ []

-- the fields, four commas and LF
sizes : (t : Totals) → length (total_line t) ≡ 10 + length (decimal t.paths) + length (decimal t.points) + length (decimal t.steps) + length (decimal t.travel)
unfolding total_line line_length tally
sizes t = omega (arith, length-line (total_word ∷ numbers t))

pub put_bytes-requires : goal.put_bytes-requires
put_bytes-requires c = omega (arith, sizes c.args.t)

pub put_next-requires : goal.put_next-requires
put_next-requires c =
    let paths : c.args.t.paths < 2 ^ 64 = search rules in
    omega (arith, sizes c.args.t, ap length (next_printed c.args.t.paths paths))

pub put_next-requires-2 : goal.put_next-requires-2
put_next-requires-2 c =
    let paths : c.args.t.paths < 2 ^ 64 = search rules in
    let points : c.args.t.points < 2 ^ 64 = search rules in
    omega (arith, sizes c.args.t, ap length (next_printed c.args.t.paths paths), ap length (next_printed c.args.t.points points))

pub put_next-requires-3 : goal.put_next-requires-3
put_next-requires-3 c =
    let paths : c.args.t.paths < 2 ^ 64 = search rules in
    let points : c.args.t.points < 2 ^ 64 = search rules in
    let steps : c.args.t.steps < 2 ^ 64 = search rules in
    omega (arith, sizes c.args.t, ap length (next_printed c.args.t.paths paths), ap length (next_printed c.args.t.points points), ap length (next_printed c.args.t.steps steps))

pub put_next-requires-4 : goal.put_next-requires-4
put_next-requires-4 c =
    let paths : c.args.t.paths < 2 ^ 64 = search rules in
    let points : c.args.t.points < 2 ^ 64 = search rules in
    let steps : c.args.t.steps < 2 ^ 64 = search rules in
    let travel : c.args.t.travel < 2 ^ 64 = search rules in
    omega (arith, sizes c.args.t, ap length (next_printed c.args.t.paths paths), ap length (next_printed c.args.t.points points), ap length (next_printed c.args.t.steps steps), ap length (next_printed c.args.t.travel travel))

pub put_byte-requires : goal.put_byte-requires
put_byte-requires c =
    let paths : c.args.t.paths < 2 ^ 64 = search rules in
    let points : c.args.t.points < 2 ^ 64 = search rules in
    let steps : c.args.t.steps < 2 ^ 64 = search rules in
    let travel : c.args.t.travel < 2 ^ 64 = search rules in
    omega (arith, sizes c.args.t, ap length (next_printed c.args.t.paths paths), ap length (next_printed c.args.t.points points), ap length (next_printed c.args.t.steps steps), ap length (next_printed c.args.t.travel travel))

pub returns : goal.returns
unfolding total_line line_rest
returns c =
    let t = c.args.t in
    let paths : c.args.t.paths < 2 ^ 64 = search rules in
    let points : c.args.t.points < 2 ^ 64 = search rules in
    let steps : c.args.t.steps < 2 ^ 64 = search rules in
    let travel : c.args.t.travel < 2 ^ 64 = search rules in
    let word = left_less (left_all (total_line t) c.args.lines.now) (line_first total_word (numbers t)) c.put_bytes.ensures in
    let two = left_less (left_less word refl (as_well c.put_next.ensures (next_printed t.paths paths))) refl (as_well c.put_next-2.ensures (next_printed t.points points)) in
    let four = left_less (left_less two refl (as_well c.put_next-3.ensures (next_printed t.steps steps))) refl (as_well c.put_next-4.ensures (next_printed t.travel travel)) in
    left_none (left_less four refl c.put_byte.ensures) refl
