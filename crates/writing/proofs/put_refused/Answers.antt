-- Field by field, then LF.
use mathlib.Core.Path.{◌≡◌, refl, ap}
use mathlib.Core.List.{[], ◌∷◌}
use Prim.Native.Nat.{ℕ, ◌+◌, ◌<◌, ◌^◌}
use native.Mathlib.Omega.{arith}
use borrow.Author.Rules.{rules}
use lib.ListN.{length}
use Rattle.lists.specs.Sums.{tally}
use Rattle.std.specs.Fmt as std
use Rattle.decimal.specs.Decimal.{decimal}
use Rattle.writing.specs.Lengths.{line_length}
use Rattle.writing.proofs.Lengths.{length-line}
use Rattle.writing.proofs.Puts.{next_printed, as_well, left_all, left_less, left_none, line_rest, line_first}
use Rattle.writing.specs.Puts.{Put}
use Rattle.writing.specs.Lines.{refused_word, refused_line}
use Rattle.writing.proofs.put_refused.Goals as goal

-- the word, its numbers, two commas and LF
sizes : (n place : ℕ) → length (refused_line n place) ≡ 10 + length (decimal n) + length (decimal place)
unfolding refused_line line_length tally
sizes n place = omega (arith, length-line (refused_word ∷ decimal n ∷ decimal place ∷ []))

pub put_bytes-requires : goal.put_bytes-requires
put_bytes-requires c = omega (arith, sizes c.args.number c.args.place, ap length c.new-line.ensures.list, c.requires)

-- its number, as it is printed
first : (n : ℕ) → n < 2 ^ 32 → 44 ∷ std.decimal n ≡ 44 ∷ decimal n
first n h = next_printed n (omega arith)

pub put_next-requires : goal.put_next-requires
put_next-requires c =
    let b : c.args.number < 2 ^ 32 = search rules in
    omega (arith, sizes c.args.number c.args.place, ap length c.new-line.ensures.list, c.requires, ap length (first c.args.number b))

pub put_next-requires-2 : goal.put_next-requires-2
put_next-requires-2 c =
    let a : c.args.number < 2 ^ 32 = search rules in
    let b : c.args.place < 2 ^ 64 = search rules in
    omega (arith, sizes c.args.number c.args.place, ap length c.new-line.ensures.list, c.requires, ap length (first c.args.number a), ap length (next_printed c.args.place b))

pub put_byte-requires : goal.put_byte-requires
put_byte-requires c =
    let a : c.args.number < 2 ^ 32 = search rules in
    let b : c.args.place < 2 ^ 64 = search rules in
    omega (arith, sizes c.args.number c.args.place, ap length c.new-line.ensures.list, c.requires, ap length (first c.args.number a), ap length (next_printed c.args.place b))

pub returns : goal.returns
unfolding refused_line line_rest
returns c =
    let number = c.args.number in
    let place = c.args.place in
    let a : number < 2 ^ 32 = search rules in
    let b : place < 2 ^ 64 = search rules in
    let word = left_less (left_all (refused_line number place) c.new-line.result) (line_first refused_word (decimal number ∷ decimal place ∷ [])) c.put_bytes.ensures in
    let numbers = left_less (left_less word refl (as_well c.put_next.ensures (first number a))) refl (as_well c.put_next-2.ensures (next_printed place b)) in
    let all : Put c.args.out.now 0 (refused_line number place) c.put_byte.new.self.at c.put_byte.new.self.out.now = rw (c.new-line.ensures.list, c.new-line.ensures.front) at (left_none (left_less numbers refl c.put_byte.ensures) refl).put in
    record { list = search (rules, all.list); place = all.place }
