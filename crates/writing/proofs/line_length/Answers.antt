-- The numbers passed are counted, each with the byte after it.
use mathlib.Core.Path.{◌≡◌, refl, sym, ap, ◌∙◌}
use Prim.Native.Nat.{ℕ, suc, ◌+◌, ◌^◌, ◌<◌}
use native.Mathlib.Omega.{arith}
use lib.ListN.{length, get_or, take}
use lib.Seq.{take_all}
use lib.IntN.{ℤ, pos}
use mir.Syntax.{w32}
use mir.Val.{SFits}
use mir.Facts.{to_z-of_z}
use borrow.Author.Rules.{rules}
use Rattle.lists.specs.Sums.{tally}
use Rattle.lists.proofs.Sums.{tally_take, tally_part}
use Rattle.writing.specs.Lengths.{signed_length}
use Rattle.writing.proofs.Lengths.{no_numbers, row_tally}
use Rattle.writing.proofs.line_length.Goals as goal

pub returns-then-is_empty : goal.returns-then-is_empty
returns-then-is_empty c = no_numbers c.args.row.now (grind arith)

pub loop-z-init : goal.loop-z-init
unfolding tally
loop-z-init c = refl

-- one number more
module _ (c : goal.After-signed_length) where
  abbrev with_byte : ℤ → ℕ
  with_byte z = suc (signed_length z)

  counted : c.loop-z.n + (c.signed_length.result + 1) ≡ tally with_byte (take (c.loop-z.z-index + 1) c.args.row.now)
  counted =
      let row = c.args.row.now in
      let i = c.loop-z.z-index in
      let f : SFits w32 (get_or row i (pos 0)) = search rules in
      omega (arith, c.loop-z.invariant, c.signed_length.ensures ∙ ap signed_length (to_z-of_z f), tally_take with_byte row (pos 0) i c.loop-z-test.true)

  fits : c.loop-z.n + (c.signed_length.result + 1) < 2 ^ 64
  fits =
      let row = c.args.row.now in
      let some : 0 < length row = omega arith in
      omega (arith, counted, tally_part with_byte row (c.loop-z.z-index + 1), row_tally row some, c.requires)

pub overflow_add-n : goal.overflow_add-n
overflow_add-n c = omega (arith, fits c)

pub overflow_add-n-in-loop-z : goal.overflow_add-n-in-loop-z
overflow_add-n-in-loop-z c = omega (arith, fits c)

pub loop-z-preserved : goal.loop-z-preserved
loop-z-preserved c = counted c

pub returns : goal.returns
returns c =
    let row = c.args.row.now in
    let some : 0 < length row = grind arith in
    c.loop-z.invariant ∙ ap (tally (λ z. suc (signed_length z))) (take_all c.loop-z.z-index row c.loop-z-test.false) ∙ sym (row_tally row some)
