-- Field by field, then LF.
use mathlib.Core.Path.{◌≡◌, refl, ap}
use mathlib.Core.List.{List, [], ◌∷◌}
use Prim.Native.Nat.{ℕ, ◌+◌}
use native.Mathlib.Omega.{arith}
use borrow.Author.Rules.{rules}
use lib.ListN.{length}
use mir.Syntax.{w32}
use mir.Val.{SFits}
use Rattle.lists.specs.Sums.{tally}
use Rattle.geom.specs.declared.Point.{Point}
use Rattle.decimal.specs.Decimal.{decimal, signed}
use Rattle.decimal.proofs.Printed.{printed}
use Rattle.writing.specs.Lengths.{line_length}
use Rattle.writing.proofs.Lengths.{length-line}
use Rattle.writing.proofs.Puts.{next_printed, next_signed_printed, as_well, left_all, left_less, left_none, line_rest, line_first}
use Rattle.clip_print.specs.Printed.{point_line}
use Rattle.clip_print.proofs.put_point.Goals as goal

-- the fields, three commas and LF
sizes : (path point : ℕ) (p : Point) → length (point_line path point p) ≡ 4 + length (decimal path) + length (decimal point) + length (signed p.x) + length (signed p.y)
unfolding point_line line_length tally
sizes path point p = omega (arith, length-line (decimal path ∷ decimal point ∷ signed p.x ∷ signed p.y ∷ []))

pub put_number-requires : goal.put_number-requires
put_number-requires c = omega (arith, sizes c.args.path c.args.point c.args.p, ap length (printed c.args.path (omega arith)))

pub put_next-requires : goal.put_next-requires
put_next-requires c = omega (arith, sizes c.args.path c.args.point c.args.p, ap length (printed c.args.path (omega arith)), ap length (next_printed c.args.point (omega arith)))

pub put_next-requires-2 : goal.put_next-requires-2
put_next-requires-2 c =
    let x : SFits w32 c.args.p.x = search rules in
    omega (arith, sizes c.args.path c.args.point c.args.p, ap length (printed c.args.path (omega arith)), ap length (next_printed c.args.point (omega arith)), ap length (next_signed_printed c.args.p.x x))

pub put_next-requires-3 : goal.put_next-requires-3
put_next-requires-3 c =
    let x : SFits w32 c.args.p.x = search rules in
    let y : SFits w32 c.args.p.y = search rules in
    omega (arith, sizes c.args.path c.args.point c.args.p, ap length (printed c.args.path (omega arith)), ap length (next_printed c.args.point (omega arith)), ap length (next_signed_printed c.args.p.x x), ap length (next_signed_printed c.args.p.y y))

pub put_byte-requires : goal.put_byte-requires
put_byte-requires c =
    let x : SFits w32 c.args.p.x = search rules in
    let y : SFits w32 c.args.p.y = search rules in
    omega (arith, sizes c.args.path c.args.point c.args.p, ap length (printed c.args.path (omega arith)), ap length (next_printed c.args.point (omega arith)), ap length (next_signed_printed c.args.p.x x), ap length (next_signed_printed c.args.p.y y))

pub returns : goal.returns
unfolding point_line line_rest
returns c =
    let p = c.args.p in
    let x : SFits w32 c.args.p.x = search rules in
    let y : SFits w32 c.args.p.y = search rules in
    let others : List (List ℕ) = decimal c.args.point ∷ signed p.x ∷ signed p.y ∷ [] in
    let path = left_less (left_all (point_line c.args.path c.args.point p) c.args.lines.now) (line_first (decimal c.args.path) others) (as_well c.put_number.ensures (printed c.args.path (omega arith))) in
    let point = left_less path refl (as_well c.put_next.ensures (next_printed c.args.point (omega arith))) in
    let both = left_less (left_less point refl (as_well c.put_next-2.ensures (next_signed_printed p.x x))) refl (as_well c.put_next-3.ensures (next_signed_printed p.y y)) in
    left_none (left_less both refl c.put_byte.ensures) refl
