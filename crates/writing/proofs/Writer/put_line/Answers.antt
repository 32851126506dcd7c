-- The numbers passed are put.
use mathlib.Core.Path.{◌≡◌, refl, sym, ap, ◌∙◌}
use mathlib.Core.List.{List, [], ◌∷◌, ◌++◌, map, append-nil}
use Prim.Native.Nat.{ℕ, ◌+◌, ◌-◌, ◌<◌, ◌≤◌}
use native.Mathlib.Numerals.{add-one}
use native.Mathlib.Omega.{arith}
use borrow.Author.Rules.{rules}
use lib.ListN.{length, get_or, take, drop, length-drop, drop_of_length-le}
use lib.Seq.{drop-cons, take_all}
use lib.IntN.{ℤ, pos}
use mir.Syntax.{w32}
use mir.Val.{SFits, to_z, of_z}
use Rattle.std.specs.Fmt.{signed_decimal}
use Rattle.std.proofs.lemmas.List.{get_or-drop}
use Rattle.decimal.specs.Decimal.{signed}
use Rattle.writing.specs.declared.Writer.{Writer}
use Rattle.writing.specs.Lines.{joined, line_of}
use Rattle.writing.specs.Puts.{Room, Appended}
use Rattle.writing.proofs.Puts.{signed_printed, then, as_well, Left, left_all, left_less, left_none, left_fits, line_rest, line_first}
use Rattle.writing.proofs.Writer.put_line.Goals as goal

-- ---- no number
empty : (row : List ℤ) → length row < 1 → (10 ∷ []) ≡ line_of (map signed row)
unfolding line_of joined
empty [] h = refl
empty (z ∷ row) h = absurd (omega arith)

pub put_byte-requires : goal.put_byte-requires
put_byte-requires c = omega (arith, ap length (empty c.args.row.now c.in_default.len_below))

pub returns-in_default : goal.returns-in_default
returns-in_default c = as_well c.put_byte.ensures (empty c.args.row.now c.in_default.len_below)

-- ---- the first number
line : (row : List ℤ) → 1 ≤ length row → line_of (map signed row) ≡ signed (get_or row 0 (pos 0)) ++ line_rest (map signed (drop 1 row))
line [] h = absurd (omega arith)
line (z ∷ row) h = line_first (signed z) (map signed row)

-- there is room for it and the others
room : (row : List ℤ) (w : Writer) → 1 ≤ length row → Room w (line_of (map signed row)) → Room w (signed (get_or row 0 (pos 0)))
room row w h r = left_fits (left_all (line_of (map signed row)) w) (signed (get_or row 0 (pos 0))) (line_rest (map signed (drop 1 row))) (line row h) r

pub put_number-requires : goal.put_number-requires
put_number-requires c =
    let row = c.args.row.now in
    let f : SFits w32 (get_or row 0 (pos 0)) = search rules in
    rw (signed_printed (get_or row 0 (pos 0)) f) (room row c.args.self.now c.in-len1-up.len_at_least c.requires)

-- the others have room then
module _ (row : List ℤ) (w : Writer) (h : 1 ≤ length row) (r : Room w (line_of (map signed row))) where
  first : {v : Writer} → Appended w (signed (get_or row 0 (pos 0))) v → Left (line_of (map signed row)) w (line_rest (map signed (drop 1 row))) v
  first p = left_less (left_all (line_of (map signed row)) w) (line row h) p

  room_for_rest : {v : Writer} → Appended w (signed (get_or row 0 (pos 0))) v → Room v (line_rest (map signed (drop 1 row)))
  room_for_rest p = left_fits (first p) (line_rest (map signed (drop 1 row))) [] (sym (append-nil (line_rest (map signed (drop 1 row))))) r

pub loop-z-init : goal.loop-z-init
loop-z-init c = left_all (line_rest (map signed (drop 1 c.args.row.now))) c.put_number.new.self

-- one more is left
next : (row : List ℤ) (i : ℕ) → i < length row → line_rest (map signed (drop i row)) ≡ (44 ∷ signed (get_or row i (pos 0))) ++ line_rest (map signed (drop (i + 1) row))
unfolding line_rest
next row i h = rw (add-one i, drop-cons row i (pos 0) h)

-- the number that the loop is at
at : (row : List ℤ) (i : ℕ) → get_or (take (length row - 1) (drop 1 row)) i (pos 0) ≡ get_or row (i + 1) (pos 0)
at row i =
    ap (λ (l : List ℤ). get_or l i (pos 0)) (take_all (length row - 1) (drop 1 row) (omega (arith, length-drop 1 row)))
    ∙ get_or-drop 1 row i (pos 0) ∙ ap (λ k. get_or row k (pos 0)) (omega arith)

fields : (row : List ℤ) (i : ℕ) → (let z = get_or (take (length row - 1) (drop 1 row)) i (pos 0) in SFits w32 z → 44 ∷ signed_decimal (to_z w32 (of_z w32 z)) ≡ 44 ∷ signed (get_or row (i + 1) (pos 0)))
fields row i f = ap (λ (s : List ℕ). 44 ∷ s) (signed_printed _ f ∙ ap signed (at row i))

pub put_next-requires : goal.put_next-requires
put_next-requires c =
    let row = c.args.row.now in
    let i = c.loop-z.z-index in
    let f : SFits w32 (get_or row 0 (pos 0)) = search rules in
    let g : SFits w32 (get_or (take (length row - 1) (drop 1 row)) i (pos 0)) = search rules in
    let p = as_well c.put_number.ensures (signed_printed (get_or row 0 (pos 0)) f) in
    let n = next row (i + 1) (omega (arith, c.loop-z-test.true, length-drop 1 row)) in
    let r = left_fits c.loop-z.invariant (44 ∷ signed (get_or row (i + 1) (pos 0))) (line_rest (map signed (drop (i + 1 + 1) row))) n (room_for_rest row c.args.self.now c.in-len1-up.len_at_least c.requires p) in
    omega (arith, r, ap length (fields row i g))

pub loop-z-preserved : goal.loop-z-preserved
loop-z-preserved c =
    let row = c.args.row.now in
    let i = c.loop-z.z-index in
    let g : SFits w32 (get_or (take (length row - 1) (drop 1 row)) i (pos 0)) = search rules in
    left_less c.loop-z.invariant (next row (i + 1) (omega (arith, c.loop-z-test.true, length-drop 1 row))) (as_well c.put_next.ensures (fields row i g))

-- none is left
end : (row : List ℤ) (i : ℕ) → length row ≤ i → line_rest (map signed (drop i row)) ≡ (10 ∷ []) ++ []
unfolding line_rest
end row i h = rw (drop_of_length-le row h)

pub put_byte-requires-2 : goal.put_byte-requires-2
put_byte-requires-2 c =
    let row = c.args.row.now in
    let f : SFits w32 (get_or row 0 (pos 0)) = search rules in
    let p = as_well c.put_number.ensures (signed_printed (get_or row 0 (pos 0)) f) in
    left_fits c.loop-z.invariant (10 ∷ []) [] (end row (c.loop-z.z-index + 1) (omega (arith, c.loop-z-test.false))) (room_for_rest row c.args.self.now c.in-len1-up.len_at_least c.requires p)

pub returns : goal.returns
returns c =
    let row = c.args.row.now in
    let f : SFits w32 (get_or row 0 (pos 0)) = search rules in
    let p = as_well c.put_number.ensures (signed_printed (get_or row 0 (pos 0)) f) in
    as_well (then p (left_none (left_less c.loop-z.invariant (end row (c.loop-z.z-index + 1) (omega (arith, c.loop-z-test.false))) c.put_byte-2.ensures) refl)) (sym (line row c.in-len1-up.len_at_least))
