-- What is left of the line decides.
use mathlib.Core.Path.{◌≡◌, sym, ap, ◌∙◌}
use mathlib.Core.List.{List, ◌∷◌}
use Prim.Native.Nat.{ℕ, ◌+◌, ◌-◌, ◌<◌, ◌^◌}
use native.Mathlib.Nat.{add-zero}
use native.Mathlib.Omega.{arith}
use lib.Dec.{eqb}
use lib.ListN.{length, take, set, length-drop}
use lib.IntN.{ℤ, pos, negsuc}
use lib.Signed.{mag}
use mir.Syntax.{w32}
use mir.Val.{to_z, of_z, hbits}
use Rattle.integers.proofs.Machine.{read}
use Rattle.std.specs.Prelude.{Option, Some, None, position}
use Rattle.std.specs.Option.{unwrap_or}
use Rattle.decimal.specs.Decimal.{field_of, NineDigits}
use Rattle.decimal.proofs.Decimal.{signed_field}
use Rattle.text.specs.Grammar.{pieces, row}
use Rattle.text.specs.Storing.{row_stored}
use Rattle.text.proofs.Grammar.Finding.{after, cut, cut_at, past}
use Rattle.text.proofs.Storing.StoredRows.{field_stored, field_bad, all_stored, row_full}
use Rattle.text.proofs.lines.read_line.Invariants.{Lined}
use Rattle.text.proofs.lines.read_line.Goals as goal

pub loop-i-init : goal.loop-i-init
loop-i-init c =
    let e : c.args.k - 0 ≡ c.args.k = omega arith in
    record { behind = omega arith; left = rw (e, add-zero c.args.at) }

-- a number of nine digits at most is read back as it is
small : (z : ℤ) → NineDigits z → mag z < 2 ^ hbits w32
small (pos n) h = omega arith
small (negsuc n) h = omega arith

whole : (t : List ℕ) (z : ℤ) → field_of t ≡ Some z → to_z w32 (of_z w32 z) ≡ z
whole t z e = read w32 z (small z (signed_field t z e).small)

-- what is left once the first field is cut off
module _ {s : List ℕ} {k at : ℕ} {old numbers : List ℤ} {rest : List ℕ} {i : ℕ} (l : Lined s k at old numbers rest i) {o : Option ℕ} (e : o ≡ position (λ x. eqb x 44) rest) {n : ℕ} (u : n ≡ unwrap_or o (length rest)) where
  cut_off : row_stored at old (row k (pieces 44 s)) ≡ row_stored (at + i) numbers (row (k - i) (take n rest ∷ after 44 rest o))
  cut_off = l.left ∙ ap (λ fields. row_stored (at + i) numbers (row (k - i) fields)) (cut 44 rest o e ∙ ap (λ n. take n rest ∷ after 44 rest o) (sym u))

  -- it is no number
  bad : i < k → field_of (take n rest) ≡ None → None ≡ row_stored at old (row k (pieces 44 s))
  bad h m = sym (cut_off ∙ ap (row_stored (at + i) numbers) (field_bad k i (take n rest) (after 44 rest o) h m))

  -- it is a number, and stored
  stored : (z : ℤ) (new : List ℤ) → i < k → field_of (take n rest) ≡ Some z → new ≡ set numbers (at + i) (to_z w32 (of_z w32 z))
      → row_stored at old (row k (pieces 44 s)) ≡ row_stored (at + (i + 1)) new (row (k - (i + 1)) (after 44 rest o))
  stored z new h m q =
      cut_off ∙ field_stored k i at numbers (take n rest) (after 44 rest o) z h m
      ∙ ap (λ l. row_stored (at + (i + 1)) l (row (k - (i + 1)) (after 44 rest o))) (ap (set numbers (at + i)) (sym (whole (take n rest) z m)) ∙ sym q)

pub returns-in_default : goal.returns-in_default
returns-in_default c = bad c.loop-i.invariant c.find-comma.ensures c.unwrap_or.ensures c.loop-i-test.true (sym c.number.ensures ∙ c.in_default.is)

pub returns-in_default-comma : goal.returns-in_default-comma
returns-in_default-comma c =
    let i = c.loop-i.i + 1 in
    all_stored c.args.k i (c.args.at + i) c.store.new.numbers (omega arith)
    ∙ sym (stored c.loop-i.invariant c.find-comma.ensures c.unwrap_or.ensures c.in-Some.z c.store.new.numbers c.loop-i-test.true (sym c.number.ensures ∙ c.in-Some.is) c.store.ensures ∙ ap (λ o. row_stored (c.args.at + i) c.store.new.numbers (row (c.args.k - i) (after 44 c.loop-i.rest.now o))) c.in_default-comma.is)

pub loop-i-preserved : goal.loop-i-preserved
loop-i-preserved c =
    let rest = c.loop-i.rest.now in
    let end = c.in-Some-comma.end in
    let i = c.loop-i.i + 1 in
    let inside = (cut_at 44 rest end (sym c.in-Some-comma.is ∙ c.find-comma.ensures)).0 in
    record {
      behind = omega (arith, inside, ap length (past rest end), length-drop (end + 1) rest);
      left =
          stored c.loop-i.invariant c.find-comma.ensures c.unwrap_or.ensures c.in-Some.z c.store.new.numbers c.loop-i-test.true (sym c.number.ensures ∙ c.in-Some.is) c.store.ensures
          ∙ ap (λ o. row_stored (c.args.at + i) c.store.new.numbers (row (c.args.k - i) (after 44 rest o))) c.in-Some-comma.is
          ∙ ap (λ (t : List ℕ). row_stored (c.args.at + i) c.store.new.numbers (row (c.args.k - i) (pieces 44 t))) (sym (past rest end));
    }

pub returns : goal.returns
returns c =
    let e : c.args.k - c.loop-i.i ≡ 0 = omega (arith, c.loop-i-test.false) in
    sym (c.loop-i.invariant.left ∙ rw (e, row_full c.loop-i.rest.now))
