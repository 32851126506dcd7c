-- Bytes put into a list, one run after another.
use mathlib.Core.Path.{◌≡◌, refl, sym, ap, ◌∙◌}
use mathlib.Core.List.{List, [], ◌∷◌, ◌++◌, append_assoc, append-nil}
use Prim.Native.Nat.{ℕ, suc, ◌+◌, ◌^◌, ◌<◌, ◌≤◌}
use native.Mathlib.Nat.{zero-add}
use native.Mathlib.Omega.{arith}
use borrow.Rule.Slice.PartMut.{put_mid}
use lib.ListN.{length, take, drop, set, length-append}
use lib.Seq.{take_all, take-length, set_comm, sets}
use Rattle.std.proofs.lemmas.List.Edits.{sets-eq}
use Rattle.std.proofs.lemmas.Slice.{put_mid-paste}
use lib.IntN.{ℤ}
use mir.Syntax.{w32}
use mir.Val.{SFits, to_z, of_z}
use mir.Facts.{to_z-of_z}
use Rattle.std.specs.Fmt as std
use Rattle.decimal.specs.Decimal.{decimal, signed}
use Rattle.decimal.proofs.Printed.{printed, printed_signed}
use Rattle.lists.specs.Written.{written}
use Rattle.lists.proofs.Written.{sets_append, sets_front}
use Rattle.writing.specs.declared.Writer.{Writer}
use Rattle.writing.specs.Lines.{joined, line_of}
use Rattle.writing.specs.Puts.{Put, Room, Appended}

module _ {a b : Writer} {s : List ℕ} (p : Appended a s b) where
  pub then : {c : Writer} {t : List ℕ} → Appended b t c → Appended a (s ++ t) c
  then {t = t} q = record {
    same = q.same ∙ p.same;
    put = record {
      list = q.put.list ∙ rw (p.put.list, p.put.place) (sym (sets_append a.out.now a.at s t));
      place = omega (arith, p.put.place, q.put.place, length-append s t);
    };
    room = q.room ∙ p.room;
  }

  -- the same bytes
  pub as_well : {t : List ℕ} → s ≡ t → Appended a t b
  as_well e = rw e at p

-- a part of a list overwritten
pub overwritten : (l : List ℕ) (i k : ℕ) (s new : List ℕ) → new ≡ s → k ≡ length s → i + length s ≤ length l → put_mid i k l new ≡ sets l i s
overwritten l i k s new e n h =
    put_mid-paste i k l new s (length s) e (sym n) refl
    ∙ ap (λ (t : List ℕ). take i l ++ t ++ drop (i + length s) l) (take-length s)
    ∙ sym (sets-eq s l i h)

-- one byte more, before them
set_before : (l : List ℕ) (i j x : ℕ) (s : List ℕ) → i < j → set (sets l j s) i x ≡ sets (set l i x) j s
set_before l i j x [] h = refl
set_before l i j x (y ∷ s) h = set_before (set l j y) i (suc j) x s (omega arith) ∙ ap (λ (k : List ℕ). sets k (suc j) s) (set_comm l j i y x (omega arith))

pub put_before : {a b : List ℕ} {i k : ℕ} {s : List ℕ} (x : ℕ) → Put a (suc i) s k b → Put a i (x ∷ s) k (set b i x)
put_before {a = a} {i = i} {s = s} x p = record {
  list = ap (λ (l : List ℕ). set l i x) p.list ∙ set_before a i (suc i) x s (omega arith);
  place = omega (arith, p.place);
}

-- what stands at the front of a list that has room
pub put_whole : {old s new : List ℕ} {r : ℕ} → Put old 0 s r new → length s ≤ length old → (r ≡ length s) × (new ≡ written s old)
put_whole {old = old} {s = s} p h =
    (p.place ∙ zero-add (length s), p.list ∙ sets_front s old ∙ ap (λ (l : List ℕ). written l old) (take_all (length old) s h))

-- ---- a whole of which a rest is left to put
pub record Left (whole : List ℕ) (old : Writer) (rest : List ℕ) (new : Writer) : Type 0 where
  pub done : List ℕ
  pub put : Appended old done new
  pub both : done ++ rest ≡ whole

pub left_all : (whole : List ℕ) (w : Writer) → Left whole w whole w
left_all whole w = record { done = []; put = record { same = refl; put = record { list = refl; place = omega arith }; room = refl }; both = refl }

module _ {whole : List ℕ} {a b : Writer} {rest : List ℕ} (l : Left whole a rest b) where
  pub left_less : {c : Writer} {s less : List ℕ} → rest ≡ s ++ less → Appended b s c → Left whole a less c
  left_less {s = s} {less} e q = record {
    done = l.done ++ s;
    put = then l.put q;
    both = append_assoc l.done s less ∙ ap (λ (r : List ℕ). l.done ++ r) (sym e) ∙ l.both;
  }

  pub left_none : rest ≡ [] → Appended a whole b
  left_none e = as_well l.put (sym (append-nil l.done) ∙ ap (λ (r : List ℕ). l.done ++ r) (sym e) ∙ l.both)

  -- there is room for what comes next
  pub left_fits : (s less : List ℕ) → rest ≡ s ++ less → Room a whole → Room b s
  left_fits s less e h =
      omega (arith, l.put.room, l.put.put.place, ap length l.both, length-append l.done rest, ap length e, length-append s less, h)

-- ---- lines
-- after a field: each further one behind its comma, then LF
unfoldable pub line_rest : List (List ℕ) → List ℕ
line_rest [] = 10 ∷ []
line_rest (f ∷ fields) = (44 ∷ f) ++ line_rest fields

pub line_first : (f : List ℕ) (fields : List (List ℕ)) → line_of (f ∷ fields) ≡ f ++ line_rest fields
unfolding line_of joined line_rest
line_first f [] = refl
line_first f (g ∷ fields) = append_assoc f (44 ∷ joined 44 (g ∷ fields)) (10 ∷ []) ∙ ap (λ (l : List ℕ). f ++ 44 ∷ l) (line_first g fields)

-- ---- numbers, as they are printed
pub signed_printed : (z : ℤ) → SFits w32 z → std.signed_decimal (to_z w32 (of_z w32 z)) ≡ signed z
signed_printed z f = ap std.signed_decimal (to_z-of_z f) ∙ printed_signed z (omega (arith, f.sfits))

-- after a comma
pub next_printed : (n : ℕ) → n < 2 ^ 64 → 44 ∷ std.decimal n ≡ 44 ∷ decimal n
next_printed n h = ap (λ (s : List ℕ). 44 ∷ s) (printed n h)

pub next_signed_printed : (z : ℤ) → SFits w32 z → 44 ∷ std.signed_decimal (to_z w32 (of_z w32 z)) ≡ 44 ∷ signed z
next_signed_printed z f = ap (λ (s : List ℕ). 44 ∷ s) (signed_printed z f)
