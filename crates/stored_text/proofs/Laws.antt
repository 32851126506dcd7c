-- The laws of texts that are written and moved.
use mathlib.Core.Path.{◌≡◌, refl, sym, ap, ap₂, subst, ◌∙◌}
use mathlib.Core.Bool.{true, true≢false}
use mathlib.Core.List.{List}
use Prim.Native.Nat.{ℕ, ◌*◌, ◌≤◌}
use native.Mathlib.Omega.{arith}
use Rattle.std.specs.Prelude.{Ok}
use borrow.Author.Tests.{le-ltb}
use lib.ListN.{length}
use lib.IntN.{ℤ}
use Rattle.integers.proofs.Booleans.{same_test}
use Rattle.lists.specs.Written.{written}
use Rattle.refusal.specs.Order.{accepted, is_accepted, ◌then◌}
use Rattle.refusal.specs.Asked.{too_short}
use Rattle.refusal.proofs.Order.{accepted_then, is_accepted_lem}
use Rattle.refusal.proofs.Asked.{whole_entries}
use Rattle.segm.specs.Segments.{Drawing, width, segments, laid}
use Rattle.segm.proofs.Segments.Laid.{laid-segments}
use Rattle.checks.specs.Accepted.{accepts}
use Rattle.checks.proofs.Runs.{passed}
use Rattle.text.specs.declared.Choices.{Choices}
use Rattle.text.specs.Grammar.{Parsed, BadLine, Drawn, most_bytes, parsed}
use Rattle.text.specs.Storing as reading
use Rattle.text.specs.Storing.{choices_in, numbers_in}
use Rattle.text.proofs.Storing.StoredRows.{differ}
use Rattle.text_forms.specs.declared.Form.{Form}
use Rattle.text_forms.specs.declared.Form.TheVariants.{New}
use Rattle.text_forms.specs.Forms.{writing}
use Rattle.text_forms.specs.Reading.{with_all, parsed_in}
use Rattle.text_forms.proofs.Forms.{Kept, Held, reads, held, one_text, holds_in}
use Rattle.stored_text.specs.Outcome.{outcome, input_verdict, lots_of, write_outcome, moved_into, move_outcome}
use Rattle.stored_text.specs.Laws.{bytes_of, accepts_parsed, accepts_text, ReadsBack, ReadAgain, OnlyText, ThereAndBack, MovedSame, AcceptedAlike, AcceptedMoves}
use Rattle.stored_text.proofs.Written.{writes, was_written, bytes_written}
use Rattle.stored_text.proofs.Lots.{lots_kept, kept_lots}
use Rattle.stored_text.proofs.Accepted.{accepted_fits, accepted_text}

-- ---- a text that is accepted
record Good (form : Form) (text : List ℕ) (c : Choices) (numbers : List ℤ) : Type 0 where
  parsed : parsed_in form text ≡ Drawn c numbers
  accepted : input_verdict c numbers ≡ accepted

module _ {form : Form} {text : List ℕ} {c : Choices} {numbers : List ℤ} (g : Good form text c numbers) where
  abbrev d : Drawing
  d = segments numbers

  holds : Held form text c numbers
  holds = held form text c numbers g.parsed

  laid_accepted : accepts (laid d) c.rule c.invert c.boundary ≡ true
  unfolding accepts
  laid_accepted = ap (λ (l : List ℤ). is_accepted (input_verdict c l)) (sym holds.laid_out) ∙ ap is_accepted g.accepted

  -- in another form that has room for its lots
  moved_parsed : (to : Form) → Kept to d → parsed_in to (writing to c d) ≡ Drawn c numbers
  moved_parsed to k = accepted_text c d laid_accepted to k ∙ ap (Drawn c) (sym holds.laid_out)

  moved_fits : (to : Form) → length (writing to c d) ≤ most_bytes
  moved_fits to = accepted_fits c d laid_accepted to

accepts-verdict : (form : Form) (text : List ℕ) {c : Choices} {numbers : List ℤ} → parsed_in form text ≡ Drawn c numbers → accepts_text form text ≡ is_accepted (input_verdict c numbers)
unfolding accepts_text
accepts-verdict form text q = ap accepts_parsed q

good_accepts : {form : Form} {text : List ℕ} {c : Choices} {numbers : List ℤ} → Good form text c numbers → accepts_text form text ≡ true
good_accepts {form} {text} g = accepts-verdict form text g.parsed ∙ ap is_accepted g.accepted

record Found (form : Form) (text : List ℕ) : Type 0 where
  choices : Choices
  numbers : List ℤ
  good : Good form text choices numbers

accepts_good : (form : Form) (text : List ℕ) → accepts_text form text ≡ true → Found form text
unfolding accepts_text
accepts_good form text e = go (parsed_in form text) refl e
  where
    go : (p : Parsed) → parsed_in form text ≡ p → accepts_parsed p ≡ true → Found form text
    go (BadLine line) q a = absurd (true≢false (sym a))
    go (Drawn c numbers) q a = record { choices = c; numbers = numbers; good = record { parsed = q; accepted = is_accepted_lem (input_verdict c numbers) a } }

-- it is not too long
pub accepted_short : (form : Form) (text : List ℕ) → accepts_text form text ≡ true → length text ≤ most_bytes
accepted_short form text e = let f = accepts_good form text e in (holds f.good).holds.few

-- ---- what was moved
record Moved (from to : Form) (text old : List ℕ) : Type 0 where
  choices : Choices
  numbers : List ℤ
  good : Good from text choices numbers
  lots : lots_of to (segments numbers) ≡ accepted
  bytes : bytes_of (move_outcome from to text old) ≡ writing to choices (segments numbers)

was_moved : (from to : Form) (text old : List ℕ) {n : ℕ} → (move_outcome from to text old).answer ≡ Ok n → Moved from to text old
unfolding move_outcome
was_moved from to text old {n} e = go (parsed_in from text) refl e
  where
    go : (p : Parsed) → parsed_in from text ≡ p → (moved_into to old p).answer ≡ Ok n → Moved from to text old
    go (BadLine line) q a = let w = was_written _ _ old a in absurd (differ (cc))
    go (Drawn c numbers) q a =
        let w = was_written (input_verdict c numbers then lots_of to (segments numbers)) (writing to c (segments numbers)) old a in
        let both = accepted_then (input_verdict c numbers) (lots_of to (segments numbers)) w.accepted in
        record {
          choices = c;
          numbers = numbers;
          good = record { parsed = q; accepted = both.0 };
          lots = both.1;
          bytes = ap (λ (p : Parsed). bytes_of (moved_into to old p)) q ∙ bytes_written w;
        }

good_moves : (to : Form) (old : List ℕ) {from : Form} {text : List ℕ} {c : Choices} {numbers : List ℤ} → Good from text c numbers → lots_of to (segments numbers) ≡ accepted
    → length (writing to c (segments numbers)) ≤ length old → move_outcome from to text old ≡ outcome (Ok (length (writing to c (segments numbers)))) (written (writing to c (segments numbers)) old)
unfolding move_outcome
good_moves to old {from} {text} {c} {numbers} g k h =
    ap (moved_into to old) g.parsed ∙ writes (writing to c (segments numbers)) old (ap₂ ◌then◌ g.accepted k) h

-- ---- the laws
whole-laid : (c : Choices) (numbers : List ℤ) → input_verdict c numbers ≡ accepted → laid (segments numbers) ≡ numbers
whole-laid c numbers e = laid-segments numbers (whole_entries width 1024 (length numbers) (passed _ e).asks.right_length)

pub reads_back : ReadsBack
unfolding write_outcome accepts
reads_back numbers c old n e =
    let w = was_written (input_verdict c numbers) (writing New c (segments numbers)) old e in
    let is = whole-laid c numbers w.accepted in
    let good = ap (λ (l : List ℤ). is_accepted (input_verdict c l)) is ∙ ap is_accepted w.accepted in
    ap (parsed_in New) (bytes_written w) ∙ accepted_text c (segments numbers) good New (λ s m. refl) ∙ ap (Drawn c) is

-- the reader reads the new form
new_parsed : (p : Parsed) → with_all New p ≡ p
new_parsed (BadLine line) = refl
new_parsed (Drawn c numbers) = refl

read_whole : (c : Choices) (numbers list : List ℤ) → length numbers ≤ length list → reading.read_into list (Drawn c numbers) ≡ reading.outcome (Ok (reading.reading c (length numbers))) (written numbers list)
unfolding reading.read_verdict too_short
read_whole c numbers list h = rw (le-ltb (length list) (1 * length numbers) (omega (arith, h)))

pub read_again : ReadAgain
unfolding reading.read_outcome parsed_in
read_again numbers c old n list e room =
    let t = bytes_of (write_outcome numbers c old) in
    ap (reading.read_into list) (sym (new_parsed (parsed width t)) ∙ reads_back numbers c old n e) ∙ read_whole c numbers list room

pub only_text : (form : Form) → OnlyText form
only_text form s t e q =
    let f = accepts_good form s e in
    one_text form s t f.choices f.numbers f.good.parsed (sym q ∙ f.good.parsed)

module _ (from to : Form) where
  pub there_and_back_lem : ThereAndBack from to
  there_and_back_lem text old back n e room =
      let m = was_moved from to text old e in
      let g = m.good in
      let is : writing from m.choices (segments m.numbers) ≡ text = sym (holds g).holds.is in
      let there : Good to (writing to m.choices (segments m.numbers)) m.choices m.numbers = record { parsed = moved_parsed g to (lots_kept to (segments m.numbers) m.lots); accepted = g.accepted } in
      let kept = kept_lots from (segments m.numbers) (holds g).holds.kept in
      ap (λ (t : List ℕ). move_outcome to from t back) m.bytes
      ∙ good_moves from back there kept (omega (arith, ap length is, room))
      ∙ ap (λ (t : List ℕ). outcome (Ok (length t)) (written t back)) is

  pub moved_same : MovedSame from to
  moved_same text old n e =
      let m = was_moved from to text old e in
      let parsed = ap (parsed_in to) m.bytes ∙ moved_parsed m.good to (lots_kept to (segments m.numbers) m.lots) in
      (parsed ∙ sym m.good.parsed, good_accepts m.good, good_accepts (record { parsed = parsed; accepted = m.good.accepted }))

  pub accepted_moves : AcceptedMoves from to
  accepted_moves text old e k =
      let f = accepts_good from text e in
      let g = f.good in
      let is = ap (λ (p : Parsed). writing to (choices_in p) (segments (numbers_in p))) (sym g.parsed) in
      let lots = ap (λ (p : Parsed). lots_of to (segments (numbers_in p))) (sym g.parsed) ∙ k in (
        subst (λ (t : List ℕ). length t ≤ most_bytes) is (moved_fits g to),
        subst (λ (t : List ℕ). length t ≤ length old → move_outcome from to text old ≡ outcome (Ok (length t)) (written t old)) is (good_moves to old g lots),
      )

  pub accepted_alike : AcceptedAlike from to
  accepted_alike text c numbers q k = same_test (accepts_text to moved) (accepts_text from text) back there
    where
      moved : List ℕ
      moved = writing to c (segments numbers)

      kept : Kept to (segments numbers)
      kept = lots_kept to (segments numbers) k

      there : accepts_text from text ≡ true → accepts_text to moved ≡ true
      there e =
          let g : Good from text c numbers = record { parsed = q; accepted = is_accepted_lem (input_verdict c numbers) (sym (accepts-verdict from text q) ∙ e) } in
          accepts-verdict to moved (moved_parsed g to kept) ∙ ap is_accepted g.accepted

      back : accepts_text to moved ≡ true → accepts_text from text ≡ true
      back e =
          let f = accepts_good to moved e in
          let few = (held to moved f.choices f.numbers f.good.parsed).holds.few in
          let h = held from text c numbers q in
          let same = reads (holds_in to h.holds kept few) ∙ ap (Drawn c) (sym h.laid_out) in
          accepts-verdict from text q ∙ sym (accepts-verdict to moved same) ∙ e
