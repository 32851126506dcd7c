-- What is printed for a text that is moved. The contracts of `move_print` cite these.
use Rattle.std.specs.Prelude.{List, ℕ, replicate, Result, Ok, Err}
use Rattle.refusal.specs.declared.Refusal.{Refusal}
use Rattle.refusal.specs.Numbers.{number_of}
use Rattle.writing.specs.Lines.{refused_line}
use Rattle.text.specs.Grammar.{most_bytes}
use Rattle.text_forms.specs.declared.Form.{Form}
use Rattle.stored_text.specs.Outcome.{Outcome, move_outcome}
use Rattle.stored_text.specs.Laws.{bytes_of}

-- the bytes that were written, or the line of the refusal
abbrev pub printed_of : Result ℕ Refusal → List ℕ → List ℕ
printed_of (Ok count) bytes = bytes
printed_of (Err e) bytes = refused_line (number_of e.kind) e.place

-- the same of an outcome
unfoldable pub printed : Outcome → List ℕ
printed o = printed_of o.answer (bytes_of o)

-- 65,536 bytes are enough for every text
unfoldable pub answer_to : (from to : Form) → List ℕ → List ℕ
answer_to from to text = printed (move_outcome from to text (replicate most_bytes 0))
