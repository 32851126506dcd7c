-- The clip run on a comma text, and what is printed of it. The contracts of `clip_text` cite these.
use Rattle.std.specs.Prelude.{List, ℕ, replicate, pos, Err}
use Rattle.refusal.specs.declared.Kind.TheVariants.{BadText}
use Rattle.refusal.specs.Order.{refusal}
use Rattle.string_clip.specs.Run.{Lists, lists, Outcome, outcome, clip_outcome}
use Rattle.text.specs.Grammar.{Parsed, BadLine, Drawn}
use Rattle.text_forms.specs.declared.Form.TheVariants.{New}
use Rattle.text_forms.specs.Reading.{parsed_in}
use Rattle.clip_print.specs.Printed.{printed}

-- a bad line is refusal 1 and its place; else the run on the numbers decides
abbrev pub run_on : Parsed → Lists → Outcome
run_on (BadLine line) ls = outcome (Err (refusal BadText line)) ls
run_on (Drawn c numbers) ls = clip_outcome numbers c.rule c.invert c.boundary ls

-- 1 before all others: the text is read to its end first
unfoldable pub text_outcome : List ℕ → Lists → Outcome
text_outcome text ls = run_on (parsed_in New text) ls

-- what is printed for a text: 8,192 numbers and 2,048 lengths are enough for every drawing
unfoldable pub answer_to : List ℕ → List ℕ
answer_to text = printed (text_outcome text (lists (replicate 8192 (pos 0)) (replicate 2048 0)))
