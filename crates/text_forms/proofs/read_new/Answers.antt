-- The reading decides.
use mathlib.Core.Path.{◌≡◌, ap, ◌∙◌}
use mathlib.Core.List.{List}
use Prim.Native.Nat.{ℕ, ◌*◌}
use lib.ListN.{length}
use lib.IntN.{ℤ}
use Rattle.std.specs.Prelude.{Result}
use Rattle.refusal.specs.declared.Refusal.{Refusal}
use Rattle.segm.specs.Segments.{width}
use Rattle.text.specs.declared.Reading.{Reading}
use Rattle.text.specs.Grammar.{parsed}
use Rattle.text.specs.Storing.{Outcome, outcome, read_outcome}
use Rattle.text_forms.specs.declared.Form.TheVariants.{New}
use Rattle.text_forms.specs.Reading.{parsed_in, drawn_into}
use Rattle.text_forms.proofs.Reading.{lines_in, told, told_by, new_read_lem}
use Rattle.text_forms.proofs.read_new.Goals as goal

-- what was read
by-reading : (text : List ℕ) (old stored : List ℤ) {a : Result Reading Refusal} → outcome a stored ≡ read_outcome width text old → length old ≡ 1024 * width → outcome (told a) stored ≡ drawn_into old (parsed_in New text)
unfolding read_outcome parsed_in
by-reading text old stored q n = ap (λ (o : Outcome). outcome (told o.answer) o.list) q ∙ new_read_lem (parsed width text) old (lines_in width text) n

pub returns : goal.returns
returns c =
    ap (λ (r : Result Reading Refusal). outcome r c.read.new.numbers) (told_by c.read.result c.map_err.result c.map_err.ensures.cases)
    ∙ by-reading c.args.text.now c.args.numbers.now c.read.new.numbers c.read.ensures c.requires
