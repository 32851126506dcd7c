-- There is room or not.
use mathlib.Core.Path.{◌≡◌, refl, sym, ap, ap₂, ◌∙◌}
use mathlib.Core.Bool.{Bool}
use mathlib.Core.List.{List}
use Prim.Native.Nat.{ℕ}
use lib.ListN.{length}
use Rattle.std.specs.Prelude.{Ok}
use Rattle.refusal.specs.Asked.{lent, too_short}
use Rattle.segm.specs.Segments.{segments}
use Rattle.text.proofs.Storing.{long_enough}
use Rattle.writing.proofs.Puts.{put_whole}
use Rattle.text_forms.specs.Forms.{writing}
use Rattle.stored_text.specs.Outcome.{outcome}
use Rattle.stored_text.proofs.Written.{writes, no_room}
use Rattle.stored_text.proofs.write_text.Goals as goal

-- whether it is too short for as many bytes as were counted
counted : (text old : List ℕ) {n : ℕ} {b c : Bool} → n ≡ length text → b ≡ too_short n (lent (length old) 1) → b ≡ c → too_short (length text) (lent (length old) 1) ≡ c
counted text old n s b = ap (λ k. too_short k (lent (length old) 1)) (sym n) ∙ sym s ∙ b

pub returns-then-is_short : goal.returns-then-is_short
returns-then-is_short c =
    let text = writing c.args.form c.args.c (segments c.args.numbers.now) in
    let old = c.args.out.now in
    no_room text old (counted text old c.text_length.ensures c.is_short.ensures c.if-is_short.true)

pub put_text-requires : goal.put_text-requires
put_text-requires c =
    let text = writing c.args.form c.args.c (segments c.args.numbers.now) in
    let old = c.args.out.now in
    long_enough (length text) (length old) (counted text old c.text_length.ensures c.is_short.ensures c.if-is_short.false)

pub returns : goal.returns
returns c =
    let text = writing c.args.form c.args.c (segments c.args.numbers.now) in
    let old = c.args.out.now in
    let room = long_enough (length text) (length old) (counted text old c.text_length.ensures c.is_short.ensures c.if-is_short.false) in
    let w = put_whole c.put_text.ensures room in
    ap₂ (λ (n : ℕ) (l : List ℕ). outcome (Ok n) l) w.0 w.1 ∙ sym (writes text old refl room)
