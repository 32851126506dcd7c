-- What is left decides.
use mathlib.Core.Path.{◌≡◌}
use Prim.Native.Nat.{◌-◌}
use Rattle.refusal.specs.Order.{first_from}
use Rattle.segm.specs.Segments.{segments}
use Rattle.text_forms.specs.declared.Form.TheVariants.{Old}
use Rattle.stored_text.specs.Outcome.{lot_at, lots_of}
use Rattle.stored_text.proofs.first_lot.Given as goal

abbrev pub invariant-loop-i : goal.invariant-loop-i
invariant-loop-i l = lots_of Old (segments l.numbers) ≡ first_from (lot_at Old (segments l.numbers)) (l.i-end - l.i) l.i
