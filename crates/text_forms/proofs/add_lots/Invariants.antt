-- The segments passed are written.
use mathlib.Core.Path.{◌≡◌}
use Prim.Native.Nat.{◌≤◌}
use lib.ListN.{length, take}
use Rattle.lists.specs.Written.{written}
use Rattle.segm.specs.Segments.{laid}
use Rattle.text_forms.specs.Reading.{old_segments}
use Rattle.text_forms.proofs.add_lots.Given as goal

abbrev pub invariant-loop-i : goal.invariant-loop-i
invariant-loop-i l = (l.numbers ≡ written (laid (take l.i (old_segments l.old))) l.initial.numbers) × (l.i ≤ length (old_segments l.old))
