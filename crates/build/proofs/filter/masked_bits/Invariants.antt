-- What is written so far are the line bits of the segments passed, each by its own fill.
use mathlib.Core.Path.{◌≡◌}
use mathlib.Core.List.{map}
use Prim.Native.Nat.{ℕ}
use lib.ListN.{take}
use lib.IntN.{nat_abs}
use Rattle.segm.specs.declared.Segment.{Segment}
use Rattle.lists.specs.Written.{written}
use Rattle.segm.specs.Segments.{Drawing, segments}
use Rattle.fill_rule.specs.declared.Rule.{Rule}
use Rattle.ray.specs.Ray.{fill}
use Rattle.build.specs.declared.filter.Filter.{Filter}
use Rattle.build.specs.Links.{keeps, lines_if}
use Rattle.build.proofs.filter.masked_bits.Given as goal

-- a segment, without its line bits if it is not kept, and those that it has then
abbrev pub mask : Rule → Filter → Drawing → Segment → Segment
mask rule filter d s = lines_if (keeps filter (fill rule d s)) s

abbrev pub lines : Rule → Filter → Drawing → Segment → ℕ
lines rule filter d s = nat_abs (mask rule filter d s).bits

abbrev pub invariant-loop-i : goal.invariant-loop-i
invariant-loop-i l = l.bits ≡ written (map (lines l.rule l.filter (segments l.s)) (take l.i (segments l.s))) l.initial.bits
