-- The entries passed have their side bits left.
use Rattle.std.proofs.Common.{◌≡◌, ◌%◌, map, take}
use Rattle.lists.specs.Written.{written}
use Rattle.string_slice.proofs.walks.keep_sides.Given as goal

abbrev pub invariant-loop-f : goal.invariant-loop-f
invariant-loop-f l = l.fills ≡ written (map (λ f. f % 4) (take l.f-index l.initial.fills)) l.initial.fills
