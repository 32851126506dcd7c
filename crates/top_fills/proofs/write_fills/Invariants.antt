-- What is written so far are the fills of the segments passed.
use Rattle.std.proofs.Common.{◌≡◌, map, take}
use Rattle.lists.specs.Written.{written}
use Rattle.segm.specs.Segments.{segments}
use Rattle.ray.specs.Ray.{fill}
use Rattle.top_fills.proofs.write_fills.Given as goal

abbrev pub invariant-loop-i : goal.invariant-loop-i
invariant-loop-i l = l.out ≡ written (map (fill l.rule (segments l.s)) (take l.i (segments l.s))) l.initial.out
