-- There are as many places as segments.
use Rattle.std.proofs.Common.{ap, sym, ◌∙◌}
use Rattle.refusal.specs.Order.{first}
use Rattle.segm.specs.Segments.{segments}
use Rattle.segm.proofs.Segments.{length-segments}
use Rattle.faults.specs.Faults.{fault_at, faults_of}
use Rattle.faults.proofs.find_fault.Goals as goal

pub returns : goal.returns
unfolding faults_of
returns c = let s = c.args.s.now in c.find_first.ensures ∙ ap (first (fault_at (segments s))) (c.count.ensures ∙ sym (length-segments s))
