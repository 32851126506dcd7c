-- There are as many places as segments.
use Rattle.std.proofs.Common.{ap, sym, ◌∙◌}
use Rattle.refusal.specs.Order.{first}
use Rattle.segm.specs.Segments.{segments}
use Rattle.segm.proofs.Segments.{length-segments}
use Rattle.drawing_check.specs.Drawing.{meeting_at, meetings_of}
use Rattle.drawing_check.proofs.find_pair.Goals as goal

pub returns : goal.returns
unfolding meetings_of
returns c = let s = c.args.s.now in c.find_first.ensures ∙ ap (first (meeting_at (segments s))) (c.count.ensures ∙ sym (length-segments s))
