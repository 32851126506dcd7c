use Rattle.segm.specs.Segments.{segments}
use Rattle.drawing_check.specs.Drawing.{meeting_at}
use Rattle.drawing_check.proofs.find_pair.Given as goal

abbrev pub ghost-find_first : goal.ghost-find_first
ghost-find_first a = meeting_at (segments a.wrong_at.0.now)
