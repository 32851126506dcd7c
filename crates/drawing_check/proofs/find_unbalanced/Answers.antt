-- 9 at the place found, if there is one.
use Rattle.std.proofs.Common.{sym, ap, ◌∙◌}
use Rattle.segm.specs.Segments.{segments}
use Rattle.drawing_check.proofs.Drawing.{nine_at, first_nine}
use Rattle.drawing_check.proofs.find_unbalanced.Goals as goal

pub returns-in-Some : goal.returns-in-Some
returns-in-Some c = sym (first_nine (segments c.args.s.now) ∙ ap nine_at (sym c.in-Some.ensures))

pub returns-in-None : goal.returns-in-None
returns-in-None c = sym (first_nine (segments c.args.s.now) ∙ ap nine_at (sym c.in-None.ensures))
