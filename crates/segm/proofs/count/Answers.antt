use borrow.Author.Rules.{rules}
use Rattle.segm.specs.Segments.{count}
use Rattle.segm.proofs.count.Goals as goal

pub returns : goal.returns
unfolding count
returns c = search rules
