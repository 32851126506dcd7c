-- The two tests are the definition's.
use borrow.Author.Rules.{rules}
use Rattle.refusal.specs.Asked.{wrong_length}
use Rattle.refusal.proofs.is_wrong_length.Goals as goal

pub returns : goal.returns
unfolding wrong_length
returns c = search rules
