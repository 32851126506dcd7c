-- Lists that are written to.
use Rattle.std.specs.Prelude.{List, ◌++◌, length, drop}

module _ {A : Type 0} where
  -- a lent list once an answer was written to its front: entries past the answer keep their old values
  unfoldable pub written : List A → List A → List A
  written answer old = answer ++ drop (length answer) old
