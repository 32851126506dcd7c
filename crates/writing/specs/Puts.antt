-- Bytes put into a list. The contracts of `writing` cite these.
use Rattle.std.specs.Prelude.{◌≡◌, List, ℕ, ◌+◌, ◌≤◌, length}
use Rattle.std.proofs.lemmas.List.Edits.{sets}
use Rattle.writing.specs.declared.Writer.{Writer}

-- bytes s were put into a list from place `at` on, and `next` is the place after them
pub record Put (old : List ℕ) (at : ℕ) (s : List ℕ) (next : ℕ) (new : List ℕ) : Type 0 where
  pub list : new ≡ sets old at s
  pub place : next ≡ at + length s

-- a writer's list has room for bytes s from its place on
abbrev pub Room : Writer → List ℕ → Type 0
Room w s = w.at + length s ≤ length w.out.now

-- a writer put bytes s into the same list
pub record Appended (old : Writer) (s : List ℕ) (new : Writer) : Type 0 where
  pub same : new.out.ghost_name ≡ old.out.ghost_name
  pub put : Put old.out.now old.at s new.at new.out.now
  pub room : length new.out.now ≡ length old.out.now
