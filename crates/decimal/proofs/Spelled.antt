-- Texts as they are read, for worked cases.
use mathlib.Core.List.{List}
use mathlib.Core.List.{[] as none, ◌∷◌ as cons}
use Prim.Native.Char.{code}
use Prim.Native.Nat.{ℕ}
use Prim.Native.String.{String, [], ◌∷◌}

abbrev pub bytes : String → List ℕ
bytes [] = none
bytes (c ∷ s) = cons (code c) (bytes s)
