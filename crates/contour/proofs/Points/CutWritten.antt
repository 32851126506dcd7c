-- Paths that were written one after another are read back.
use mathlib.Core.Path.{◌≡◌, refl, sym, ◌∙◌, ap}
use mathlib.Core.List.{List, [], ◌∷◌, ◌++◌, map, flatten, append_assoc}
use Prim.Native.Nat.{ℕ, ◌+◌}
use lib.ListN.{length, length-append}
use lib.Seq.{take-append_seam, drop-append_seam}
use Rattle.geom.specs.declared.Point.{Point}
use Rattle.lists.specs.Sums.{tally}
use Rattle.contour.specs.Points.{cut}

pub cut_written : (paths : List (List Point)) (ns : List ℕ) (r : List Point) → cut (length paths) (map length paths ++ ns) (flatten paths ++ r) ≡ paths
unfolding cut flatten
cut_written [] ns r = refl
cut_written (p ∷ paths) ns r = rw (append_assoc p (flatten paths) r, take-append_seam p (flatten paths ++ r), drop-append_seam p (flatten paths ++ r), cut_written paths ns r)

-- their lengths add up
pub tally_lengths : {A : Type 0} (paths : List (List A)) → tally (λ n. n) (map length paths) ≡ length (flatten paths)
unfolding tally flatten
tally_lengths [] = refl
tally_lengths (l ∷ paths) = ap (length l +◌) (tally_lengths paths) ∙ sym (length-append l (flatten paths))
