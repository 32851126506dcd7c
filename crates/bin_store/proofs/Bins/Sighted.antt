-- What a sighting tells, and what the memory holds then: of a point that an item holds, and of one that is stored.
use mathlib.Core.Path.{◌≡◌, sym, ◌∙◌, ap}
use mathlib.Core.List.{List, [], ◌∷◌, ◌++◌}
use mathlib.Core.Bool.{true, false}
use Prim.Native.Nat.{ℕ, ◌<◌}
use lib.ListN.{get_or}
use lib.IntN.{ℤ}
use Rattle.geom.specs.declared.Point.{Point}
use Rattle.geom.specs.Points.{eq_p}
use Rattle.bin_store.specs.Sightings.{Sighting, sighting, is_sighted, number_of, sight}
use Rattle.bin_store.specs.Bins.{point_of, memory, Unseen}
use Rattle.bin_store.proofs.Bins.Items.{not_there, is_there, its_number}
use Rattle.bin_store.proofs.Sightings.{sight_again, sight-first, number_first, number_own}

module _ (count : ℕ) (seen : List ℤ) (numbers : List ℕ) (p : Point) (number : ℕ) where
  abbrev m : List Sighting
  m = memory count seen numbers

  pub told_again : (i : ℕ) → i < count → eq_p (point_of seen i) p ≡ true → ((k j : ℕ) → k < j → j < count → eq_p (point_of seen k) (point_of seen j) ≡ false)
      → (m ≡ sight m p number) × (get_or numbers i 0 ≡ number_of m p)
  told_again i h e apart = (sight_again m p number (is_there count seen numbers i h p e), sym (its_number count seen numbers i h p e apart))

  pub told_first : (m' : List Sighting) → Unseen count seen p → m' ≡ m ++ (sighting p number ∷ []) → (m' ≡ sight m p number) × (number ≡ number_of m' p)
  told_first m' unseen more =
      let new : is_sighted m p ≡ false = not_there count seen numbers p unseen in
      (more ∙ sym (sight-first m p number new), sym (ap (λ (l : List Sighting). number_of l p) more ∙ number_first m p (sighting p number ∷ []) new ∙ number_own p number))
