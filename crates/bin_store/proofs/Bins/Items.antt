-- The memory by its items, and one item more.
use mathlib.Core.Path.{◌≡◌, refl, sym, ◌∙◌, ap, ap₂}
use mathlib.Core.List.{List, [], ◌∷◌, ◌++◌, map, map-append}
use mathlib.Core.Bool.{true, false}
use Prim.Native.Nat.{ℕ, zero, suc, ◌+◌, ◌<◌}
use native.Mathlib.Omega.{arith}
use native.Mathlib.Numerals.{add-one}
use lib.ListN.{length, get_or, length-map}
use lib.IntN.{ℤ}
use Rattle.geom.specs.declared.Point.{Point}
use Rattle.geom.specs.Points.{eq_p}
use Rattle.geom.proofs.Points.{eq_p-true}
use Rattle.lists.specs.UpFrom.{up_from}
use Rattle.lists.proofs.Entries.{get_d_map}
use Rattle.lists.proofs.UpFrom.{length_up_from, up_from-++, up_from_at}
use Rattle.contour.specs.Points.{origin}
use Rattle.bin_store.specs.Sightings.{Sighting, sighting, is_sighted, number_of}
use Rattle.bin_store.specs.Bins.{point_of, memory, Unseen}
use Rattle.bin_store.proofs.Sightings.{unsighted, sighted_at, number_at}

map_up_from : {A : Type 0} (f g : ℕ → A) (k n : ℕ) → ((i : ℕ) → i < k + n → f i ≡ g i) → map f (up_from k n) ≡ map g (up_from k n)
unfolding up_from
map_up_from f g k zero h = refl
map_up_from f g k (suc n) h = ap₂ ◌∷◌ (h k (omega arith)) (map_up_from f g (suc k) n (λ i l. h i (omega arith)))

-- past the last item
abbrev nobody : Sighting
nobody = sighting origin 0

module _ (count : ℕ) (seen : List ℤ) (numbers : List ℕ) where
  length-memory : length (memory count seen numbers) ≡ count
  unfolding memory
  length-memory = length-map (up_from 0 count) _ ∙ length_up_from 0 count

  memory-at : (i : ℕ) → i < count → get_or (memory count seen numbers) i nobody ≡ sighting (point_of seen i) (get_or numbers i 0)
  unfolding memory
  memory-at i h =
      let k : i < length (up_from 0 count) = omega (arith, length_up_from 0 count) in
      let e : get_or (up_from 0 count) i 0 ≡ i = omega (arith, up_from_at 0 count i h) in
      get_d_map (λ i. sighting (point_of seen i) (get_or numbers i 0)) (up_from 0 count) i 0 nobody k ∙ ap (λ i. sighting (point_of seen i) (get_or numbers i 0)) e

  point_at_lem : (i : ℕ) → i < count → (p : Point) → eq_p (get_or (memory count seen numbers) i nobody).point p ≡ eq_p (point_of seen i) p
  point_at_lem i h p = ap (λ (s : Sighting). eq_p s.point p) (memory-at i h)

  -- no item holds p
  pub not_there : (p : Point) → Unseen count seen p → is_sighted (memory count seen numbers) p ≡ false
  not_there p h = unsighted (memory count seen numbers) p nobody (λ i k. let l : i < count = omega (arith, length-memory) in point_at_lem i l p ∙ h i l)

  -- an item holds p
  module _ (i : ℕ) (h : i < count) (p : Point) (e : eq_p (point_of seen i) p ≡ true) where
    pub is_there : is_sighted (memory count seen numbers) p ≡ true
    is_there = sighted_at p nobody (memory count seen numbers) i (omega (arith, length-memory)) (point_at_lem i h p ∙ e)

    pub its_number : ((k j : ℕ) → k < j → j < count → eq_p (point_of seen k) (point_of seen j) ≡ false) → number_of (memory count seen numbers) p ≡ get_or numbers i 0
    its_number apart =
        number_at p nobody (memory count seen numbers) i (omega (arith, length-memory)) (point_at_lem i h p ∙ e)
        (λ k l. point_at_lem k (omega arith) p ∙ ap (eq_p (point_of seen k)) (sym (eq_p-true e)) ∙ apart k i l h)
        ∙ ap (λ (s : Sighting). s.number) (memory-at i h)

-- one item more, the others as they were
pub memory_more : (count : ℕ) (seen seen' : List ℤ) (numbers numbers' : List ℕ) → ((i : ℕ) → i < count → point_of seen' i ≡ point_of seen i) → ((i : ℕ) → i < count → get_or numbers' i 0 ≡ get_or numbers i 0)
    → memory (suc count) seen' numbers' ≡ memory count seen numbers ++ (sighting (point_of seen' count) (get_or numbers' count 0) ∷ [])
unfolding memory up_from
memory_more count seen seen' numbers numbers' same_points same_numbers =
    let f : ℕ → Sighting = λ i. sighting (point_of seen' i) (get_or numbers' i 0) in
    let zero-add : 0 + count ≡ count = omega arith in
    ap (λ n. map f (up_from 0 n)) (sym (add-one count)) ∙ ap (map f) (up_from-++ 0 count 1) ∙ map-append f (up_from 0 count) (up_from (0 + count) 1)
    ∙ ap₂ ◌++◌ (map_up_from f (λ i. sighting (point_of seen i) (get_or numbers i 0)) 0 count (λ i h. ap₂ sighting (same_points i (omega arith)) (same_numbers i (omega arith)))) (ap (λ i. f i ∷ []) zero-add)

-- no items
pub none_sighted : (seen : List ℤ) (numbers : List ℕ) → memory 0 seen numbers ≡ []
unfolding memory up_from
none_sighted seen numbers = refl
