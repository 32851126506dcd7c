-- What `store` leaves: one item more.
use mathlib.Core.Path.{◌≡◌, ◌∙◌, ap, ap₂}
use mathlib.Core.List.{List, [], ◌∷◌, ◌++◌}
use Prim.Native.Nat.{ℕ, ◌+◌, ◌*◌, ◌<◌}
use native.Mathlib.Omega.{arith}
use native.Mathlib.Numerals.{add-one}
use lib.ListN.{length, get_or, set, length-set}
use lib.Seq.{get_or-set_same, get_or-set_other}
use lib.IntN.{ℤ}
use Rattle.geom.specs.declared.Point.{Point}
use Rattle.contour.specs.Points.{pair_up, origin}
use Rattle.contour.proofs.Points.Coordinates.{length_pairs, pairs_set}
use Rattle.bin_store.specs.Sightings.{Sighting, sighting}
use Rattle.bin_store.specs.Bins.{bin_index, point_of, memory, Unseen, Binned, RoomForItem}
use Rattle.bin_store.proofs.Bins.Items.{memory_more}
use Rattle.bin_store.proofs.Bins.Links.{linked_more}

module _ (count : ℕ) (heads nexts : List ℕ) (seen seen' : List ℤ) (numbers : List ℕ) (p : Point) (number : ℕ) (room : RoomForItem count nexts seen numbers) (put : seen' ≡ set (set seen (2 * count) p.x) (2 * count + 1) p.y) where
  points : (i : ℕ) → point_of seen' i ≡ get_or (set (pair_up seen) count p) i origin
  points i = ap (λ (l : List Point). get_or l i origin) (ap pair_up put ∙ pairs_set seen count p)

  own : point_of seen' count ≡ p
  own = points count ∙ get_or-set_same (pair_up seen) count p origin (omega (arith, length_pairs seen, room.seen_fit))

  old : (i : ℕ) → i < count → point_of seen' i ≡ point_of seen i
  old i h = points i ∙ get_or-set_other (pair_up seen) count i p origin (λ e. omega arith)

  pub memory_stored : memory (count + 1) seen' (set numbers count number) ≡ memory count seen numbers ++ (sighting p number ∷ [])
  memory_stored =
      ap (λ n. memory n seen' (set numbers count number)) (add-one count)
      ∙ memory_more count seen seen' numbers (set numbers count number) old (λ i h. get_or-set_other numbers count i number 0 (λ e. omega arith))
      ∙ ap (λ (s : Sighting). memory count seen numbers ++ (s ∷ [])) (ap₂ sighting own (get_or-set_same numbers count number 0 room.numbers_fit))

  pub binned_stored : Binned count heads nexts seen numbers → Unseen count seen p → (b : ℕ) → b ≡ bin_index (length heads) p
      → Binned (count + 1) (set heads b (count + 1)) (set nexts count (get_or heads b 0)) seen' (set numbers count number)
  binned_stored s unseen b e = rw (e, add-one) record {
    linked = linked_more count heads nexts seen seen' p s.linked room.nexts_fit unseen own old;
    seen_fit = omega (arith, room.seen_fit, ap length put, length-set seen (2 * count) p.x, length-set (set seen (2 * count) p.x) (2 * count + 1) p.y);
    numbers_fit = omega (arith, room.numbers_fit, length-set numbers count number);
  }
