-- The memory of first sightings as the code has it: items in order of storing, each linked to the one stored before it in its bin.
use Rattle.std.specs.Prelude.{◌≡◌, List, map, true, false, ℕ, suc, ◌*◌, ◌%◌, ◌<◌, ◌≤◌, length, get_or, ℤ, pos, nat_abs, ◌+ℤ◌, ◌*ℤ◌, Option, Some, None}
use Rattle.geom.specs.declared.Point.{Point}
use Rattle.geom.specs.Points.{eq_p}
use Rattle.lists.specs.UpFrom.{up_from}
use Rattle.contour.specs.Points.{pair_up, origin}
use Rattle.bin_store.specs.Sightings.{Sighting, sighting}

-- `bin_index` of p, of this many bins. The last number keeps the sum from being negative for every point in range
unfoldable pub bin_index : ℕ → Point → ℕ
bin_index bins p = nat_abs (pos 31 *ℤ p.x +ℤ pos 17 *ℤ p.y +ℤ pos 805306368) % bins

-- the point of item i
abbrev pub point_of : List ℤ → ℕ → Point
point_of seen i = get_or (pair_up seen) i origin

-- what `count` items hold
unfoldable pub memory : ℕ → List ℤ → List ℕ → List Sighting
memory count seen numbers = map (λ i. sighting (point_of seen i) (get_or numbers i 0)) (up_from 0 count)

-- an item is named by one more than its place, and 0 is none. From j on, along the links, item k is reached
pub data Reaches (nexts : List ℕ) : ℕ → ℕ → Type 0 where
  here : (k : ℕ) → Reaches nexts k k
  there : (j k : ℕ) → Reaches nexts (get_or nexts j 0) k → Reaches nexts (suc j) k

-- no item holds p
abbrev pub Unseen : ℕ → List ℤ → Point → Type 0
Unseen count seen p = (i : ℕ) → i < count → eq_p (point_of seen i) p ≡ false

-- the bins: of each the item stored last, of each item the one stored before it in its bin, and its point
pub record Linked (count : ℕ) (heads nexts : List ℕ) (seen : List ℤ) : Type 0 where
  pub some_bins : 0 < length heads
  pub nexts_fit : count ≤ length nexts
  pub heads_below : (b : ℕ) → get_or heads b 0 ≤ count
  pub nexts_below : (i : ℕ) → i < count → get_or nexts i 0 ≤ i
  pub reached : (i : ℕ) → i < count → Reaches nexts (get_or heads (bin_index (length heads) (point_of seen i)) 0) (suc i)
  pub apart : (i j : ℕ) → i < j → j < count → eq_p (point_of seen i) (point_of seen j) ≡ false

-- what the lists hold: the bins, and of each item its point and its number
pub record Binned (count : ℕ) (heads nexts : List ℕ) (seen : List ℤ) (numbers : List ℕ) : Type 0 where
  pub linked : Linked count heads nexts seen
  pub seen_fit : 2 * count ≤ length seen
  pub numbers_fit : count ≤ length numbers

-- what a look-up of p finds: the item that holds p, if any does
abbrev pub LookedUp : ℕ → List ℤ → Point → Option ℕ → Type 0
LookedUp count seen p None = Unseen count seen p
LookedUp count seen p (Some i) = (i < count) × (eq_p (point_of seen i) p ≡ true)

-- room for one item more
pub record RoomForItem (count : ℕ) (nexts : List ℕ) (seen : List ℤ) (numbers : List ℕ) : Type 0 where
  pub few : count < 2048
  pub nexts_fit : count < length nexts
  pub seen_fit : 2 * suc count ≤ length seen
  pub numbers_fit : count < length numbers
