-- The memory with its lists: what it holds, what is so of it, and what a sighting leaves of it.
use Rattle.std.specs.Prelude.{◌≡◌, List, [], ◌∷◌, ◌++◌, ℕ, ◌+◌, ◌≤◌, length}
use Rattle.std.specs.Borrow.{MutBor}
use Rattle.geom.specs.declared.Point.{Point}
use Rattle.bin_store.specs.declared.store.BinMemory.{BinMemory}
use Rattle.bin_store.specs.Sightings.{Sighting, sighting, number_of, sight}
use Rattle.bin_store.specs.Bins.{memory, Binned, RoomForItem, Unseen}

-- what it holds
abbrev pub held : BinMemory → List Sighting
held s = memory s.counts.count s.seen.now s.numbers.now

-- it has a bin for each head, and its lists hold its items
abbrev pub IsBinned : BinMemory → Type 0
IsBinned s = (s.counts.bins ≡ length s.heads.now) × Binned s.counts.count s.heads.now s.nexts.now s.seen.now s.numbers.now

-- it has room for one item more
abbrev pub HasRoom : BinMemory → Type 0
HasRoom s = RoomForItem s.counts.count s.nexts.now s.seen.now s.numbers.now

-- none of its items holds p
abbrev pub IsUnseen : BinMemory → Point → Type 0
IsUnseen s p = Unseen s.counts.count s.seen.now p

-- the same lent list, as long as it was
abbrev pub Same : {A : Type 0} → MutBor (List A) → MutBor (List A) → Type 0
Same l l' = (l'.ghost_name ≡ l.ghost_name) × (length l'.now ≡ length l.now)

-- s', which was s, has the same lists
pub record SameLists (s s' : BinMemory) : Type 0 where
  pub heads_same : Same s.heads s'.heads
  pub nexts_same : Same s.nexts s'.nexts
  pub seen_same : Same s.seen s'.seen
  pub numbers_same : Same s.numbers s'.numbers

-- what storing p with this number leaves of s
pub record Stores (s : BinMemory) (p : Point) (number : ℕ) (s' : BinMemory) : Type 0 where
  pub holds : held s' ≡ held s ++ (sighting p number ∷ [])
  pub one_more : s'.counts.count ≡ s.counts.count + 1
  pub binned : IsBinned s'
  pub same_lists : SameLists s s'

-- what a sighting of p leaves of s, and the number r that it tells
pub record Sights (s : BinMemory) (p : Point) (number : ℕ) (s' : BinMemory) (r : ℕ) : Type 0 where
  pub holds : held s' ≡ sight (held s) p number
  pub tells : r ≡ number_of (held s') p
  pub one_more : s'.counts.count ≤ s.counts.count + 1
  pub binned : IsBinned s'
  pub same_lists : SameLists s s'
