-- What is reached along the links, and what a store leaves reached.
use mathlib.Core.Path.{◌≡◌, refl, sym, ◌∙◌, ap, ap₂, subst}
use mathlib.Core.List.{List}
use mathlib.Core.Bool.{true, false}
use Prim.Native.Nat.{ℕ, suc, ◌-◌, ◌<◌, ◌≤◌}
use native.Mathlib.Nat as N
use native.Mathlib.Decide.{ℕ_discrete}
use native.Mathlib.Omega.{arith}
use lib.ListN.{length, get_or, set, length-set}
use lib.Seq.{get_or-set_same, get_or-set_other}
use lib.IntN.{ℤ}
use Rattle.integers.proofs.Booleans.{clash}
use Rattle.geom.specs.declared.Point.{Point}
use Rattle.geom.specs.Points.{eq_p}
use Rattle.geom.proofs.Points.{eq_p-true}
use Rattle.bin_store.specs.Bins.{bin_index, point_of, Unseen, Linked, Binned, Reaches, here, there}

pub bin_below : (bins : ℕ) (p : Point) → 0 < bins → bin_index bins p < bins
unfolding bin_index
bin_below bins p h = N.mod-lt _ h

-- past another item
past : (nexts : List ℕ) (j k : ℕ) → Reaches nexts (suc j) (suc k) → (k ≡ j → ⊥) → Reaches nexts (get_or nexts j 0) (suc k)
past nexts j k (here _) f = absurd (f refl)
past nexts j k (there _ _ r) f = r

-- a look-up of p goes through every item that holds it: from the head of its bin, and past an item that holds another point
module _ (nexts : List ℕ) (seen : List ℤ) (p : Point) where
  abbrev pub Ahead : ℕ → ℕ → Type 0
  Ahead count j = (i : ℕ) → i < count → eq_p (point_of seen i) p ≡ true → Reaches nexts j (suc i)

  pub ahead_first : (count : ℕ) (heads : List ℕ) → Linked count heads nexts seen → (b : ℕ) → b ≡ bin_index (length heads) p → Ahead count (get_or heads b 0)
  ahead_first count heads l b e i h q =
      subst (λ d. Reaches nexts (get_or heads d 0) (suc i)) (ap (bin_index (length heads)) (eq_p-true q) ∙ sym e) (l.reached i h)

  pub ahead_next : (count j : ℕ) → 0 < j → eq_p (point_of seen (j - 1)) p ≡ false → Ahead count j → Ahead count (get_or nexts (j - 1) 0)
  ahead_next count j h n a i k q =
      let e : j ≡ suc (j - 1) = omega arith in
      past nexts (j - 1) i (subst (λ d. Reaches nexts d (suc i)) e (a i k q)) (λ f. clash q (ap (λ d. eq_p (point_of seen d) p) f ∙ n))

-- a link stored at n changes nothing of what is reached from lower items
still : (nexts : List ℕ) (n v : ℕ) → ((i : ℕ) → i < n → get_or nexts i 0 ≤ i) → (j k : ℕ) → j ≤ n → Reaches nexts j k → Reaches (set nexts n v) j k
still nexts n v below j k h (here _) = here k
still nexts n v below j k h (there i _ r) =
    let l : get_or nexts i 0 ≤ n = omega (arith, below i (omega arith)) in
    let e : get_or (set nexts n v) i 0 ≡ get_or nexts i 0 = get_or-set_other nexts n i v 0 (λ e. omega arith) in
    there i k (subst (λ m. Reaches (set nexts n v) m k) (sym e) (still nexts n v below (get_or nexts i 0) k l r))

-- ---- item `count` stored in bin b
module _ (count b : ℕ) (heads nexts : List ℕ) where
  abbrev heads' : List ℕ
  heads' = set heads b (suc count)

  abbrev nexts' : List ℕ
  nexts' = set nexts count (get_or heads b 0)

  head_own : b < length heads → get_or heads' b 0 ≡ suc count
  head_own h = get_or-set_same heads b (suc count) 0 h

  head_other : (c : ℕ) → (c ≡ b → ⊥) → get_or heads' c 0 ≡ get_or heads c 0
  head_other c f = get_or-set_other heads b c (suc count) 0 f

  module _ (in-heads : b < length heads) (in-nexts : count < length nexts) (heads_below : (c : ℕ) → get_or heads c 0 ≤ count) (nexts_below : (i : ℕ) → i < count → get_or nexts i 0 ≤ i) where
    more_heads_below : (c : ℕ) → get_or heads' c 0 ≤ suc count
    more_heads_below c = go (ℕ_discrete c b)
      where
        go : Dec (c ≡ b) → get_or heads' c 0 ≤ suc count
        go (yes e) = omega (arith, head_own in-heads, ap (λ d. get_or heads' d 0) e)
        go (no f) = omega (arith, head_other c f, heads_below c)

    more_nexts_below : (i : ℕ) → i < suc count → get_or nexts' i 0 ≤ i
    more_nexts_below i h = go (ℕ_discrete i count)
      where
        go : Dec (i ≡ count) → get_or nexts' i 0 ≤ i
        go (yes e) = omega (arith, ap (λ d. get_or nexts' d 0) e, get_or-set_same nexts count (get_or heads b 0) 0 in-nexts, heads_below b)
        go (no f) = omega (arith, get_or-set_other nexts count i (get_or heads b 0) 0 f, nexts_below i (omega arith))

    -- what a bin reached it still reaches
    still_in : (c k : ℕ) → Reaches nexts (get_or heads c 0) k → Reaches nexts' (get_or heads' c 0) k
    still_in c k r = go (ℕ_discrete c b)
      where
        kept : Reaches nexts' (get_or heads c 0) k
        kept = still nexts count (get_or heads b 0) nexts_below (get_or heads c 0) k (heads_below c) r

        go : Dec (c ≡ b) → Reaches nexts' (get_or heads' c 0) k
        go (no f) = subst (λ j. Reaches nexts' j k) (sym (head_other c f)) kept
        go (yes e) =
            let v : get_or nexts' count 0 ≡ get_or heads c 0 = get_or-set_same nexts count (get_or heads b 0) 0 in-nexts ∙ ap (λ d. get_or heads d 0) (sym e) in
            let w : get_or heads' c 0 ≡ suc count = ap (λ d. get_or heads' d 0) e ∙ head_own in-heads in
            subst (λ j. Reaches nexts' j k) (sym w) (there count k (subst (λ j. Reaches nexts' j k) (sym v) kept))

    -- and the item itself is reached
    own_in : Reaches nexts' (get_or heads' b 0) (suc count)
    own_in = subst (λ j. Reaches nexts' j (suc count)) (sym (head_own in-heads)) (here (suc count))

-- the bins with one item more
pub linked_more : (count : ℕ) (heads nexts : List ℕ) (seen seen' : List ℤ) (p : Point) → Linked count heads nexts seen → count < length nexts → Unseen count seen p
    → point_of seen' count ≡ p → ((i : ℕ) → i < count → point_of seen' i ≡ point_of seen i)
    → Linked (suc count) (set heads (bin_index (length heads) p) (suc count)) (set nexts count (get_or heads (bin_index (length heads) p) 0)) seen'
linked_more count heads nexts seen seen' p l room unseen own old = record {
  some_bins = omega (arith, l.some_bins, length-set heads b (suc count));
  nexts_fit = omega (arith, length-set nexts count (get_or heads b 0));
  heads_below = more_heads_below count b heads nexts inside room l.heads_below l.nexts_below;
  nexts_below = more_nexts_below count b heads nexts inside room l.heads_below l.nexts_below;
  reached = λ i h. rw (length-set heads b (suc count)) (reach i (ℕ_discrete i count) h);
  apart = λ i j h k. part i j h (ℕ_discrete j count) k;
}
  where
    b : ℕ
    b = bin_index (length heads) p

    inside : b < length heads
    inside = bin_below (length heads) p l.some_bins

    reach : (i : ℕ) → Dec (i ≡ count) → i < suc count → Reaches (nexts' count b heads nexts) (get_or (heads' count b heads nexts) (bin_index (length heads) (point_of seen' i)) 0) (suc i)
    reach i (yes e) h = rw (e, own) (own_in count b heads nexts inside room l.heads_below l.nexts_below)
    reach i (no f) h = let k : i < count = omega arith in rw (old i k) (still_in count b heads nexts inside room l.heads_below l.nexts_below (bin_index (length heads) (point_of seen i)) (suc i) (l.reached i k))

    part : (i j : ℕ) → i < j → Dec (j ≡ count) → j < suc count → eq_p (point_of seen' i) (point_of seen' j) ≡ false
    part i j h (yes e) k = ap₂ eq_p (old i (omega arith)) (ap (point_of seen') e ∙ own) ∙ unseen i (omega arith)
    part i j h (no f) k = ap₂ eq_p (old i (omega arith)) (old j (omega arith)) ∙ l.apart i j h (omega arith)

-- empty bins
pub no_items : (heads nexts : List ℕ) (seen : List ℤ) (numbers : List ℕ) → 0 < length heads → ((b : ℕ) → get_or heads b 0 ≡ 0) → Binned 0 heads nexts seen numbers
no_items heads nexts seen numbers some empty = record {
  linked = record {
    some_bins = some;
    nexts_fit = omega arith;
    heads_below = λ b. omega (arith, empty b);
    nexts_below = λ i h. absurd (omega arith);
    reached = λ i h. absurd (omega arith);
    apart = λ i j h k. absurd (omega arith);
  };
  seen_fit = omega arith;
  numbers_fit = omega arith;
}
