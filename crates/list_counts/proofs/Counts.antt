-- The top counts of a good drawing are what the lists give.
use mathlib.Core.Path.{◌≡◌, refl, sym, ◌∙◌, ap, subst}
use mathlib.Core.List.{List, ◌∷◌, ◌++◌}
use mathlib.Core.Logic.{◌⊎◌, inl, inr}
use mathlib.Core.Bool.{false}
use Prim.Native.Nat.{ℕ, ◌<◌, ◌≤◌}
use native.Mathlib.Omega.{arith}
use lib.ListN.{length, take}
use lib.IntN.{pos, ◌+ℤ◌}
use lib.Signed.{◌<ℤ◌}
use Rattle.integers.proofs.Linear.{ints}
use Rattle.integers.proofs.Order.{le_lt_z, lt_le}
use Rattle.geom.proofs.Points.{Before, lt_p-true, before_irrefl}
use Rattle.segm.specs.declared.Segment.{Segment}
use Rattle.lists.specs.Members.{◌∈◌}
use Rattle.segm.specs.Segments.{Drawing, segment_at}
use Rattle.segm.proofs.Segments.{segment_in}
use Rattle.lists.proofs.Members.{in_right}
use Rattle.meetings.specs.Meetings.{side}
use Rattle.checks.specs.Accepted.{Good}
use Rattle.strip.specs.Strip.{under}
use Rattle.strip.proofs.Strip.Gap.{side_own_a}
use Rattle.strip.proofs.Strip.Apart.{Apart, apart_sym, Over, over_wide, side_less, under_irrefl, under_asym, under_trans}
use Rattle.strip.proofs.Strip.Compare.{later_j}
use Rattle.strip.proofs.Strip.Tiers.{Tier}
use Rattle.scan.specs.declared.Sought.TheVariants.{At}
use Rattle.scan.specs.Scan.{Changes, below_at}
use Rattle.strip.proofs.Neighbours.Upright.{Upright, vertical_upright}
use Rattle.count_up.specs.CountUp.{OpenAt, last_of, Counts}
use Rattle.count_up.proofs.CountUp.{open_over, open_tiers}
use Rattle.ray.specs.Ray.{bottom, top}
use Rattle.ray.proofs.Ray.{bottom_strip}
use Rattle.ray.proofs.Invariance.{one_or_apart, proper, beneath}
use Rattle.list_counts.specs.ListCounts.{top_at}
use Rattle.list_counts.proofs.Lowest.{pairs_parts, total_lowest, open_lowest}
use Rattle.list_counts.proofs.Points.{point_last, later_not_below, bottom_head}

-- s starts after t, straight above its start: it is not the lower
later_not_lower : {s t : Segment} → Apart s t → Over t.a.x s → Over t.a.x t → Before t.a s.a → under t.a.x s t ≡ false
later_not_lower {s} {t} k o q b = later_j k o q b ∙ le_lt_z (lt_le (over b))
  where
    over : Before t.a s.a → pos 0 <ℤ side t s.a
    over (inl l) = absurd (let f = o.from in omega ints)
    over (inr l) = let z = side_own_a t in let n = side_less t t.a s.a (over_wide q) l.0 l.1 in omega ints

module _ {d : Drawing} (g : Good d) where
  -- what starts after another
  after_apart : {t : Segment} → t ∈ d → (k : ℕ) → k < length d → Before t.a (segment_at d k).a → Apart t (segment_at d k)
  after_apart {t} m k u b = go (one_or_apart g t (segment_at d k) m (segment_in d k refl u))
    where
      go : (t ≡ segment_at d k) ⊎ Apart t (segment_at d k) → Apart t (segment_at d k)
      go (inl e) = absurd (before_irrefl (subst (λ s. Before t.a s.a) (sym e) b))
      go (inr k) = k

  -- m places have entered, and all others start after i
  module _ {m : ℕ} (below : List ℕ) (i : ℕ) (more : List ℕ) (few : m ≤ length d) (h : OpenAt d m (segment_at d i).a.x (below ++ (i ∷ more)))
      (after : (k : ℕ) → m ≤ k → k < length d → Before (segment_at d i).a (segment_at d k).a) where
    abbrev t : Segment
    t = segment_at d i

    here : i ∈ (below ++ (i ∷ more))
    here = in_right i below (i ∷ more) (inl refl)

    known : t ∈ d
    known = segment_in d i refl (let b = (h.mine i here).0 in omega arith)

    o : Over t.a.x t
    o = open_over h i here

    not_lower : (k : ℕ) → (k ≡ i) ⊎ (k ∈ more) → under t.a.x (segment_at d k) t ≡ false
    not_lower k (inl e) = ap (λ (n : ℕ). under t.a.x (segment_at d n) t) e ∙ under_irrefl t t.a.x
    not_lower k (inr n) = under_asym t (segment_at d k) t.a.x ((pairs_parts (λ i j. Tier t.a.x (segment_at d i) (segment_at d j)) below (i ∷ more) (open_tiers h)).2.0 k n).lower

    node-bottom : bottom d t ≡ last_of (top_at d) below
    unfolding beneath
    node-bottom = bottom_strip g t known (over_wide o) ∙ total_lowest g (open_lowest (λ s. under t.a.x s t) below (i ∷ more) few h
        (λ k n. ((pairs_parts (λ i j. Tier t.a.x (segment_at d i) (segment_at d j)) below (i ∷ more) (open_tiers h)).1 k i n (inl refl)).lower) not_lower
        (λ k n u q. later_not_lower (apart_sym (after_apart known k u (after k n u))) q o (after k n u))
        (λ s u p q l e. under_trans t.a.x (over_wide p) (over_wide q) (over_wide o) l e))

  -- the same of a vertical one and those before its head
  vertical_bottom : {v : Segment} → v ∈ d → Upright v → {m : ℕ} → m ≤ length d → {l : List ℕ} → OpenAt d m v.a.x l → ((k : ℕ) → m ≤ k → k < length d → Before v.a (segment_at d k).a)
      → {k : ℕ} → Changes (below_at d (At v.b) l) 0 (length l) k → bottom d v ≡ last_of (top_at d) (take k l)
  vertical_bottom {v} n u {m} few {l} h after c = bottom_head u g n ∙ point_last v.b (subst (λ x. OpenAt d m x l) (sym u.plumb) h) c g few
      (λ k o s p. later_not_below u (after_apart n k s (after k o s)) (subst (λ x. Over x (segment_at d k)) u.plumb p) (after k o s))

-- THEOREM: what a sweep that counts up its lists leaves are the ray's top counts
pub good_counts : {d : Drawing} → Good d → Counts d (top_at d)
unfolding top
good_counts {d} g = record {
  entered = λ m below i more few h after. ap (λ z. z +ℤ (segment_at d i).winding) (node-bottom g below i more few h (λ k n u. lt_p-true (after k n u)));
  vertical = λ v m u e few l h after k c.
      let n = segment_in d v refl u in
      ap (λ z. z +ℤ (segment_at d v).winding) (vertical_bottom g n (vertical_upright (proper g (segment_at d v) n) e) few h (λ k o s. lt_p-true (after k o s)) c);
}
