-- A drawing in which 2 to 7 and 13 find nothing is faultless; its segments by place.
use mathlib.Core.Path.{◌≡◌, ap, subst, ◌∙◌}
use mathlib.Core.List.{[], ◌∷◌}
use mathlib.Core.Logic.{◌⊎◌, inl, inr}
use mathlib.Core.Bool.{true, false}
use Prim.Native.Nat.{ℕ, suc, ◌-◌, ◌<◌, ◌≤◌}
use native.Mathlib.Omega.{arith}
use lib.ListN.{length}
use lib.IntN.{pos, neg_ℤ, nat_abs}
use Rattle.integers.proofs.Booleans.{both_l, both_r}
use Rattle.integers.proofs.Order.{abs_in}
use Rattle.lists.specs.Members.{◌∈◌, Pairs}
use Rattle.lists.proofs.Members.{in_at}
use Rattle.geom.specs.Points.{lt_p, in_range}
use Rattle.geom.proofs.Points.{not_less_trans, within_l, within_r}
use Rattle.refusal.specs.Order.{accepted}
use Rattle.segm.specs.declared.Segment.{Segment}
use Rattle.segm.specs.Segments.{Drawing, nowhere, segment_at}
use Rattle.segm.proofs.Segments.{everywhere}
use Rattle.faults.specs.Faults.{ends_in_range, rises, winding_in_range, bits_in_range, lot_in_range, faults_of}
use Rattle.faults.specs.Faultless.{Proper, Faultless}
use Rattle.faults.proofs.Faults.{NoFault, no_fault_at}

pub winding_bound : (s : Segment) → winding_in_range s ≡ true → nat_abs s.winding ≤ 1000
unfolding winding_in_range
winding_bound s e = abs_in {z = s.winding} (within_l (neg_ℤ (pos 1000)) (pos 1000) s.winding e) (within_r (neg_ℤ (pos 1000)) (pos 1000) s.winding e)

-- ---- rising starts: each not less than the one before is each not less than any before
abbrev Neighbours : Drawing → Type 0
Neighbours [] = Unit {0}
Neighbours (s ∷ []) = Unit {0}
Neighbours (s ∷ (t ∷ d)) = (lt_p t.a s.a ≡ false) × Neighbours (t ∷ d)

neighbours : (d : Drawing) → ((i : ℕ) → suc i < length d → lt_p (segment_at d (suc i)).a (segment_at d i).a ≡ false) → Neighbours d
unfolding segment_at
neighbours [] h = tt
neighbours (s ∷ []) h = tt
neighbours (s ∷ (t ∷ d)) h = (h 0 (omega arith), neighbours (t ∷ d) (λ i l. h (suc i) (omega arith)))

rising_pairs : (d : Drawing) → Neighbours d → Pairs (λ s t. lt_p t.a s.a ≡ false) d
rising_pairs [] n = tt
rising_pairs (s ∷ []) n = (λ t m. absurd m, tt)
rising_pairs (s ∷ (t ∷ d)) n = let p = rising_pairs (t ∷ d) n.1 in (go p.0, p)
  where
    go : ((u : Segment) → u ∈ d → lt_p u.a t.a ≡ false) → (u : Segment) → (u ≡ t) ⊎ (u ∈ d) → lt_p u.a s.a ≡ false
    go p u (inl e) = ap (λ (i : Segment). lt_p i.a s.a) e ∙ n.0
    go p u (inr m) = not_less_trans s.a t.a u.a n.0 (p u m)

rising_starts : (d : Drawing) → ((i : ℕ) → i < length d → NoFault (segment_at d (i - 1)).a (segment_at d i)) → Pairs (λ s t. lt_p t.a s.a ≡ false) d
rising_starts d at = rising_pairs d (neighbours d (λ i l. let k : suc i - 1 ≡ i = omega arith in subst (λ (k : ℕ). lt_p (segment_at d (suc i)).a (segment_at d k).a ≡ false) k (at (suc i) l).after))

-- ---- the law
pub faultless : (d : Drawing) → length d ≤ 1024 → faults_of d ≡ accepted → Faultless d
unfolding segment_at rises bits_in_range lot_in_range
faultless d few e = record {
  few = few;
  near = everywhere d (λ s. ends_in_range s ≡ true) (λ i l. (at i l).ends);
  proper = everywhere d (λ s. lt_p s.a s.b ≡ true) (λ i l. (at i l).order);
  winding = everywhere d _ (λ i l. winding_bound (segment_at d i) (at i l).winding);
  bits = everywhere d _ (λ i l. (within_l (pos 0) (pos 3) (segment_at d i).bits (at i l).bits, within_r (pos 0) (pos 3) (segment_at d i).bits (at i l).bits));
  lots = everywhere d _ (λ i l. (within_l (pos 0) (pos 9999) (segment_at d i).lot (at i l).lot, within_r (pos 0) (pos 9999) (segment_at d i).lot (at i l).lot));
  rising = rising_starts d at;
}
  where
    at : (i : ℕ) → i < length d → NoFault (segment_at d (i - 1)).a (segment_at d i)
    at = no_fault_at d e

-- ---- its segments
module _ {d : Drawing} (f : Faultless d) where
  pub ends_near : (s : Segment) → s ∈ d → (in_range s.a ≡ true) × (in_range s.b ≡ true)
  unfolding ends_in_range
  ends_near s m = (both_l (in_range s.a) (in_range s.b) (f.near s m), both_r (in_range s.a) (in_range s.b) (f.near s m))

  pub proper_in : (s : Segment) → s ∈ d → Proper s
  proper_in s m = record { near_a = (ends_near s m).0; near_b = (ends_near s m).1; rises = f.proper s m }

  -- by place
  pub proper_at : (i : ℕ) → i < length d → Proper (segment_at d i)
  unfolding segment_at
  proper_at i l = proper_in (segment_at d i) (in_at d nowhere i l)

  pub winding_at : (i : ℕ) → i < length d → nat_abs (segment_at d i).winding ≤ 1000
  unfolding segment_at
  winding_at i l = f.winding (segment_at d i) (in_at d nowhere i l)
