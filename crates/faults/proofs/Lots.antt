-- Lots count for refusal 13 alone: without them a drawing has the same faults, unless one of its own is 13.
use mathlib.Core.Path.{◌≡◌, refl, sym, ap, ap₂, subst}
use mathlib.Core.List.{map}
use mathlib.Core.Logic.{◌⊎◌, inl, inr}
use mathlib.Core.Bool.{Bool, true, false, not, cond}
use Prim.Native.Nat.{ℕ, zero, suc, ◌+◌, ◌-◌}
use native.Mathlib.Omega.{arith}
use Rattle.std.specs.Prelude.{Option, Some, None}
use lib.ListN.{length}
use Rattle.geom.specs.declared.Point.{Point}
use Rattle.geom.specs.Points.{within, lt_p}
use Rattle.refusal.specs.declared.Kind.{Kind}
use Rattle.refusal.specs.declared.Kind.TheVariants.{OutOfRange, NotRising, BadWinding, BadBits, OutOfOrder, BadLot}
use Rattle.refusal.specs.Order.{Verdict, refused_or, first_from, first}
use Rattle.segm.specs.declared.Segment.{Segment}
use Rattle.segm.specs.Segments.{Drawing, segment_at}
use Rattle.segm.specs.Lots.{unlotted}
use Rattle.segm.proofs.Lots.{length-unlotted, unlotted-at}
use Rattle.faults.specs.Faults.{ends_in_range, rises, winding_in_range, bits_in_range, lot_in_range, fault, fault_at, faults_of, LotOut}

-- ---- a segment
-- the two are the same, or the first is 13, of a segment with its lot out of range
abbrev OrOut : Segment → Option Kind → Option Kind → Type 0
OrOut s m n = (m ≡ n) ⊎ ((lot_in_range s ≡ false) × (m ≡ Some BadLot))

-- what is wrong by the tests before 7
abbrev found_by : (ends order winding bits lot : Bool) → Option Kind → Option Kind
found_by ends order winding bits lot rest =
    cond (not ends) (Some OutOfRange) (cond (not order) (Some NotRising) (cond (not winding) (Some BadWinding) (cond (not bits) (Some BadBits) (cond (not lot) (Some BadLot) rest))))

by_lot : (ends order winding bits lot : Bool) (rest : Option Kind)
    → (found_by ends order winding bits lot rest ≡ found_by ends order winding bits true rest) ⊎ ((lot ≡ false) × (found_by ends order winding bits lot rest ≡ Some BadLot))
by_lot ends order winding bits true rest = inl refl
by_lot false order winding bits false rest = inl refl
by_lot true false winding bits false rest = inl refl
by_lot true true false bits false rest = inl refl
by_lot true true true false false rest = inl refl
by_lot true true true true false rest = inr (refl, refl)

-- its fault is that without its lot, or 13
fault_lot : (p : Point) (s : Segment) → OrOut s (fault p s) (fault p (unlotted s))
unfolding fault ends_in_range rises winding_in_range bits_in_range lot_in_range within
fault_lot p s = by_lot (ends_in_range s) (rises s) (winding_in_range s) (bits_in_range s) (lot_in_range s) (cond (lt_p s.a p) (Some OutOfOrder) None)

-- ---- a drawing
module _ (d : Drawing) where
  -- at a place
  fault-at : (i : ℕ) → OrOut (segment_at d i) (fault_at d i) (fault_at (map unlotted d) i)
  unfolding fault_at
  fault-at i = subst (OrOut (segment_at d i) (fault_at d i)) (sym without) (fault_lot (segment_at d (i - 1)).a (segment_at d i))
    where
      without : fault_at (map unlotted d) i ≡ fault (segment_at d (i - 1)).a (unlotted (segment_at d i))
      without = ap₂ (λ (p s : Segment). fault p.a s) (unlotted-at d (i - 1)) (unlotted-at d i)

  -- the same of verdicts
  abbrev Alike : Verdict → Verdict → Type 0
  Alike v w = (v ≡ w) ⊎ LotOut d v

  -- what is found at a place, else what comes after it
  found_or : (o : Option Kind) (i : ℕ) {v w : Verdict} → Alike v w → Alike (refused_or i o v) (refused_or i o w)
  found_or (Some kind) i a = inl refl
  found_or None i a = a

  faults_from : (left i : ℕ) → i + left ≡ length d → Alike (first_from (fault_at d) left i) (first_from (fault_at (map unlotted d)) left i)
  unfolding first_from
  faults_from zero i h = inl refl
  faults_from (suc left) i h = go (fault-at i) (faults_from left (suc i) (omega arith))
    where
      go : OrOut (segment_at d i) (fault_at d i) (fault_at (map unlotted d) i) → Alike (first_from (fault_at d) left (suc i)) (first_from (fault_at (map unlotted d)) left (suc i))
          → Alike (first_from (fault_at d) (suc left) i) (first_from (fault_at (map unlotted d)) (suc left) i)
      go (inl e) later = subst (λ o. Alike (first_from (fault_at d) (suc left) i) (refused_or i o (first_from (fault_at (map unlotted d)) left (suc i)))) e (found_or (fault_at d i) i later)
      go (inr o) later = inr (record { place = i; inside = omega arith; out = o.0; thirteen = ap (λ p. refused_or i p (first_from (fault_at d) left (suc i))) o.1 })

  -- its faults are those without its lots, or 13
  pub faults_lots : (faults_of d ≡ faults_of (map unlotted d)) ⊎ LotOut d (faults_of d)
  unfolding faults_of first
  faults_lots = subst (λ n. Alike (first_from (fault_at d) (length d) 0) (first_from (fault_at (map unlotted d)) n 0)) (sym (length-unlotted d)) (faults_from (length d) 0 (omega arith))
