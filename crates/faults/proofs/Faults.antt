-- What a place has where none of 3 to 7 and 13 fits it, and which of them a number is.
use mathlib.Core.Path.{◌≡◌, refl, subst}
use mathlib.Core.Bool.{Bool, true, false, not, cond}
use Prim.Native.Nat.{ℕ, ◌-◌, ◌<◌}
use Rattle.std.specs.Prelude.{Option, Some, None}
use lib.ListN.{length}
use Rattle.geom.specs.declared.Point.{Point}
use Rattle.geom.specs.Points.{lt_p}
use Rattle.refusal.specs.declared.Kind.{Kind}
use Rattle.refusal.specs.declared.Kind.TheVariants.{OutOfRange, NotRising, BadWinding, BadBits, OutOfOrder, BadLot}
use Rattle.refusal.specs.Order.{accepted}
use Rattle.refusal.proofs.Order.{first-none}
use Rattle.segm.specs.declared.Segment.{Segment}
use Rattle.segm.specs.Segments.{Drawing, segment_at}
use Rattle.faults.specs.Faults.{ends_in_range, rises, winding_in_range, bits_in_range, lot_in_range, fault, fault_at, faults_of}

-- none of 3 to 7 and 13 fits s, where the segment before it starts at p
pub record NoFault (p : Point) (s : Segment) : Type 0 where
  pub ends : ends_in_range s ≡ true
  pub order : rises s ≡ true
  pub winding : winding_in_range s ≡ true
  pub bits : bits_in_range s ≡ true
  pub lot : lot_in_range s ≡ true
  pub after : lt_p s.a p ≡ false

-- a test that has to hold, and one that must not
pub passed : (b : Bool) (k : Kind) (o : Option Kind) → cond (not b) (Some k) o ≡ None → (b ≡ true) × (o ≡ None)
passed true k o e = (refl, e)
passed false k o e = let bad : ⊥ = cc in absurd bad

pub last : (b : Bool) (k : Kind) → cond b (Some k) None ≡ None → b ≡ false
last true k e = let bad : ⊥ = cc in absurd bad
last false k e = refl

pub no_fault : (p : Point) (s : Segment) → fault p s ≡ None → NoFault p s
unfolding fault
no_fault p s e =
    let e₃ = passed (ends_in_range s) OutOfRange _ e in
    let e₄ = passed (rises s) NotRising _ e₃.1 in
    let e₅ = passed (winding_in_range s) BadWinding _ e₄.1 in
    let e₆ = passed (bits_in_range s) BadBits _ e₅.1 in
    let e₁₃ = passed (lot_in_range s) BadLot _ e₆.1 in
    record { ends = e₃.0; order = e₄.0; winding = e₅.0; bits = e₆.0; lot = e₁₃.0; after = last (lt_p s.a p) OutOfOrder e₁₃.1 }

-- at every place of a drawing in which none is found
pub no_fault_at : (d : Drawing) → faults_of d ≡ accepted → (i : ℕ) → i < length d → NoFault (segment_at d (i - 1)).a (segment_at d i)
unfolding faults_of fault_at
no_fault_at d e i l = no_fault (segment_at d (i - 1)).a (segment_at d i) (first-none (fault_at d) (length d) e i l)

-- ---- which of 3 to 7 and 13 it is
pub data Fault (p : Point) (s : Segment) : Kind → Type 0 where
  three : ends_in_range s ≡ false → Fault p s OutOfRange
  four : rises s ≡ false → Fault p s NotRising
  five : winding_in_range s ≡ false → Fault p s BadWinding
  six : bits_in_range s ≡ false → Fault p s BadBits
  thirteen : lot_in_range s ≡ false → Fault p s BadLot
  seven : lt_p s.a p ≡ true → Fault p s OutOfOrder

-- a test that fails has its kind, else those after it decide
by : (T : Kind → Type 0) (b : Bool) (k : Kind) (o : Option Kind) (kind : Kind) → (b ≡ false → T k) → (o ≡ Some kind → T kind) → cond (not b) (Some k) o ≡ Some kind → T kind
by T true k o kind f g e = g e
by T false k o kind f g e = let q : k ≡ kind = cc in subst T q (f refl)

pub which : (p : Point) (s : Segment) (kind : Kind) → fault p s ≡ Some kind → Fault p s kind
unfolding fault
which p s kind =
    by (Fault p s) (ends_in_range s) OutOfRange _ kind three
    (by (Fault p s) (rises s) NotRising _ kind four
    (by (Fault p s) (winding_in_range s) BadWinding _ kind five
    (by (Fault p s) (bits_in_range s) BadBits _ kind six
    (by (Fault p s) (lot_in_range s) BadLot _ kind thirteen (no_more (lt_p s.a p) refl)))))
  where
    no_more : (b : Bool) → lt_p s.a p ≡ b → cond b (Some OutOfOrder) None ≡ Some kind → Fault p s kind
    no_more true l e = let q : OutOfOrder ≡ kind = cc in subst (Fault p s) q (seven l)
    no_more false l e = let bad : ⊥ = cc in absurd bad
