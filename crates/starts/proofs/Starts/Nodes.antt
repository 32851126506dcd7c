-- Where the node of a place ends: those that follow start at later points.
use mathlib.Core.Path.{◌≡◌, subst}
use mathlib.Core.Logic.{◌⊎◌, inl, inr}
use mathlib.Core.Bool.{true, false}
use Prim.Native.Nat.{ℕ, ◌-◌, ◌<◌, ◌≤◌}
use native.Mathlib.Omega.{arith}
use native.Mathlib.Decide.{dec_lt}
use lib.ListN.{length}
use Rattle.integers.proofs.Booleans.{clash}
use Rattle.geom.specs.declared.Point.{Point}
use Rattle.geom.specs.Points.{lt_p}
use Rattle.geom.proofs.Points.{Before, before, compare, not_less_trans, lt_p_irrefl, lt_p_antisym}
use Rattle.segm.specs.Segments.{Drawing, segment_at, nowhere}
use Rattle.lists.proofs.Members.{in_after, pairs_places}
use Rattle.faults.specs.Faultless.{Faultless}
use Rattle.starts.specs.Starts.{Splits}

module _ {d : Drawing} (faultless : Faultless d) where
  abbrev at : ℕ → Point
  at i = (segment_at d i).a

  -- the starts rise
  pub rise : (i j : ℕ) → i ≤ j → j < length d → lt_p (at j) (at i) ≡ false
  unfolding segment_at
  rise i j h k = go (dec_lt i j)
    where
      go : Dec (i < j) → lt_p (at j) (at i) ≡ false
      go (yes l) = pairs_places (λ s t. lt_p t.a s.a ≡ false) d nowhere faultless.rising i (omega arith) (segment_at d j) (in_after d nowhere i j l k)
      go (no l) = let e : i ≡ j = omega arith in subst (λ (m : ℕ). lt_p (at m) (at i) ≡ false) e (lt_p_irrefl (at i))

  -- where the start at r differs from the one before it, all before r start before all from r on
  pub splits_at : (r : ℕ) → 0 < r → r < length d → (at r ≡ at (r - 1) → ⊥) → Splits d r
  splits_at r some inside apart i j h k m = go (compare (at i) (at j))
    where
      go : Before (at i) (at j) ⊎ (Before (at j) (at i) ⊎ (at i ≡ at j)) → lt_p (at i) (at j) ≡ true
      go (inl b) = before b
      go (inr (inl b)) = absurd (clash (before b) (rise i j (omega arith) m))
      go (inr (inr e)) = absurd (apart (lt_p_antisym (rise (r - 1) r (omega arith) inside)
          (not_less_trans (at r) (at j) (at (r - 1)) (rise r j k m) (subst (λ (p : Point). lt_p (at (r - 1)) p ≡ false) e (rise i (r - 1) (omega arith) (omega arith))))))
