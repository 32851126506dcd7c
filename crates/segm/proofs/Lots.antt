-- Drawings that differ in lots only: what does not count lots is the same of both.
use mathlib.Core.Path.{◌≡◌, refl, sym, ◌∙◌, ap}
use mathlib.Core.List.{[], ◌∷◌, map}
use Prim.Native.Nat.{ℕ, zero, suc}
use lib.ListN.{length, length-map}
use Rattle.segm.specs.Segments.{Drawing, segment_at}
use Rattle.segm.specs.Lots.{unlotted, SameButLots}

-- by way of the drawing without lots
pub lots_alike : {X : Type 0} (f : Drawing → X) → ((d : Drawing) → f (map unlotted d) ≡ f d) → {d e : Drawing} → SameButLots d e → f d ≡ f e
lots_alike f h {d} {e} q = sym (h d) ∙ ap f q ∙ h e

-- ---- a drawing without lots
module _ (d : Drawing) where
  pub length-unlotted : length (map unlotted d) ≡ length d
  length-unlotted = length-map d unlotted

  pub unlotted-at : (i : ℕ) → segment_at (map unlotted d) i ≡ unlotted (segment_at d i)
  unfolding segment_at
  unlotted-at = go d
    where
      go : (d : Drawing) (i : ℕ) → segment_at (map unlotted d) i ≡ unlotted (segment_at d i)
      go [] i = refl
      go (s ∷ d) zero = refl
      go (s ∷ d) (suc i) = go d i
