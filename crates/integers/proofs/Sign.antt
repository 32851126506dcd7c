-- A polynomial is positive where a positive factor times it is a polynomial that is seen to be.
-- `pos_ring8 (λ ax .. . v ⊛ e ≑ r) tt ax .. hv hr`, with hv : 0 < v and hr : 0 < r, most often `(search positive)` both, proves 0 < e.
use mathlib.Core.List.{List, [], ◌∷◌}
use lib.Dec.{T}
use lib.IntN.{ℤ, pos}
use lib.Signed.{◌<ℤ◌}
use Rattle.integers.proofs.Order.{pos_by}
use Rattle.integers.proofs.Ring.{E, var, ◌⊠◌, ◌≐◌, val, holds, ring}

infix 5 ◌⊛◌≑◌
pub data Cert : Type 0 where
  ◌⊛◌≑◌ : E → E → E → Cert

abbrev pub right : Cert → Type 0
right (v ⊛ e ≑ r) = T (holds ((v ⊠ e) ≐ r))

abbrev pub Pos : Cert → List ℤ → Type 0
Pos (v ⊛ e ≑ r) ρ = pos 0 <ℤ val v ρ → pos 0 <ℤ val r ρ → pos 0 <ℤ val e ρ

pub pos_ring : (q : Cert) → right q → (ρ : List ℤ) → Pos q ρ
pos_ring (v ⊛ e ≑ r) t ρ = pos_by {v = val v ρ} (ring ((v ⊠ e) ≐ r) t ρ)

pub pos_ring8 : (q : E → E → E → E → E → E → E → E → Cert) → right (q (var 0) (var 1) (var 2) (var 3) (var 4) (var 5) (var 6) (var 7)) → (a b c d e f g h : ℤ) → Pos (q (var 0) (var 1) (var 2) (var 3) (var 4) (var 5) (var 6) (var 7)) (a ∷ b ∷ c ∷ d ∷ e ∷ f ∷ g ∷ h ∷ [])
pos_ring8 q t a b c d e f g h = pos_ring (q (var 0) (var 1) (var 2) (var 3) (var 4) (var 5) (var 6) (var 7)) t (a ∷ b ∷ c ∷ d ∷ e ∷ f ∷ g ∷ h ∷ [])
