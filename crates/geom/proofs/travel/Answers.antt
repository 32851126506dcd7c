-- The two distances are those of the definition.
use mathlib.Core.Path.{◌≡◌, ap₂, ◌∙◌}
use native.Mathlib.Omega.{arith}
use Prim.Native.Nat.{ℕ, ◌+◌, ◌<◌, ◌≤◌, ◌^◌}
use lib.IntN.{ℤ, pos, negsuc, nat_abs, ◌-ℤ◌}
use lib.Signed.{mag}
use mir.Syntax.{w32}
use mir.Val.{to_z, of_z}
use Rattle.integers.proofs.Machine.{read}
use Rattle.integers.proofs.Order.{abs--}
use Rattle.geom.specs.Points.{travel}
use Rattle.geom.proofs.travel.Goals as goal
use Rattle.geom.proofs.travel.Lts
use Rattle.geom.proofs.travel.Reads
use Rattle.geom.proofs.travel.Tie

abbrev After-distance : Type 0
After-distance = Lts.After-distance Tie.the-claims Reads.Pre Reads.Post

abbrev Start : Type 0
Start = Lts.Start Tie.the-claims Reads.Pre Reads.Post

-- what `distance` returned of two coordinates
leg : (r : ℕ) (a b : ℤ) → r ≡ nat_abs (to_z w32 (of_z w32 a) -ℤ to_z w32 (of_z w32 b)) → mag a < 2 ^ 31 → mag b < 2 ^ 31 → r ≡ nat_abs (a -ℤ b)
leg r a b e ha hb = e ∙ ap₂ (λ y z. nat_abs (y -ℤ z)) (read w32 a ha) (read w32 b hb)

abs_mag : (z : ℤ) → nat_abs z ≤ mag z + 1
abs_mag (pos n) = omega arith
abs_mag (negsuc n) = omega arith

small : (a b : ℤ) → mag a < 2 ^ 31 → mag b < 2 ^ 31 → nat_abs (a -ℤ b) ≤ 2 ^ 32
small a b ha hb = omega (arith, abs-- a b, abs_mag a, abs_mag b)

module _ (c : goal.After-distance-2) where
  abbrev first : After-distance
  first = c.before.before.before

  abbrev s : Start
  s = c.before.before.before.before.before.before

  x-leg : first.distance.result ≡ nat_abs (s.args.q.x -ℤ s.args.p.x)
  x-leg = leg _ s.args.q.x s.args.p.x first.distance.ensures (omega arith) (omega arith)

  y-leg : c.distance-2.result ≡ nat_abs (s.args.q.y -ℤ s.args.p.y)
  y-leg = leg _ s.args.q.y s.args.p.y c.distance-2.ensures (omega arith) (omega arith)

pub overflow_add-result : goal.overflow_add-result
overflow_add-result c =
    let a = (s c).args in
    record { fits = omega (arith, x-leg c, y-leg c, small a.q.x a.p.x (omega arith) (omega arith), small a.q.y a.p.y (omega arith) (omega arith)) }

pub returns : goal.returns
unfolding travel
returns c = ap₂ ◌+◌ (x-leg c) (y-leg c)
