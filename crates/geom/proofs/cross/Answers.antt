-- Each difference is within ±33,554,432, so the products and their difference fit.
use mathlib.Core.Path.{◌≡◌}
use native.Mathlib.Omega.{arith}
use Prim.Native.Nat.{◌≤◌, ◌<◌, ◌^◌}
use lib.Dec.{lit<}
use lib.IntN.{ℤ, nat_abs, ◌-ℤ◌}
use lib.Signed.{mag}
use mir.Syntax.{w32, w64}
use mir.Val.{to_z, of_z}
use Rattle.integers.proofs.Order.{abs--}
use Rattle.integers.proofs.Machine.{Val, rd, ret, read, sub, mul}
use Rattle.geom.specs.Points.{cross}
use Rattle.geom.proofs.Points.{near_x, near_y}
use Rattle.geom.proofs.cross.Goals as goal
use Rattle.geom.proofs.cross.Lts
use Rattle.geom.proofs.cross.Reads
use Rattle.geom.proofs.cross.Tie

abbrev After-difference-vx : Type 0
After-difference-vx = Lts.After-difference3 Tie.the-claims Reads.Pre Reads.Post

abbrev After-difference-uy : Type 0
After-difference-uy = Lts.After-difference2 Tie.the-claims Reads.Pre Reads.Post

abbrev After-difference-ux : Type 0
After-difference-ux = Lts.After-difference Tie.the-claims Reads.Pre Reads.Post

abbrev Start : Type 0
Start = Lts.Start Tie.the-claims Reads.Pre Reads.Post

-- what `difference` returned of two coordinates
leg : (r a b : ℤ) → mag r < 2 ^ 63 → r ≡ to_z w32 (of_z w32 a) -ℤ to_z w32 (of_z w32 b) → mag a < 2 ^ 31 → mag b < 2 ^ 31 → nat_abs a ≤ 16777216 → nat_abs b ≤ 16777216
    → Val 33554432 (to_z w64 (of_z w64 r)) (a -ℤ b)
leg r a b h e ha hb la lb = record { is = cc (read w64 r h, read w32 a ha, read w32 b hb); bound = omega (arith, abs-- a b) }

module _ (c : goal.After-difference-vy) where
  abbrev d₃ : After-difference-vx
  d₃ = c.before.before.before

  abbrev d₂ : After-difference-uy
  d₂ = d₃.before.before.before

  abbrev d₁ : After-difference-ux
  d₁ = d₂.before.before.before

  abbrev s : Start
  s = d₁.before.before.before

  ux : Val 33554432 (to_z w64 (of_z w64 d₁.difference-ux.result)) (s.args.q.x -ℤ s.args.p.x)
  ux = leg _ s.args.q.x s.args.p.x d₁.difference-ux.type_inv d₁.difference-ux.ensures (omega arith) (omega arith) (near_x s.args.q s.requires.1) (near_x s.args.p s.requires.0)

  uy : Val 33554432 (to_z w64 (of_z w64 d₂.difference-uy.result)) (s.args.q.y -ℤ s.args.p.y)
  uy = leg _ s.args.q.y s.args.p.y d₂.difference-uy.type_inv d₂.difference-uy.ensures (omega arith) (omega arith) (near_y s.args.q s.requires.1) (near_y s.args.p s.requires.0)

  vx : Val 33554432 (to_z w64 (of_z w64 d₃.difference-vx.result)) (s.args.r.x -ℤ s.args.p.x)
  vx = leg _ s.args.r.x s.args.p.x d₃.difference-vx.type_inv d₃.difference-vx.ensures (omega arith) (omega arith) (near_x s.args.r s.requires.2) (near_x s.args.p s.requires.0)

  vy : Val 33554432 (to_z w64 (of_z w64 c.difference-vy.result)) (s.args.r.y -ℤ s.args.p.y)
  vy = leg _ s.args.r.y s.args.p.y c.difference-vy.type_inv c.difference-vy.ensures (omega arith) (omega arith) (near_y s.args.r s.requires.2) (near_y s.args.p s.requires.0)

pub overflow_mul-result : goal.overflow_mul-result
overflow_mul-result c = (mul (ux c) (vy c) (lit< tt)).fits

pub overflow_mul-result-2 : goal.overflow_mul-result-2
overflow_mul-result-2 c = (mul (uy c) (vx c) (lit< tt)).fits

pub overflow_sub-result : goal.overflow_sub-result
overflow_sub-result c = (sub (rd {w = w64} (mul (ux c) (vy c) (lit< tt))) (rd {w = w64} (mul (uy c) (vx c) (lit< tt))) (lit< tt)).fits

pub returns : goal.returns
unfolding cross
returns c = ret {w = w64} (sub (rd {w = w64} (mul (ux c) (vy c) (lit< tt))) (rd {w = w64} (mul (uy c) (vx c) (lit< tt))) (lit< tt))
