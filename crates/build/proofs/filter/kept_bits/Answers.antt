-- The test decides.
use mathlib.Core.Path.{◌≡◌, sym, ap, ◌∙◌}
use mathlib.Core.Bool.{Bool, cond}
use Prim.Native.Nat.{ℕ, ◌/◌}
use Rattle.build.proofs.filter.kept_bits.Goals as goal

-- the arm of a test that came out so
arm : (fill : ℕ) {tested is b : Bool} → tested ≡ is → tested ≡ b → cond b (fill / 4) 0 ≡ cond is (fill / 4) 0
arm fill e t = ap (λ (z : Bool). cond z (fill / 4) 0) (sym t ∙ e)

pub returns-then-keeps : goal.returns-then-keeps
returns-then-keeps c = let k = c in arm k.args.fill k.keeps.ensures c.if-keeps.true

pub returns-else-keeps : goal.returns-else-keeps
returns-else-keeps c = let k = c in arm k.args.fill k.keeps.ensures c.if-keeps.false
