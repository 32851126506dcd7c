-- No number is below 0; the sum of at most 2,048 points is at most 2^60.
use mathlib.Core.Path.{◌≡◌, refl, sym, ◌∙◌, ap}
use mathlib.Core.Bool.{Bool, true, false, not}
use native.Mathlib.Omega.{arith}
use Prim.Native.Nat.{ℕ, ◌/◌}
use lib.Dec.{leb, ltb}
use borrow.Author.Tests.{le-ltb, le-leb, lt-leb, ltb-true, ltb-false}
use lib.IntN.{nat_abs}
use mir.Syntax.{w64}
use mir.Val.{to_z, of_z}
use Rattle.integers.proofs.Machine.{got}
use Rattle.contour.specs.Points.{pair_up}
use Rattle.contour.specs.Area.{shoelace, is_large}
use Rattle.contour.proofs.Points.Coordinates.{length_pairs}
use Rattle.contour.proofs.Area.{shoelace_bound}
use Rattle.contour.proofs.is_large.Goals as goal

pub returns-then-least-eq0 : goal.returns-then-least-eq0
unfolding is_large
returns-then-least-eq0 c =
    let n = nat_abs (shoelace (pair_up c.args.points.now)) / 2 in
    sym (ap not (le-ltb n c.args.least (omega (arith, c.if-least-eq0.true))))

-- the sum, as passed on
sum : (c : goal.After-shoelace) → to_z w64 (of_z w64 c.shoelace.result) ≡ shoelace (pair_up c.args.points.now)
sum c = got w64 c.shoelace.result c.shoelace.type_inv c.shoelace.ensures

pub absolute-requires : goal.absolute-requires
absolute-requires c =
    let l = c.args.points.now in
    omega (arith, ap nat_abs (sum c), shoelace_bound (pair_up l) c.requires.1, length_pairs l, c.requires.0)

leb-ltb : (a b : ℕ) → leb a b ≡ not (ltb b a)
leb-ltb a b = go (ltb b a) refl
  where
    go : (t : Bool) → ltb b a ≡ t → leb a b ≡ not t
    go true e = lt-leb a b (ltb-true b a e)
    go false e = le-leb a b (ltb-false b a e)

pub returns : goal.returns
unfolding is_large
returns c =
    ap (λ (n : ℕ). leb c.args.least (n / 2)) (c.absolute.ensures ∙ ap nat_abs (got w64 c.shoelace.result c.shoelace.type_inv c.shoelace.ensures))
    ∙ leb-ltb c.args.least (nat_abs (shoelace (pair_up c.args.points.now)) / 2)
