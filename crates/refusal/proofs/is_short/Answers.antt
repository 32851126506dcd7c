-- A quotient below n is a number below the product.
use borrow.Author.Tests.{ltb-true, lt-ltb}
use native.Mathlib.Nat.{div-lt_iff_lt-mul, mul_comm}
use Prim.Native.Nat.{◌*◌, ◌/◌}
use lib.Dec.{ltb}
use Rattle.integers.proofs.Booleans.{same_test}
use Rattle.refusal.specs.Asked.{too_short}
use Rattle.refusal.proofs.is_short.Goals as goal

pub returns : goal.returns
unfolding too_short
returns c =
    let a = c.args in
    let bound = div-lt_iff_lt-mul {k = a.each} {x = a.entries} {y = a.n} c.requires in
    same_test (ltb (a.entries / a.each) a.n) (ltb a.entries (a.each * a.n))
    (λ e. lt-ltb a.entries (a.each * a.n) (rw mul_comm (bound.0 (ltb-true (a.entries / a.each) a.n e))))
    (λ e. lt-ltb (a.entries / a.each) a.n (bound.1 (rw mul_comm (ltb-true a.entries (a.each * a.n) e))))
