-- The lists hold zeros.
use mathlib.Core.Path.{sym}
use Prim.Native.Nat.{◌≤◌}
use native.Mathlib.Omega.{arith}
use lib.ListN.{length}
use lib.Seq.{length-take-le}
use Rattle.clip_text.specs.Answer.{answer_to}
use Rattle.clip_text.proofs.answer.Goals as goal

pub returns : goal.returns
unfolding answer_to
returns c =
    let a = c.answer_with in
    let few : a.result ≤ length a.new.out = omega (arith, a.ensures.upper_bound, a.auto.out) in
    record { prefix_len = (few, sym (length-take-le a.result a.new.out few)); value = a.ensures.value }
