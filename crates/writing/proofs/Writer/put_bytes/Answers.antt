-- The bytes passed are put.
use mathlib.Core.Path.{◌≡◌}
use mathlib.Core.List.{List, [], ◌∷◌, ◌++◌}
use Prim.Native.Nat.{ℕ, ◌+◌, ◌<◌}
use native.Mathlib.Numerals.{add-one}
use native.Mathlib.Omega.{arith}
use lib.ListN.{length, get_or, drop, drop_of_length-le}
use lib.Seq.{drop-cons}
use Rattle.writing.proofs.Puts.{left_all, left_less, left_none, left_fits}
use Rattle.writing.proofs.Writer.put_bytes.Goals as goal

-- one more is left
next : (s : List ℕ) (i : ℕ) → i < length s → drop i s ≡ (get_or s i 0 ∷ []) ++ drop (i + 1) s
next s i h = rw add-one (drop-cons s i 0 h)

pub loop-b-init : goal.loop-b-init
loop-b-init c = left_all c.args.s.now c.args.self.now

pub put_byte-requires : goal.put_byte-requires
put_byte-requires c =
    let s = c.args.s.now in
    let i = c.loop-b.b-index in
    left_fits c.loop-b.invariant (get_or s i 0 ∷ []) (drop (i + 1) s) (next s i c.loop-b-test.true) c.requires

pub loop-b-preserved : goal.loop-b-preserved
loop-b-preserved c = left_less c.loop-b.invariant (next c.args.s.now c.loop-b.b-index c.loop-b-test.true) c.put_byte.ensures

pub returns : goal.returns
returns c = left_none c.loop-b.invariant (drop_of_length-le c.args.s.now c.loop-b-test.false)
