-- What is left of the digits decides.
use mathlib.Core.Path.{◌≡◌}
use Prim.Native.Nat.{◌^◌, ◌<◌, ◌≤◌}
use lib.ListN.{length, drop}
use Rattle.decimal.specs.Decimal.{worth, positive}
use Rattle.decimal.proofs.positive.Given as goal

abbrev pub invariant-loop-b : goal.invariant-loop-b
invariant-loop-b l = record {
  few : length l.s ≤ 9;
  small : l.v < 10 ^ l.b-index;
  rest : positive l.s ≡ worth l.v (drop l.b-index l.s);
}
