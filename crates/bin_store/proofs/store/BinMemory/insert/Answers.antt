-- A point that was sighted has its number, and another is stored.
use mathlib.Core.Path.{refl}
use native.Mathlib.Omega.{arith}
use Rattle.bin_store.specs.Stores.{held}
use Rattle.bin_store.proofs.Bins.Sighted.{told_again, told_first}
use Rattle.bin_store.proofs.store.BinMemory.insert.Goals as goal

pub returns-in-Some : goal.returns-in-Some
returns-in-Some c =
    let s = c.args.self in
    let t = told_again s.counts.count s.seen.now s.numbers.now c.args.p c.args.number c.in-Some.i c.in-Some.ensures.0 c.in-Some.ensures.1 c.requires.0.1.linked.apart in
    record {
      holds = t.0;
      tells = t.1;
      one_more = omega arith;
      binned = c.requires.0;
      same_lists = record { heads_same = (refl, refl); nexts_same = (refl, refl); seen_same = (refl, refl); numbers_same = (refl, refl) };
    }

pub returns : goal.returns
returns c =
    let s = c.args.self in
    let t = told_first s.counts.count s.seen.now s.numbers.now c.args.p c.args.number (held c.store.new.self) c.in_default.ensures c.store.ensures.holds in
    record {
      holds = t.0;
      tells = t.1;
      one_more = omega (arith, c.store.ensures.one_more);
      binned = c.store.ensures.binned;
      same_lists = c.store.ensures.same_lists;
    }
