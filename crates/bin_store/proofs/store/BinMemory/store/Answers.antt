-- The bin's old head is linked behind the item, which is its new head.
use mathlib.Core.Path.{refl, sym, ap, ◌∙◌}
use lib.ListN.{length-set}
use Rattle.bin_store.specs.Bins.{bin_index}
use Rattle.bin_store.proofs.Bins.Stored.{memory_stored, binned_stored}
use Rattle.bin_store.proofs.store.BinMemory.store.Goals as goal

pub returns : goal.returns
returns c =
    let s = c.args.self.now in
    let put = c.put_point in
    record {
      holds = memory_stored s.counts.count s.heads.now s.nexts.now s.seen.now put.new.points s.numbers.now c.args.p c.args.number c.requires.1 put.ensures;
      one_more = refl;
      binned = (
        c.requires.0.0 ∙ sym (length-set _ _ _),
        binned_stored s.counts.count s.heads.now s.nexts.now s.seen.now put.new.points s.numbers.now c.args.p c.args.number c.requires.1 put.ensures c.requires.0.1 c.requires.3
            c.bin_index-b.result (c.bin_index-b.ensures ∙ ap (λ n. bin_index n c.args.p) c.requires.0.0),
      );
      same_lists = record { heads_same = (refl, length-set _ _ _); nexts_same = (refl, length-set _ _ _); seen_same = (refl, put.auto.points); numbers_same = (refl, length-set _ _ _) };
    }
