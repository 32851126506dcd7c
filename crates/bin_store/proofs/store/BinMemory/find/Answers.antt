-- Every item that holds p is ahead along the links, which go down.
use mathlib.Core.Path.{sym, ◌∙◌, ap}
use Prim.Native.Nat.{◌-◌}
use native.Mathlib.Omega.{arith}
use Rattle.geom.specs.Points.{eq_p}
use Rattle.bin_store.specs.Bins.{bin_index}
use Rattle.bin_store.proofs.Bins.Links.{ahead_first, ahead_next}
use Rattle.bin_store.proofs.store.BinMemory.find.Goals as goal

pub loop-j-init : goal.loop-j-init
loop-j-init c =
    let b = c.bin_index-b.result in
    let s = c.args.self.now in
    let l = c.requires.0.1.linked in
    (l.heads_below b, ahead_first s.nexts.now s.seen.now c.args.p s.counts.count s.heads.now l b (c.bin_index-b.ensures ∙ ap (λ n. bin_index n c.args.p) c.requires.0.0))

pub loop-j-preserved : goal.loop-j-preserved
loop-j-preserved c =
    let s = c.args.self.now in
    let e = (ap (λ q. eq_p q c.args.p) (sym c.point_at.ensures) ∙ sym c.same.ensures) ∙ c.if-same.false in
    (omega (arith, c.requires.0.1.linked.nexts_below (c.loop-j.j - 1) (omega arith)), ahead_next s.nexts.now s.seen.now c.args.p s.counts.count c.loop-j.j c.loop-j-test.true e c.loop-j.invariant.1)
