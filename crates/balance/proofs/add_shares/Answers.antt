-- The sum of an end's node is at most 1,000 for each end, and no node has more than all of them.
use Rattle.std.proofs.Common.{sym, ◌∙◌, ℕ, ◌*◌, ◌<◌, length, get_or, pos, ◌+ℤ◌, arith}
use mir.Syntax.{w32}
use mir.Val.{to_z, of_z}
use lib.Dec.{lit<}
use Rattle.integers.proofs.Machine.{Is, rd, got, cast, add, ret}
use Rattle.segm.specs.Segments.{Drawing, segments}
use Rattle.balance.specs.Sums.{share, node_sum}
use Rattle.balance.proofs.Sums.{share_bound, sum-none, sum_small, summed_more}
use Rattle.balance.proofs.add_shares.Goals as goal

pub loop-e-init : goal.loop-e-init
loop-e-init c = λ v h. c.requires.2 v h ∙ sym (sum-none (segments c.args.s.now) c.args.nodes.now v)

module _ (c : goal.After-sums-1) where
  abbrev d : Drawing
  d = segments c.args.s.now

  abbrev e : ℕ
  e = c.loop-e.e

  -- the end's node
  abbrev v : ℕ
  v = get_or c.args.nodes.now e 0

  end_inside : e < 2 * length d
  end_inside = omega (arith, c.loop-e-test.true, c.requires.1.each_end)

  node_inside : v < length c.loop-e.sums
  node_inside = omega (arith, c.requires.1.has-sum e end_inside, c.loop-e.auto.sums)

  -- the new sum of the end's node
  added : Is w32 2049000 (to_z w32 (of_z w32 (get_or c.loop-e.sums v (pos 0))) +ℤ to_z w32 (of_z w32 c.share.result)) (node_sum d c.args.nodes.now e v +ℤ share d e)
  added =
      let small = sum_small d c.args.nodes.now c.requires.0 e v (omega (arith, end_inside)) in
      let old : Is w32 2048000 (get_or c.loop-e.sums v (pos 0)) (node_sum d c.args.nodes.now e v) = cast (record { is = c.loop-e.invariant v node_inside; bound = small }) (lit< tt) in
      add {w = w32} {m = 2048000} {n = 1000} (rd old) (record { is = got w32 c.share.result c.share.type_inv c.share.ensures; bound = share_bound d c.requires.0 e end_inside }) (lit< tt)

pub overflow_add-sums : goal.overflow_add-sums
overflow_add-sums c = (added c).fits

pub loop-e-preserved : goal.loop-e-preserved
loop-e-preserved c = summed_more (d c) c.args.nodes.now (e c) c.loop-e.sums _ (node_inside c) c.loop-e.invariant (ret (added c))
