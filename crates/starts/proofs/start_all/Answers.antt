-- As many nodes as were passed.
use mathlib.Core.Path.{◌≡◌, refl, subst}
use native.Mathlib.Omega.{arith}
use Prim.Native.Nat.{ℕ, ◌*◌}
use lib.ListN.{take}
use Rattle.integers.proofs.Booleans.{clash}
use Rattle.segm.specs.Segments.{segments}
use Rattle.count_up.specs.CountUp.{BoundedBy}
use Rattle.open_list.proofs.OpenList.{entered_known}
use Rattle.starts.specs.Starts.{Started}
use Rattle.starts.proofs.Starts.Onward.{started_more, can_start_next}
use Rattle.starts.proofs.start_all.Goals as goal

pub start_node-requires : goal.start_node-requires
start_node-requires c =
    let n = c.node_end-next in
    let inv = c.loop-i.invariant in (
      c.requires.0,
      omega (arith, n.ensures.till, c.requires.2),
      inv.fewer,
      omega (arith, c.requires.4),
      omega (arith, c.requires.5),
      entered_known (omega (arith, inv.until, c.requires.2)) c.requires.6 inv.started.entered,
      inv.started.entered.order,
      inv.splits,
      record { since = n.ensures.since; till = omega arith; here = n.ensures.here; splits = n.ensures.splits },
      inv.within,
    )

pub returns-in_err-held-clause-can : goal.returns-in_err-held-clause-can
returns-in_err-held-clause-can c =
    let n = c.node_end-next in
    let inv = c.loop-i.invariant in
    λ w. absurd (clash (c.in_err-held.ensures.can (can_start_next inv.since (omega (arith, n.ensures.since)) n.ensures.till w inv.started.entered)) refl)

pub loop-i-preserved : goal.loop-i-preserved
loop-i-preserved c =
    let n = c.node_end-next in
    let r = c.in_ok-held.ensures.passed in
    let inv = c.loop-i.invariant in
    record {
      since = omega (arith, inv.since, n.ensures.since);
      until = n.ensures.till;
      fewer = r.0;
      splits = n.ensures.splits;
      started = started_more c.requires.0 inv.since (omega (arith, n.ensures.since)) (omega (arith, n.ensures.till, c.requires.2)) inv.started r.1;
      within = r.2;
    }

pub returns-clause-passed : goal.returns-clause-passed
returns-clause-passed c =
    let l = c.loop-i in
    let there : l.i ≡ c.args.to = omega (arith, l.invariant.until) in (
      omega (arith, l.invariant.fewer),
      subst (λ (i : ℕ). Started (segments c.args.s.now) c.args.from i (take c.args.status.used c.args.list.now) (take l.held.used l.list) c.args.tops.now l.tops) there l.invariant.started,
      subst (λ (i : ℕ). BoundedBy (2048000 * i) l.tops) there l.invariant.within,
    )
