-- What enters, what is counted up and what stands.
use mathlib.Core.Path.{◌≡◌}
use native.Mathlib.Omega.{arith}
use Prim.Native.Nat.{◌+◌, ◌*◌}
use lib.ListN.{length, take}
use lib.Seq.{length-take-le}
use Rattle.integers.proofs.Booleans.{clash}
use Rattle.segm.specs.Segments.{segments, segment_at}
use Rattle.count_up.specs.CountUp.{BoundedBy}
use Rattle.count_up.proofs.CountUp.{climbed_within}
use Rattle.open_list.proofs.OpenList.{entered_known}
use Rattle.verticals.proofs.Verticals.Gaps.{stands_in_gap}
use Rattle.starts.proofs.Starts.Counting.{node_counting}
use Rattle.starts.proofs.start_node.Goals as goal

pub count_node-high-requires : goal.count_node-high-requires
count_node-high-requires c =
    let list = c.enter_all.new.list in
    let used = c.in_ok-entered.entered.used in
    let came = c.in_ok-entered.ensures.passed in
    let long : length (take used list) ≡ used = length-take-le used list (omega (arith, came.0, c.requires.1, c.requires.3)) in
    let small : BoundedBy 2100000000 c.args.tops.now = λ i. let h = c.requires.9 i in omega (arith, h, c.requires.8.since, c.requires.1, c.requires.0.few) in
    (c.requires.0, entered_known c.requires.1 c.requires.5 came.1, omega (arith, long, came.0, c.requires.1, c.requires.0.few), omega (arith, long), small, c.requires.4)

pub stand_all-requires : goal.stand_all-requires
stand_all-requires c =
    let list = c.enter_all.new.list in
    let used = c.in_ok-entered.entered.used in
    let came = c.in_ok-entered.ensures.passed in
    let long : length (take used list) ≡ used = length-take-le used list (omega (arith, came.0, c.requires.1, c.requires.3)) in
    let known = entered_known c.requires.1 c.requires.5 came.1 in
    let greater = climbed_within c.count_node-high.ensures c.requires.0 known (omega (arith, long, came.0, c.requires.1, c.requires.0.few)) c.requires.9 in
    let wide : BoundedBy 2100000000 c.count_node-high.new.tops = λ i. let h = greater i in omega (arith, h, c.requires.8.since, c.requires.1, c.requires.0.few) in
    (c.requires.0, c.requires.1, known, omega (arith, c.requires.4), wide)

pub returns-then-not-stand_all-clause-can : goal.returns-then-not-stand_all-clause-can
returns-then-not-stand_all-clause-can c =
    let list = c.enter_all.new.list in
    let used = c.in_ok-entered.entered.used in
    let came = c.in_ok-entered.ensures.passed in
    λ w. absurd (clash (c.stand_all.ensures.2 (w.clears c.args.to (take used list) (omega (arith, c.requires.8.since)) (omega arith) came.1)) c.if-not-stand_all.true)

pub returns-clause-passed : goal.returns-clause-passed
returns-clause-passed c =
    let d = segments c.args.s.now in
    let list = c.enter_all.new.list in
    let used = c.in_ok-entered.entered.used in
    let came = c.in_ok-entered.ensures.passed in
    let l' = take used list in
    let long : length l' ≡ used = length-take-le used list (omega (arith, came.0, c.requires.1, c.requires.3)) in
    let known = entered_known c.requires.1 c.requires.5 came.1 in
    let climbed = c.count_node-high.ensures in
    let greater = climbed_within climbed c.requires.0 known (omega (arith, long, came.0, c.requires.1, c.requires.0.few)) c.requires.9 in
    let all = c.stand_all.ensures.0 c.if-not-stand_all.false in
    let to = c.args.to in (
      came.0,
      record {
        entered = came.1;
        gaps = λ v a b u. record { m = to; own = b; till = omega arith; splits = c.requires.8.splits; between = l'; entered = came.1; in_gap = let g = all.each v a b u in stands_in_gap d (segment_at d v) l' g.place g.in_gap };
        counted = node_counting c.requires.0 c.requires.8 c.requires.1 c.requires.7 c.requires.4 came.1 came.2 (λ h. omega (arith, h, long)) climbed all;
      },
      (λ i. let h = c.stand_all.ensures.1 (2048000 * c.args.from + 1024000) greater i in omega (arith, h, c.requires.8.since, c.requires.1, c.requires.0.few)),
    )
