-- The guess is tried, then the place of v's head.
use Rattle.integers.proofs.Booleans.{clash}
use Rattle.segm.specs.Segments.{segments}
use Rattle.scan.proofs.Scan.{all_proper}
use Rattle.verticals.proofs.Verticals.Gaps.{clear_in_gap}
use Rattle.verticals.proofs.gap_of.Goals as goal

pub place_of-k-requires : goal.place_of-k-requires
place_of-k-requires c = (all_proper c.requires.0 c.args.list.now c.requires.2, c.requires.1.near_b)

pub returns-clause-can : goal.returns-clause-can
returns-clause-can c =
    let a = c.args in
    let k = c.place_of-k in
    λ f. absurd (clash (c.is_in_gap-2.ensures.1 (clear_in_gap (segments a.s.now) a.v a.list.now k.result k.ensures f)) c.if-is_in_gap-2.false)
