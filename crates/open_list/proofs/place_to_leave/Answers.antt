-- The place by search is the segment's own, if it is in a list that spans one strip.
use mathlib.Core.Path.{sym, subst}
use native.Mathlib.Omega.{arith}
use lib.ListN.{length}
use Rattle.segm.specs.declared.Segment.{Segment}
use Rattle.segm.specs.Segments.{segments}
use Rattle.faults.specs.Faultless.{Proper}
use Rattle.faults.proofs.Faultless.{proper_at}
use Rattle.scan.specs.declared.Sought.TheVariants.{Along}
use Rattle.scan.specs.Scan.{below_at, Changes}
use Rattle.scan.proofs.Scan.{all_proper}
use Rattle.open_list.proofs.OpenList.{changes_found}
use Rattle.open_list.proofs.place_to_leave.Goals as goal
use Rattle.open_list.proofs.place_to_leave.Goals.{else-k-list-via-then-k-list+else-list-k, else-k-list-via-else-k-list}

pub place_of-k-requires : goal.place_of-k-requires
place_of-k-requires c = (all_proper c.requires.0 c.args.list.now c.requires.3, subst Proper (sym c.requires.1) (proper_at c.requires.0 c.args.i c.requires.2))

pub returns-clause-can : goal.returns-clause-can
returns-clause-can c =
    λ x w m.
    let d = segments c.args.s.now in
    let l = c.args.list.now in
    let changes = subst (λ (t : Segment). Changes (below_at d (Along t) l) 0 (length l) c.place_of-k.result) c.requires.1 c.place_of-k.ensures in
    let found = changes_found d l c.requires.3 c.requires.4 w c.args.i c.place_of-k.result m changes in
    elim c.else-k-list.branch [ else-k-list-via-then-k-list+else-list-k w ↦ absurd (omega arith) | else-k-list-via-else-k-list w ↦ absurd (omega arith) ]
