-- What was tested of the place.
use mathlib.Core.Path.{sym, subst}
use lib.ListN.{length}
use Rattle.integers.proofs.Booleans.{clash}
use Rattle.segm.specs.declared.Segment.{Segment}
use Rattle.segm.specs.Segments.{segments}
use Rattle.faults.specs.Faultless.{Proper}
use Rattle.faults.proofs.Faultless.{proper_at}
use Rattle.scan.specs.declared.Sought.TheVariants.{Along}
use Rattle.scan.specs.Scan.{below_at, Changes}
use Rattle.scan.proofs.Scan.{all_proper}
use Rattle.open_list.proofs.OpenList.{changes_fit}
use Rattle.open_list.proofs.place_to_enter.Goals as goal

pub place_of-k-requires : goal.place_of-k-requires
place_of-k-requires c = (all_proper c.requires.0 c.args.list.now c.requires.2, subst Proper (sym c.requires.1) (proper_at c.requires.0 c.args.i c.requires.3))

pub returns-clause-can : goal.returns-clause-can
returns-clause-can c =
    λ x w n.
    let d = segments c.args.s.now in
    let l = c.args.list.now in
    let place = c.place_of-k in
    let changes = subst (λ (t : Segment). Changes (below_at d (Along t) l) 0 (length l) place.result) c.requires.1 place.ensures in
    absurd (clash (c.fits_at-2.ensures.1 (changes_fit d l c.requires.2 c.args.i place.result c.requires.3 n w changes)) c.if-fits_at-2.false)
