-- What was refused before stays, and what 3 to 7 and 13 refuse; else fresh arrays are memory for the ends.
use Rattle.std.proofs.Common.{sym, ◌∙◌, ap, Err, ◌≤◌, length, arith}
use Rattle.std.proofs.lemmas.Result.{err_from_is_err_and}
use Rattle.refusal.specs.Order.{Verdict, ◌then◌}
use Rattle.refusal.proofs.Order.{not_both, passed_on}
use Rattle.segm.specs.Segments.{segments}
use Rattle.faults.specs.Faults.{faults_of}
use Rattle.faults.proofs.Faultless.{faultless}
use Rattle.drawing_check.specs.Drawing.{meetings_of, unbalanced_of, drawing_verdict}
use Rattle.drawing_check.specs.Memory.{Prepared}
use Rattle.drawing_check.proofs.Memory.{fresh_ends}
use Rattle.drawing_check.proofs.check.Goals as goal

pub returns-in_err-before : goal.returns-in_err-before
returns-in_err-before g c =
    let d = segments c.args.s.now in
    let p = err_from_is_err_and c.from_residual.result c.from_residual.ensures.1 in
    let e = p.1 ∙ ap Err p.2 in
    (passed_on c.args.before (drawing_verdict d) e c.in_err-before.was, λ t. not_both {X = Prepared d c.args.flat.now c.args.starts.now c.args.nodes.now c.args.tops.now} (sym e ∙ t))

pub returns-in_err-find_fault : goal.returns-in_err-find_fault
unfolding drawing_verdict
returns-in_err-find_fault g c =
    let d = segments c.args.s.now in
    let p = err_from_is_err_and c.from_residual-in_err-find_fault.result c.from_residual-in_err-find_fault.ensures.1 in
    let e = p.1 ∙ ap Err p.2 in
    let first = ap (λ (v : Verdict). v then drawing_verdict d) c.in_ok-before.was in
    (passed_on (faults_of d) (meetings_of d then unbalanced_of d) e (sym c.in_err-find_fault.ensures) ∙ sym first, λ t. not_both {X = Prepared d c.args.flat.now c.args.starts.now c.args.nodes.now c.args.tops.now} (sym e ∙ t))

pub check_ends-requires : goal.check_ends-requires
check_ends-requires g c =
    let d = segments c.args.s.now in
    let room = c.requires.room c.in_ok-before.was in
    let few : length d ≤ 1024 = omega (arith, c.requires.sizes.0, room.0) in
    (faultless d few (sym c.in_ok-find_fault.ensures), room.1, fresh_ends d g.row.SEGMENTS g.row.ENDS c.requires.sizes room.0)

pub returns : goal.returns
unfolding drawing_verdict
returns g c =
    let d = segments c.args.s.now in
    let first = ap (λ (v : Verdict). v then drawing_verdict d) c.in_ok-before.was in
    (c.check_ends.ensures.0 ∙ ap (λ (v : Verdict). v then meetings_of d then unbalanced_of d) c.in_ok-find_fault.ensures ∙ sym first, c.check_ends.ensures.1)
