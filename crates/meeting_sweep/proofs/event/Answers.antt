-- Test after test, and what each says.
use native.Mathlib.Omega.{arith}
use Rattle.open_list.proofs.OpenList.{left_known}
use Rattle.meeting_sweep.proofs.event.Goals as goal

pub start_all-requires : goal.start_all-requires
start_all-requires c =
    let p = c.requires in
    let left = c.in_ok-left.ensures.passed in
    (p.0, p.2, p.3, omega (arith, left.0, p.4), omega (arith, p.5), p.6, left_known p.7 left.1, left.1.order, p.10, p.11, p.12)
