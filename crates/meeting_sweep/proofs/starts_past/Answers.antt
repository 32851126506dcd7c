-- The segments from k up to j start at one x.
use mathlib.Core.Path.{sym, ◌∙◌}
use native.Mathlib.Omega.{arith}
use lib.ListN.{length}
use Rattle.integers.proofs.Booleans.{clash}
use Rattle.geom.proofs.Points.{eq_z-true, eq_eq_z}
use Rattle.segm.specs.Segments.{segments}
use Rattle.segm.proofs.Segments.{length-segments}
use Rattle.meeting_sweep.proofs.Events.Runs.{runs_none, runs_on, runs_out, runs_end}
use Rattle.meeting_sweep.proofs.starts_past.Goals as goal

pub loop-j-init : goal.loop-j-init
loop-j-init c = runs_none _ c.args.k (length (segments c.args.s.now)) _ c.requires

pub returns-then-not-at_one_x : goal.returns-then-not-at_one_x
returns-then-not-at_one_x c = runs_out c.loop-j.invariant (λ h e. clash (c.at_one_x.ensures ∙ eq_eq_z e) (c.if-not-at_one_x.true))

pub loop-j-preserved : goal.loop-j-preserved
loop-j-preserved c =
    let l = c.loop-j in
    runs_on l.j l.invariant (omega (arith, c.count-n.ensures, length-segments c.args.s.now)) (eq_z-true (sym c.at_one_x.ensures ∙ c.if-not-at_one_x.false))

pub returns : goal.returns
returns c = runs_end c.loop-j.invariant (omega (arith, c.requires, c.count-n.ensures, length-segments c.args.s.now)) (c.count-n.ensures ∙ sym (length-segments c.args.s.now))
