-- All up to the place to which the loop has come start at the first one's point.
use mathlib.Core.Path.{◌≡◌, sym, ap, ap₂, ◌∙◌}
use native.Mathlib.Omega.{arith}
use native.Mathlib.Decide.{ℕ_discrete}
use Prim.Native.Nat.{◌-◌, ◌<◌}
use Rattle.geom.specs.Points.{eq_p}
use Rattle.geom.proofs.Points.{eq_p-true, eq_eq_p}
use Rattle.integers.proofs.Booleans.{clash}
use Rattle.segm.specs.declared.Segment.{Segment}
use Rattle.segm.specs.Segments.{segments, segment_at}
use Rattle.count_up.proofs.CountUp.{but_one}
use Rattle.starts.proofs.Starts.Nodes.{splits_at}
use Rattle.starts.proofs.node_end.Goals as goal

pub returns-then-not-here : goal.returns-then-not-here
returns-then-not-here c =
    let d = segments c.args.s.now in
    let j = c.loop-j.j in
    let from = c.args.from in
    let inv = c.loop-j.invariant in
    let since : from < j = omega arith in
    let same-is : c.same-here.result ≡ eq_p (segment_at d j).a (segment_at d from).a = c.same-here.ensures ∙ ap₂ eq_p (ap (λ (t : Segment). t.a) c.segment_in-t.ensures) (ap (λ (t : Segment). t.a) c.segment_in-first.ensures) in
    let last = inv (j - 1) (omega arith) (omega arith) in
    record {
      since = since;
      till = omega arith;
      here = inv;
      splits = splits_at c.requires.0 j (omega arith) (omega (arith, c.requires.2)) (λ e. clash (same-is ∙ eq_eq_p (e ∙ last)) c.if-not-here.true);
    }

pub loop-j-preserved : goal.loop-j-preserved
loop-j-preserved c =
    let d = segments c.args.s.now in
    let j = c.loop-j.j in
    let from = c.args.from in
    let inv = c.loop-j.invariant in
    let same-is : c.same-here.result ≡ eq_p (segment_at d j).a (segment_at d from).a = c.same-here.ensures ∙ ap₂ eq_p (ap (λ (t : Segment). t.a) c.segment_in-t.ensures) (ap (λ (t : Segment). t.a) c.segment_in-first.ensures) in
    λ i h m. but_one (λ n. (segment_at d n).a ≡ (segment_at d from).a) i j (ℕ_discrete i j) (λ n. inv i h (omega arith)) (eq_p-true (sym same-is ∙ c.if-not-here.false))
