-- From event to event.
use mathlib.Core.Path.{refl}
use native.Mathlib.Omega.{arith}
use Rattle.integers.proofs.Booleans.{clash}
use Rattle.segm.specs.Segments.{segments}
use Rattle.graph.proofs.Flat.{ordered}
use Rattle.meeting_sweep.proofs.Events.Runs.{past_further}
use Rattle.meeting_sweep.proofs.Events.Sweeping.{progress_first, progress_next, progress_places, progress_distinct, progress_last, all_started, column, left_open, splits_before, splits_after, coming}
use Rattle.meeting_sweep.proofs.Events.ClearEvent.{clear_event}
use Rattle.meeting_sweep.proofs.sweep_events.Goals as goal

pub loop-passed-init : goal.loop-passed-init
loop-passed-init c =
    record { within = omega arith; few = omega arith; progress = progress_first (segments c.args.s.now) c.args.flat.now c.requires.0 (ordered (segments c.args.s.now) c.requires.1); small = c.requires.4; counted = λ counts k i u. absurd (omega arith) }

pub starts_past-starts-requires : goal.starts_past-starts-requires
starts_past-starts-requires c = c.loop-passed.invariant.within

pub slice_bounds-event-count : goal.slice_bounds-event-count
slice_bounds-event-count c = c.ends_past-ends.ensures.from

pub event-event-requires : goal.event-event-requires
event-event-requires c =
    let l = c.loop-passed in
    let d = segments c.args.s.now in
    let flat = c.args.flat.now in
    let past = c.ends_past-ends.ensures in
    let starts = c.starts_past-starts.ensures in
    let more = c.loop-passed-test.true in (
      c.requires.0,
      column d flat c.requires.0 (ordered (segments c.args.s.now) c.requires.1) l.invariant.progress more past starts,
      starts.from,
      starts.till,
      l.invariant.few,
      omega (arith, c.requires.2),
      omega (arith, c.requires.3),
      progress_places d flat c.requires.0 (ordered (segments c.args.s.now) c.requires.1) l.invariant.progress,
      l.invariant.progress.swept.list.chain,
      progress_distinct d flat c.requires.0 (ordered (segments c.args.s.now) c.requires.1) l.invariant.progress,
      splits_before d flat c.requires.0 (ordered (segments c.args.s.now) c.requires.1) l.invariant.progress more past starts,
      splits_after d flat c.requires.0 (ordered (segments c.args.s.now) c.requires.1) l.invariant.progress more past starts,
      l.invariant.small,
    )

pub returns-in_default : goal.returns-in_default
returns-in_default c =
    let l = c.loop-passed in
    let past = c.ends_past-ends.ensures in
    let starts = c.starts_past-starts.ensures in
    ((λ t. absurd (clash t refl), λ apart. c.in_default.ensures.can (clear_event (segments c.args.s.now) c.args.flat.now c.requires.0 (ordered (segments c.args.s.now) c.requires.1) apart l.invariant.progress c.loop-passed-test.true past starts)), λ t. absurd (clash t refl))

pub loop-passed-smaller : goal.loop-passed-smaller
loop-passed-smaller c =
    let past = c.ends_past-ends.ensures in
    omega (arith, past_further past c.loop-passed-test.true refl, past.till)

pub loop-passed-preserved : goal.loop-passed-preserved
loop-passed-preserved c =
    let l = c.loop-passed in
    let d = segments c.args.s.now in
    let flat = c.args.flat.now in
    let more = c.loop-passed-test.true in
    let past = c.ends_past-ends.ensures in
    let starts = c.starts_past-starts.ensures in
    let happened = c.in-Some.ensures.passed in
    let between = left_open d flat c.requires.0 (ordered (segments c.args.s.now) c.requires.1) l.invariant.progress more past starts happened.1.left in
    record {
      within = starts.till;
      few = happened.0;
      progress = progress_next d flat c.requires.0 (ordered (segments c.args.s.now) c.requires.1) l.invariant.progress more past starts happened.1;
      small = happened.2;
      counted = λ counts k. happened.1.started.counted counts k _ between (coming d flat c.requires.0 (ordered (segments c.args.s.now) c.requires.1) l.invariant.progress more past starts).here (l.invariant.counted counts k);
    }

pub returns : goal.returns
returns c =
    let inv = c.loop-passed.invariant in
    let d = segments c.args.s.now in
    let flat = c.args.flat.now in (
      (λ t. progress_last d flat c.requires.0 (ordered (segments c.args.s.now) c.requires.1) inv.progress (omega arith), λ apart. refl),
      (λ t counts k i u. inv.counted counts k i (all_started d flat c.requires.0 (ordered (segments c.args.s.now) c.requires.1) inv.progress (omega (arith, c.loop-passed-test.false)) i u)),
    )
