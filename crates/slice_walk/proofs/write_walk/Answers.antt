-- The moves made and those to come are the walk.
use mathlib.Core.Path.{sym, ap₂, ◌∙◌}
use Rattle.geom.specs.Points.{eq_p}
use Rattle.slice_walk.proofs.Writing.OneWalk.{opens, begin, room_for, as_many₁, below₁, fewer, closed, stuck, onward}
use Rattle.slice_walk.proofs.write_walk.Goals as goal

pub loop-home-init : goal.loop-home-init
loop-home-init c = begin _ _ _ _ _ (opens _ _ _ _ _ c.requires c.has-direction.ensures)

pub put_point-requires : goal.put_point-requires
put_point-requires c = room_for _ _ _ _ _ (opens _ _ _ _ _ c.requires c.has-direction.ensures) c.loop-home.invariant

pub returns-then-same : goal.returns-then-same
returns-then-same c =
    closed _ _ _ _ _ (opens _ _ _ _ _ c.requires c.has-direction.ensures) c.loop-home.invariant c.take.ensures c.end_point.ensures c.put_point.ensures c.other_end-f.ensures
    (sym (c.same.ensures ∙ ap₂ eq_p c.end_point-in-loop-home.ensures c.end_point-home.ensures) ∙ c.if-same.true)

pub find_nearest-requires : goal.find_nearest-requires
find_nearest-requires c =
    let o = opens _ _ _ _ _ c.requires c.has-direction.ensures in
    let r = c.requires.0 in (
      record {
        faultless = r.faultless;
        nodes_are = r.nodes_are;
        as_many = as_many₁ _ _ _ _ _ o c.loop-home.invariant c.take.ensures c.end_point.ensures c.put_point.ensures c.other_end-f.ensures;
      },
      below₁ _ _ _ _ _ o c.loop-home.invariant c.take.ensures c.end_point.ensures c.put_point.ensures c.other_end-f.ensures,
    )

pub returns-in_err-e : goal.returns-in_err-e
returns-in_err-e c =
    stuck _ _ _ _ _ (opens _ _ _ _ _ c.requires c.has-direction.ensures) c.loop-home.invariant c.take.ensures c.end_point.ensures c.put_point.ensures c.other_end-f.ensures
    (sym (c.same.ensures ∙ ap₂ eq_p c.end_point-in-loop-home.ensures c.end_point-home.ensures) ∙ c.if-same.false) _ c.find_nearest.ensures c.in_err-e.was _ c.from_residual.ensures

pub loop-home-smaller : goal.loop-home-smaller
loop-home-smaller c = fewer _ _ _ _ _ (opens _ _ _ _ _ c.requires c.has-direction.ensures) c.loop-home.invariant c.take.ensures c.end_point.ensures c.put_point.ensures c.other_end-f.ensures

pub loop-home-preserved : goal.loop-home-preserved
loop-home-preserved c =
    onward _ _ _ _ _ (opens _ _ _ _ _ c.requires c.has-direction.ensures) c.loop-home.invariant c.take.ensures c.end_point.ensures c.put_point.ensures c.other_end-f.ensures
    (sym (c.same.ensures ∙ ap₂ eq_p c.end_point-in-loop-home.ensures c.end_point-home.ensures) ∙ c.if-same.false) _ c.find_nearest.ensures c.in_ok-e.was
