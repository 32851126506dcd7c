-- A drawing that the check accepts is walked with what the check leaves of it.
use Rattle.std.proofs.Common.{sym, ap, subst, ◌∙◌, ℕ, refl, arith}
use Rattle.std.proofs.lemmas.List.{length-replicate}
use mir.Facts.{to_z-of_z}
use Rattle.segm.specs.Segments.{segments}
use Rattle.checks.proofs.Accepted.{drawing_good}
use Rattle.fill_rule.specs.declared.Rule.{Rule}
use Rattle.fill_rule.specs.FillRule.{rule_of}
use Rattle.slice_walk.specs.Walk.{walks}
use Rattle.slice_walk.specs.Writing.{WalksAre}
use Rattle.string_slice.specs.Contours.{side_bits}
use Rattle.string_slice.proofs.Walking.{walked}
use Rattle.string_slice.proofs.walks.make_walks.Goals as goal

pub walk_links-requires : goal.walk_links-requires
walk_links-requires g c = (
  drawing_good (segments c.args.s.now) (omega (arith, c.requires.1, c.requires.0.0.0)) (sym c.in_ok-check.ensures.0),
  c.graph.ensures,
  (c.in_ok-check.ensures.1 refl).counts_are,
  omega (arith, c.requires.1),
  omega (arith, c.requires.1, length-replicate {A = ℕ} g.row.SEGMENTS 0),
  c.requires.2,
)

pub returns : goal.returns
returns g c =
    let d = segments c.args.s.now in
    let by_rule = subst
    (λ (rule : Rule). WalksAre d (walks d (side_bits rule d)) c.args.walks.now c.args.walk_lengths.now c.args.directions.now c.walk_links.result c.walk_links.new.points c.walk_links.new.lengths c.walk_links.new.directions)
    (c.rule_of.ensures ∙ ap rule_of (to_z-of_z c.ranges.rule)) c.walk_links.ensures in
    walked d _ _ _ _ _ _ (walks d (side_bits (rule_of c.args.rule) d)) c.walk_links.result by_rule c.in_ok-check.ensures.0 c.ok_or.ensures.value
