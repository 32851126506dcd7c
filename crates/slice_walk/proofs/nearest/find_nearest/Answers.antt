-- The nearest other end, or the current link's own if that can be left.
use Rattle.std.proofs.Common.{rules, arith, ◌≡◌, ◌*◌, ◌<◌, cond, Some, None, MatchOption, length, get_or, sym, subst}
use Rattle.segm.specs.Segments.{segments}
use Rattle.moves.specs.Moves.{remains}
use Rattle.moves.specs.ByEnd.{move_of, NodeAt}
use Rattle.moves.proofs.ByEnd.{node_at_lem}
use Rattle.slice_walk.proofs.Ends.{next_is}
use Rattle.slice_walk.proofs.nearest.find_nearest.Goals as goal

pub find_other-other-requires : goal.find_other-other-requires
find_other-other-requires c =
    let w = c.requires.0 in (
      w.faultless,
      w.as_many,
      subst (λ m. NodeAt m c.args.g.flat.now c.args.g.starts.now (get_or c.args.g.nodes.now c.args.f 0)) (sym w.as_many) (node_at_lem w.nodes_are c.args.f (omega (arith, c.requires.0.as_many))),
      c.requires.1,
    )

pub returns : goal.returns
returns c =
    let w = c.requires.0 in
    let current = cond (remains c.args.bits.now (move_of (length c.args.bits.now) c.args.direction c.args.f)) (Some c.args.f) None in
    let answer : MatchOption c.find_other-other.result (c.or_else.result ≡ current) (λ e. c.or_else.result ≡ Some e) = search rules in
    let below : c.args.f < 2 * length (segments c.args.links.now) = omega arith in
    next_is _ w.faultless _ _ below _ _ _ _ w.nodes_are w.as_many _ c.find_other-other.ensures answer
