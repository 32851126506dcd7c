-- The first move's bit is cleared, the walk follows, and its points are written.
use Rattle.std.proofs.Common.{arith, ap, length}
use Rattle.clip_walk.specs.Flat.{moves_on}
use Rattle.clip_paths.proofs.Writing.OnePath.{front_is, front_fits, can_begin, as_many_rest, known_rest, fewer_rest, number_of}
use Rattle.clip_paths.proofs.links.next_path.Goals as goal

pub take-requires : goal.take-requires
take-requires c =
    let p = c.requires in
    (omega (arith, p.1), omega (arith, p.0.good.faultless.few, p.0.as_many), omega (arith, p.0.nodes_are.each_end, p.0.as_many), can_begin p.0 p.1 c.has-out.ensures p.2)

pub follow-n-requires : goal.follow-n-requires
follow-n-requires c =
    let p = c.requires in (
      omega (arith, p.1, as_many_rest p.0 p.1 _ c.take.ensures),
      known_rest p.0 p.1 _ c.take.ensures,
      omega (arith, p.3, fewer_rest p.0 p.1 _ c.take.ensures (can_begin p.0 p.1 c.has-out.ensures p.2)),
    )

pub slice_bounds-write_path-end : goal.slice_bounds-write_path-end
slice_bounds-write_path-end c = front_fits _ _ c.follow-n.ensures.0 c.follow-n.ensures.1

pub write_path-requires : goal.write_path-requires
unfolding moves_on
write_path-requires c =
    let p = c.requires in
    let front = ap length (front_is _ _ c.follow-n.ensures.0 c.follow-n.ensures.1) in
    (p.0.good.faultless.few, omega (arith, front), omega (arith, front, number_of p.0 p.1 _ c.take.ensures c.has-out.ensures, p.4))
