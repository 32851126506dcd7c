-- The node of the other end, its first end that fits, and that end's bit cleared.
use Rattle.clip_walk.proofs.Flat.{far_at, end_at}
use Rattle.clip_walk.proofs.go_on.Goals as goal

pub find_next-requires : goal.find_next-requires
find_next-requires c = (c.requires.1.few, far_at _ c.requires.1 c.requires.0 c.link_of.ensures c.link_at-link.ensures c.far_node.ensures)

pub take-requires : goal.take-requires
take-requires c =
    let f = end_at c.args.bits.now c.args.out (far_at _ c.requires.1 c.requires.0 c.link_of.ensures c.link_at-link.ensures c.far_node.ensures) c.in_ok-next.ensures in
    (f.0, c.requires.1.few, c.requires.1.each_end, f.1)
