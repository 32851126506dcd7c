-- The part of the node, of which the first end is looked for whose line bit remains.
use Rattle.std.proofs.Common.{◌*◌, ◌<◌, length}
use Rattle.std.proofs.iter.Serving.{serving}
use Rattle.std.specs.List.{All}
use Rattle.lists.proofs.Members.{in_at}
use Rattle.graph.specs.Nodes.{part}
use Rattle.clip_walk.proofs.find_next.Goals as goal

pub find-requires-clause-callable : goal.find-requires-clause-callable
unfolding part
find-requires-clause-callable c =
    let below : All (λ e. e < 2 * length c.args.bits.now) (part c.args.g.flat.now c.args.g.starts.now c.args.v) = λ k d h. c.requires.1.ends _ (in_at _ d k h) in
    grind serving
