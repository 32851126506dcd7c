-- Arrays of the right sizes are working memory; what the check leaves there stands at the fronts.
use Rattle.std.proofs.Common.{◌≡◌, refl, sym, ◌∙◌, List, ℕ, zero, suc, ◌*◌, ◌≤◌, length, get_or, take, replicate, ℤ, pos, arith}
use Rattle.std.proofs.lemmas.List.{length-replicate}
use Rattle.segm.specs.Segments.{Drawing, count, segments}
use Rattle.segm.proofs.Segments.{length-segments}
use Rattle.graph.specs.Nodes.{Nodes, NodesIn}
use Rattle.graph.proofs.Fronts.{front_nodes}
use Rattle.drawing_check.specs.Memory.{EndsOf, EndsRoom}

pub fresh : (n i : ℕ) → get_or (replicate n (pos 0)) i (pos 0) ≡ pos 0
fresh zero i = refl
fresh (suc n) zero = refl
fresh (suc n) (suc i) = fresh n i

pub fresh_ends : (d : Drawing) (segments ends : ℕ) → EndsOf segments ends → length d ≤ segments → EndsRoom d (replicate ends 0) (replicate segments 0) (replicate ends (pos 0))
fresh_ends d segments ends right few = record {
  keys_room = omega (arith, length-replicate {A = ℕ} ends 0, right.1);
  scratch_room = omega (arith, length-replicate {A = ℕ} segments 0);
  sums_room = omega (arith, length-replicate ends (pos 0), right.1);
  sums_blank = fresh ends;
}

-- by how many segments there are
pub as_many : (numbers : List ℤ) (n : ℕ) → n ≡ count numbers → n ≡ length (segments numbers)
as_many numbers n e = e ∙ sym (length-segments numbers)

pub front_graph : (numbers : List ℤ) (n : ℕ) (flat starts nodes : List ℕ) → n ≡ count numbers → NodesIn (segments numbers) flat starts nodes
    → Nodes (segments numbers) (take (2 * n) flat) starts (take (2 * n) nodes)
front_graph numbers n flat starts nodes e are = front_nodes (segments numbers) flat starts nodes are n (as_many numbers n e)
