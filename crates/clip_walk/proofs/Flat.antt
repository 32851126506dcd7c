-- The walk over flat lists: its next end, that it goes on by one turn, and that over the nodes of the links it makes the moves of the walk.
use mathlib.Core.Path.{◌≡◌, refl, sym, ◌∙◌, ap, subst, ap₂}
use mathlib.Core.List.{List, [], ◌∷◌, map, map-map}
use mathlib.Core.Option.{Option, none, some}
use mathlib.Core.Logic.{◌⊎◌, inl, inr}
use mathlib.Core.Bool.{Bool, true, false, cond}
use Prim.Native.Nat.{ℕ, zero, suc, ◌+◌, ◌-◌, ◌<◌, ◌≤◌, ◌*◌}
use native.Mathlib.Omega.{arith}
use lib.ListN.{length, get_or}
use Rattle.std.specs.Prelude.{Some, None}
use Rattle.geom.specs.declared.Point.{Point}
use Rattle.lists.specs.Members.{◌∈◌}
use Rattle.segm.specs.Segments.{Drawing, segment_at}
use lib.Dec.{ltb}
use Rattle.graph.specs.Nodes.{link_of, other_end, part, Nodes}
use Rattle.graph.proofs.Node.{other_end_below}
use Rattle.ends.specs.Ends.{end_point}
use Rattle.moves.specs.declared.Link.{Link}
use Rattle.moves.specs.Steps.{AllRise, fitting}
use Rattle.moves.specs.Moves.{Move, move, remains, taken, taken_all, bits_remaining, over}
use Rattle.moves.specs.Begins.{first_remaining}
use Rattle.moves.specs.ByEnd.{NextEnd, move_of, link_at, NodeAt, Graph, graph}
use Rattle.moves.proofs.Moves.{length_taken, takes_one}
use Rattle.moves.proofs.ByEnd.{first-move, move_end, fits, node_at_lem}
use Rattle.clip_walk.specs.Walk.{goes_on, and_then, follow, path_from}
use Rattle.clip_walk.specs.Flat.{far_node, first_end, next_end, taken_by, onward, follow_ends, moves_on, bits_after, NodesKnown}

-- ---- ends
-- the link of e knows the node of the other end
pub far_is : (nodes bits : List ℕ) (e : ℕ) → far_node (link_at nodes bits (link_of (length bits) e)) (ltb e (length bits)) ≡ get_or nodes (other_end (length bits) e) 0
unfolding far_node link_at link_of other_end
far_is nodes bits e = go (ltb e (length bits))
  where
    go : (b : Bool) → cond b (get_or nodes (length bits + cond b e (e - length bits)) 0) (get_or nodes (cond b e (e - length bits)) 0) ≡ get_or nodes (cond b (length bits + e) (e - length bits)) 0
    go true = refl
    go false = refl

-- ---- the first end whose line bit remains
module _ (m : ℕ) (out : Bool) (bits : List ℕ) where
  pub first_end_lem : (es : List ℕ) (f : ℕ) → first_end m out bits es ≡ Some f → (f ∈ es) × (remains bits (move_of m out f) ≡ true)
  unfolding first_end
  first_end_lem [] f e = let z : ◌≡◌ {A = ℕ} 0 1 = cc in absurd (omega arith)
  first_end_lem (g ∷ es) f e = go (remains bits (move_of m out g)) refl e (first_end_lem es f)
    where
      go : (b : Bool) → remains bits (move_of m out g) ≡ b → cond b (Some g) (first_end m out bits es) ≡ Some f
          → (first_end m out bits es ≡ Some f → (f ∈ es) × (remains bits (move_of m out f) ≡ true)) → ((f ≡ g) ⊎ (f ∈ es)) × (remains bits (move_of m out f) ≡ true)
      go true p q ih = let r : g ≡ f = cc in (inl (sym r), subst (λ x. remains bits (move_of m out x) ≡ true) r p)
      go false p q ih = let r = ih q in (inr r.0, r.1)

  -- one end more
  pub first_here : (e : ℕ) (es : List ℕ) → remains bits (move_of m out e) ≡ true → first_end m out bits (e ∷ es) ≡ Some e
  unfolding first_end
  first_here e es h = rw h

  pub first_later : (e : ℕ) (es : List ℕ) → remains bits (move_of m out e) ≡ false → first_end m out bits (e ∷ es) ≡ first_end m out bits es
  unfolding first_end
  first_later e es h = rw h

-- the node that a call of `go_on` looks at, and an end that it finds there
pub far_at : (bits : List ℕ) {flat starts nodes : List ℕ} {e k v : ℕ} {l : Link} → NodesKnown (length bits) (graph flat starts nodes) → e < 2 * length bits
    → k ≡ link_of (length bits) e → l ≡ link_at nodes bits k → v ≡ far_node l (ltb e (length bits)) → NodeAt (length bits) flat starts v
far_at bits {nodes = nodes} {e = e} n h p q r = rw (r, q, p, far_is nodes bits e) (n.at-node (other_end (length bits) e) (other_end_below (length bits) e h))

pub end_at : (bits : List ℕ) (out : Bool) {flat starts : List ℕ} {v f : ℕ} → NodeAt (length bits) flat starts v → Some f ≡ first_end (length bits) out bits (part flat starts v)
    → (f < 2 * length bits) × (remains bits (move_of (length bits) out f) ≡ true)
end_at bits out {f = f} n q = let r = first_end_lem (length bits) out bits _ f (sym q) in (n.ends f r.0, r.1)

-- ---- the loop of a path
module _ (g : Graph) (out : Bool) where
  next_remains : (bits : List ℕ) (e f : ℕ) → next_end g out bits e ≡ Some f → remains bits (move_of (length bits) out f) ≡ true
  unfolding next_end
  next_remains bits e f q = (first_end_lem (length bits) out bits _ f q).1

  pub next_below : (bits : List ℕ) (e f : ℕ) → NodesKnown (length bits) g → e < 2 * length bits → next_end g out bits e ≡ Some f → f < 2 * length bits
  unfolding next_end
  next_below bits e f s h q = (s.at-node (other_end (length bits) e) (other_end_below (length bits) e h)).ends f (first_end_lem (length bits) out bits _ f q).0

  follow-none : (turns e : ℕ) (bits : List ℕ) → next_end g out bits e ≡ None → follow_ends turns g out e bits ≡ []
  unfolding follow_ends
  follow-none zero e bits q = refl
  follow-none (suc turns) e bits q = rw q

  follow-some : (e f : ℕ) (bits : List ℕ) → next_end g out bits e ≡ Some f
      → follow_ends (bits_remaining bits) g out e bits ≡ f ∷ follow_ends (bits_remaining (taken bits (move_of (length bits) out f))) g out f (taken bits (move_of (length bits) out f))
  unfolding follow_ends
  follow-some e f bits q = rw (takes_one bits (move_of (length bits) out f) (next_remains bits e f q), q)

  -- having left e, the walk goes on with the next end, of which the bit is taken
  pub moves_on_lem : (e : ℕ) (bits : List ℕ) → moves_on g out bits (Some e) ≡ e ∷ moves_on g out (taken_by out bits (next_end g out bits e)) (next_end g out bits e)
  unfolding moves_on
  moves_on_lem e bits = go (next_end g out bits e) refl
    where
      go : (n : NextEnd) → next_end g out bits e ≡ n → moves_on g out bits (Some e) ≡ e ∷ moves_on g out (taken_by out bits n) n
      go None q = ap (e ∷◌) (follow-none (bits_remaining bits) e bits q)
      go (Some f) q = ap (e ∷◌) (follow-some e f bits q)

  pub bits_after_lem : (e : ℕ) (bits : List ℕ) → bits_after g out bits (Some e) ≡ bits_after g out (taken_by out bits (next_end g out bits e)) (next_end g out bits e)
  unfolding bits_after taken_all
  bits_after_lem e bits = go (next_end g out bits e) refl
    where
      go : (n : NextEnd) → next_end g out bits e ≡ n → bits_after g out bits (Some e) ≡ bits_after g out (taken_by out bits n) n
      go None q = ap (λ (l : List ℕ). taken_all bits (map (move_of (length bits) out) l)) (follow-none (bits_remaining bits) e bits q)
      go (Some f) q =
          let after = taken bits (move_of (length bits) out f) in
          ap (λ (l : List ℕ). taken_all bits (map (move_of (length bits) out) l)) (follow-some e f bits q)
          ∙ ap (λ m. taken_all after (map (move_of m out) (follow_ends (bits_remaining after) g out f after))) (sym (length_taken bits (move_of (length bits) out f)))

  pub follow_few : (turns e : ℕ) (bits : List ℕ) → length (follow_ends turns g out e bits) ≤ turns
  unfolding follow_ends
  follow_few zero e bits = omega arith
  follow_few (suc turns) e bits = go (next_end g out bits e) (λ f. follow_few turns f (taken bits (move_of (length bits) out f)))
    where
      go : (n : NextEnd) → ((f : ℕ) → length (follow_ends turns g out f (taken bits (move_of (length bits) out f))) ≤ turns)
          → length (onward n (λ f. f ∷ follow_ends turns g out f (taken bits (move_of (length bits) out f)))) ≤ suc turns
      go None ih = omega arith
      go (Some f) ih = omega (arith, ih f)

  pub follow_below : (turns e : ℕ) (bits : List ℕ) → NodesKnown (length bits) g → e < 2 * length bits → (f : ℕ) → f ∈ follow_ends turns g out e bits → f < 2 * length bits
  unfolding follow_ends
  follow_below zero e bits s h f i = absurd i
  follow_below (suc turns) e bits s h f i = go (next_end g out bits e) refl i (λ x. follow_below turns x (taken bits (move_of (length bits) out x)))
    where
      go : (n : NextEnd) → next_end g out bits e ≡ n → f ∈ onward n (λ x. x ∷ follow_ends turns g out x (taken bits (move_of (length bits) out x)))
          → ((x : ℕ) → NodesKnown (length (taken bits (move_of (length bits) out x))) g → x < 2 * length (taken bits (move_of (length bits) out x)) → (y : ℕ) → y ∈ follow_ends turns g out x (taken bits (move_of (length bits) out x)) → y < 2 * length (taken bits (move_of (length bits) out x)))
          → f < 2 * length bits
      go None q i ih = absurd i
      go (Some x) q (inl r) ih = omega (arith, next_below bits e x s h q)
      go (Some x) q (inr j) ih =
          let l = length_taken bits (move_of (length bits) out x) in
          omega (arith, l, ih x (subst (λ m. NodesKnown m g) (sym l) s) (omega (arith, l, next_below bits e x s h q)) f j)

-- ---- over nodes
abbrev as_move : ℕ → Bool → NextEnd → Option Move
as_move m out None = none
as_move m out (Some e) = some (move_of m out e)

-- the nodes of links are known
pub nodes_known : {links : Drawing} {flat starts nodes : List ℕ} → Nodes links flat starts nodes → length links ≤ 1024 → NodesKnown (length links) (graph flat starts nodes)
nodes_known n few = record { few = few; each_end = n.each_end; at-node = node_at_lem n }

module _ (links : Drawing) (rise : AllRise links) where
  -- the move over the link of an end from p on
  abbrev fitted : Bool → Point → ℕ → Move
  fitted out p f = move (link_of (length links) f) (fitting out p (segment_at links (link_of (length links) f)))

  -- of these ends, all at p
  first_is : (out : Bool) (p : Point) (bits es : List ℕ) → ((f : ℕ) → f ∈ es → (f < 2 * length links) × (end_point links f ≡ p))
      → first_remaining bits (map (fitted out p) es) ≡ as_move (length links) out (first_end (length links) out bits es)
  unfolding first_remaining first_end
  first_is out p bits [] h = refl
  first_is out p bits (f ∷ es) h =
      ap (λ (n : Move). cond (remains bits n) (some n) (first_remaining bits (map (fitted out p) es))) (fits links rise out f p (h f (inl refl)).0 (h f (inl refl)).1)
      ∙ go (remains bits (move_of (length links) out f)) (first_is out p bits es (λ g i. h g (inr i)))
    where
      go : (b : Bool) → first_remaining bits (map (fitted out p) es) ≡ as_move (length links) out (first_end (length links) out bits es)
          → cond b (some (move_of (length links) out f)) (first_remaining bits (map (fitted out p) es)) ≡ as_move (length links) out (cond b (Some f) (first_end (length links) out bits es))
      go true e = refl
      go false e = e

  module _ (flat starts nodes : List ℕ) (n : Nodes links flat starts nodes) where
    abbrev g : Graph
    g = graph flat starts nodes

    goes_on_lem : (out : Bool) (e : ℕ) (bits : List ℕ) → length bits ≡ length links → e < 2 * length links
        → goes_on links out (end_point links (other_end (length links) e)) bits ≡ as_move (length links) out (next_end g out bits e)
    unfolding goes_on next_end
    goes_on_lem out e bits q h =
        let o = other_end (length links) e in
        let b = other_end_below (length links) e h in
        let es = part flat starts (get_or nodes o 0) in
        let f : ℕ → Move = λ k. move k (fitting out (end_point links o) (segment_at links k)) in
        ap (λ (l : List ℕ). first_remaining bits (map f l)) (sym (n.list o b)) ∙ ap (first_remaining bits) (map-map f (link_of (length links)) es)
        ∙ first_is out (end_point links o) bits es (λ k i. n.ends o k b i)
        ∙ sym (ap (λ m. as_move (length links) out (first_end m out bits (part flat starts (get_or nodes (other_end m e) 0)))) q)

    follow_is : (turns : ℕ) (out : Bool) (e : ℕ) (bits : List ℕ) → length links ≤ 1024 → length bits ≡ length links → e < 2 * length links
        → map (move_of (length links) out) (follow_ends turns g out e bits) ≡ follow turns links out (end_point links (other_end (length links) e)) bits
    unfolding follow_ends follow
    follow_is zero out e bits few q h = refl
    follow_is (suc turns) out e bits few q h = go (next_end g out bits e) refl (follow_is turns out) ∙ sym (ap (λ (o : Option Move). and_then o (λ k. k ∷ follow turns links out (over links out k).end (taken bits k))) (goes_on_lem out e bits q h))
      where
        go : (x : NextEnd) → next_end g out bits e ≡ x
            → ((f : ℕ) (rest : List ℕ) → length links ≤ 1024 → length rest ≡ length links → f < 2 * length links → map (move_of (length links) out) (follow_ends turns g out f rest) ≡ follow turns links out (end_point links (other_end (length links) f)) rest)
            → map (move_of (length links) out) (onward x (λ f. f ∷ follow_ends turns g out f (taken bits (move_of (length bits) out f))))
            ≡ and_then (as_move (length links) out x) (λ k. k ∷ follow turns links out (over links out k).end (taken bits k))
        go None r ih = refl
        go (Some f) r ih =
            let below : f < 2 * length links = omega (arith, next_below g out bits e f (subst (λ k. NodesKnown k g) (sym q) (nodes_known n few)) (omega arith) r, q) in
            ap (move_of (length links) out f ∷◌)
            (ap (λ k. map (move_of (length links) out) (follow_ends turns g out f (taken bits (move_of k out f)))) q
            ∙ ih f (taken bits (move_of (length links) out f)) few (length_taken bits (move_of (length links) out f) ∙ q) below
            ∙ ap (λ (p : Point). follow turns links out p (taken bits (move_of (length links) out f))) (sym (move_end links out f below)))

    -- the path that begins with link k
    pub path_is : (out : Bool) (k : ℕ) (bits rest : List ℕ) → length links ≤ 1024 → length bits ≡ length links → k < length links → rest ≡ taken bits (move k out)
        → map (move_of (length links) out) (k ∷ follow_ends (bits_remaining rest) g out k rest) ≡ path_from links bits (move k out)
    unfolding path_from
    path_is out k bits rest few q h e =
        let below : k < 2 * length links = omega arith in
        let first : move_of (length links) out k ≡ move k out = first-move (length links) out k h in
        let there : end_point links (other_end (length links) k) ≡ (over links out (move k out)).end = sym (move_end links out k below) ∙ ap (λ (m : Move). (over links out m).end) first in
        ap₂ ◌∷◌ first (
        follow_is (bits_remaining rest) out k rest few (ap length e ∙ length_taken bits (move k out) ∙ q) below
        ∙ ap₂ (λ (r : List ℕ) (p : Point). follow (bits_remaining r) links out p r) e there
        )
