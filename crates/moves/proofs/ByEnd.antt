-- Moves named by the end of a link that they leave: where they lead, the bit that they take, and the ends of a node.
use mathlib.Core.Path.{◌≡◌, refl, sym, ◌∙◌, ap, subst}
use mathlib.Core.List.{List, [], ◌∷◌}
use mathlib.Core.Logic.{inl, inr}
use mathlib.Core.Bool.{Bool, true, false, beq}
use Prim.Native.Nat.{ℕ, zero, suc, ◌+◌, ◌-◌, ◌*◌, ◌<◌, ◌≤◌}
use native.Mathlib.Omega.{arith}
use native.Mathlib.Decide.{dec_le}
use native.Mathlib.Numerals.{add-one}
use borrow.Author.Tests.{ltb-true, ltb-false, lt-ltb, le-ltb}
use lib.Dec.{ltb}
use lib.ListN.{length, get_or, take, drop}
use lib.Seq.{drop-cons}
use Rattle.geom.specs.declared.Point.{Point}
use Rattle.lists.specs.Members.{◌∈◌}
use Rattle.lists.proofs.Members.{in_at}
use Rattle.segm.specs.Segments.{Drawing, segment_at}
use Rattle.ends.specs.Ends.{end_point}
use Rattle.ends.proofs.Ends.{end_a, end_b}
use Rattle.graph.specs.Nodes.{link_of, other_end, part, Nodes}
use Rattle.graph.proofs.Node.{link_low, link_high, other_low, other_high}
use Rattle.moves.specs.Steps.{Step, fitting, AllRise}
use Rattle.moves.specs.Moves.{Move, move, over}
use Rattle.moves.specs.ByEnd.{move_of, NodeAt}
use Rattle.moves.proofs.Steps.{way_is, fit_start, fit_end, at_place}

-- ---- one move
module _ (m : ℕ) (out : Bool) (e : ℕ) where
  move_low : e < m → move_of m out e ≡ move e (beq out true)
  unfolding move_of
  move_low h = rw (lt-ltb e m h, link_low m e h)

  move_high : m ≤ e → move_of m out e ≡ move (e - m) (beq out false)
  unfolding move_of
  move_high h = rw (le-ltb e m h, link_high m e h)

beq_true : (out : Bool) → beq out true ≡ out
beq_true true = refl
beq_true false = refl

-- the first move of a walk leaves its link's a
pub first-move : (m : ℕ) (out : Bool) (k : ℕ) → k < m → move_of m out k ≡ move k out
first-move m out k h = move_low m out k h ∙ ap (move k) (beq_true out)

-- a move leaves its end, and ends at the link's other one
module _ (links : Drawing) (out : Bool) (e : ℕ) where
  abbrev m : ℕ
  m = length links

  pub move_start : (over links out (move_of m out e)).start ≡ end_point links e
  unfolding over
  move_start = go (dec_le m e)
    where
      go : Dec (m ≤ e) → (over links out (move_of m out e)).start ≡ end_point links e
      go (yes h) = ap (λ (n : Move). (over links out n).start) (move_high m out e h) ∙ ap (λ (σ : Step). σ.start) (way_is out false (segment_at links (e - m))) ∙ sym (end_b links e h)
      go (no h) = let l : e < m = omega arith in ap (λ (n : Move). (over links out n).start) (move_low m out e l) ∙ ap (λ (σ : Step). σ.start) (way_is out true (segment_at links e)) ∙ sym (end_a links e l)

  pub move_end : e < 2 * m → (over links out (move_of m out e)).end ≡ end_point links (other_end m e)
  unfolding over
  move_end b = go (dec_le m e)
    where
      go : Dec (m ≤ e) → (over links out (move_of m out e)).end ≡ end_point links (other_end m e)
      go (yes h) =
          ap (λ (n : Move). (over links out n).end) (move_high m out e h) ∙ ap (λ (σ : Step). σ.end) (way_is out false (segment_at links (e - m)))
          ∙ sym (ap (end_point links) (other_high m e h) ∙ end_a links (e - m) (omega arith))
      go (no h) =
          let l : e < m = omega arith in
          let q : m + e - m ≡ e = omega arith in
          ap (λ (n : Move). (over links out n).end) (move_low m out e l) ∙ ap (λ (σ : Step). σ.end) (way_is out true (segment_at links e))
          ∙ sym (ap (end_point links) (other_low m e l) ∙ end_b links (m + e) (omega arith) ∙ ap (λ k. (segment_at links k).b) q)

-- it takes the bit that fits there
pub fits : (links : Drawing) → AllRise links → (out : Bool) (f : ℕ) (p : Point) → f < 2 * length links → end_point links f ≡ p
    → move (link_of (length links) f) (fitting out p (segment_at links (link_of (length links) f))) ≡ move_of (length links) out f
fits links rise out f p b q = go (dec_le (length links) f)
  where
    go : Dec (length links ≤ f) → move (link_of (length links) f) (fitting out p (segment_at links (link_of (length links) f))) ≡ move_of (length links) out f
    go (yes h) =
        ap (λ k. move k (fitting out p (segment_at links k))) (link_high (length links) f h)
        ∙ ap (move (f - length links)) (fit_end out p (segment_at links (f - length links)) (at_place links rise (f - length links) (omega arith)) (sym (end_b links f h) ∙ q))
        ∙ sym (move_high (length links) out f h)
    go (no h) =
        let l : f < length links = omega arith in
        ap (λ k. move k (fitting out p (segment_at links k))) (link_low (length links) f l)
        ∙ ap (move f) (fit_start out p (segment_at links f) (at_place links rise f l) (sym (end_a links f l) ∙ q))
        ∙ sym (move_low (length links) out f l)

-- ---- the ends of a node
-- every end has one
pub node_at_lem : {links : Drawing} {flat starts nodes : List ℕ} → Nodes links flat starts nodes → (e : ℕ) → e < 2 * length links → NodeAt (length links) flat starts (get_or nodes e 0)
node_at_lem n e h = record { known = n.known e h; rising = n.rising e h; in_flat = omega (arith, n.inside e h, n.all_ends); ends = λ f i. (n.ends e f h i).0 }

-- a node's part as a range of the flat list
pub part_is : (flat starts : List ℕ) (v : ℕ) → take (get_or starts (v + 1) 0 - get_or starts v 0) (drop (get_or starts v 0) flat) ≡ part flat starts v
unfolding part
part_is flat starts v = rw add-one

-- the end at place j of it
pub end_below : (m : ℕ) (flat starts : List ℕ) (v j : ℕ) → NodeAt m flat starts v
    → j < length (take (get_or starts (v + 1) 0 - get_or starts v 0) (drop (get_or starts v 0) flat))
    → get_or (take (get_or starts (v + 1) 0 - get_or starts v 0) (drop (get_or starts v 0) flat)) j 0 < 2 * m
end_below m flat starts v j n h =
    n.ends (get_or (take (get_or starts (v + 1) 0 - get_or starts v 0) (drop (get_or starts v 0) flat)) j 0)
    (subst (λ l. get_or (take (get_or starts (v + 1) 0 - get_or starts v 0) (drop (get_or starts v 0) flat)) j 0 ∈ l) (part_is flat starts v) (in_at (take (get_or starts (v + 1) 0 - get_or starts v 0) (drop (get_or starts v 0) flat)) 0 j h))

-- a part of a flat list from j on
abbrev pub part_from : List ℕ → ℕ → ℕ → List ℕ
part_from flat end j = take (end - j) (drop j flat)

pub part_step : (flat : List ℕ) (end j : ℕ) → j < end → end ≤ length flat → part_from flat end j ≡ get_or flat j 0 ∷ part_from flat end (j + 1)
part_step flat end j h k =
    let e : end - j ≡ suc (end - (j + 1)) = omega arith in
    rw (e, drop-cons flat j 0 (omega arith), add-one)

pub part_end : (flat : List ℕ) (end j : ℕ) → end ≤ j → part_from flat end j ≡ []
part_end flat end j h = let e : end - j ≡ 0 = omega arith in rw e

-- the parts from j on are parts of the node's
part_in : (flat : List ℕ) (end j k x : ℕ) → j ≤ k → end ≤ length flat → x ∈ part_from flat end k → x ∈ part_from flat end j
part_in flat end j k x h l m = go (k - j) j (omega arith)
  where
    go : (n i : ℕ) → i + n ≡ k → x ∈ part_from flat end i
    go zero i e = let q : k ≡ i = omega arith in subst (λ t. x ∈ part_from flat end t) q m
    go (suc n) i e = by (ltb i end) refl (go n (i + 1) (omega arith))
      where
        by : (b : Bool) → ltb i end ≡ b → x ∈ part_from flat end (i + 1) → x ∈ part_from flat end i
        by true q r = subst (λ t. x ∈ t) (sym (part_step flat end i (ltb-true i end q) l)) (inr r)
        by false q r = absurd (subst (λ t. x ∈ t) (part_end flat end (i + 1) (omega (arith, ltb-false i end q))) r)
