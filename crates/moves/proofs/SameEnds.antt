-- Links with the same ends: the same steps over them, the same nodes and the same first moves, whatever their windings, line bits and lots are.
use mathlib.Core.Path.{◌≡◌, ap, ap₂, ◌∙◌, fun_ext}
use mathlib.Core.List.{List, ◌++◌, map}
use mathlib.Core.Bool.{Bool, true, false, cond, beq}
use Prim.Native.Nat.{ℕ}
use lib.ListN.{length}
use Rattle.geom.specs.declared.Point.{Point}
use Rattle.geom.specs.Points.{lt_p, eq_p}
use Rattle.lists.specs.Members.{keep}
use Rattle.lists.specs.UpFrom.{up_from}
use Rattle.segm.specs.declared.Segment.{Segment}
use Rattle.segm.specs.Segments.{Drawing, segment_at}
use Rattle.segm.specs.Lots.{unlotted}
use Rattle.segm.proofs.Lots.{length-unlotted, unlotted-at}
use Rattle.graph.specs.Nodes.{node}
use Rattle.moves.specs.Steps.{step, as_drawn, way, other, fitting}
use Rattle.moves.specs.Moves.{Move, over}
use Rattle.moves.specs.Begins.{first_remaining, both_moves, begins}

-- as many links, with the same ends at every place
pub record EndsAlike (d e : Drawing) : Type 0 where
  pub as_many : length e ≡ length d
  pub a_same : (k : ℕ) → (segment_at e k).a ≡ (segment_at d k).a
  pub b_same : (k : ℕ) → (segment_at e k).b ≡ (segment_at d k).b

-- a drawing and the same without lots
pub unlotted_ends : (d : Drawing) → EndsAlike d (map unlotted d)
unlotted_ends d = record {
  as_many = length-unlotted d;
  a_same = λ k. ap (λ (s : Segment). s.a) (unlotted-at d k);
  b_same = λ k. ap (λ (s : Segment). s.b) (unlotted-at d k);
}

module _ {d e : Drawing} (h : EndsAlike d e) where
  drawn-same : (forth : Bool) (k : ℕ) → as_drawn forth (segment_at e k) ≡ as_drawn forth (segment_at d k)
  unfolding as_drawn
  drawn-same true k = ap₂ step (h.a_same k) (h.b_same k)
  drawn-same false k = ap₂ step (h.b_same k) (h.a_same k)

  -- the same step
  pub over-same : (out : Bool) (m : Move) → over e out m ≡ over d out m
  unfolding over
  over-same out m = ap (way out) (drawn-same m.forth m.place)

  -- the same other end
  pub other-same : (p : Point) (k : ℕ) → other (segment_at e k) p ≡ other (segment_at d k) p
  unfolding other
  other-same p k = ap₂ (λ (q r : Point). cond (eq_p q p) r q) (h.a_same k) (h.b_same k)

  -- the same bit fits
  pub fitting-same : (out : Bool) (p : Point) (k : ℕ) → fitting out p (segment_at e k) ≡ fitting out p (segment_at d k)
  unfolding fitting
  fitting-same out p k = ap (λ (q : Point). beq out (lt_p p q)) (other-same p k)

  -- at the same nodes
  pub node-same : (p : Point) → node e p ≡ node d p
  unfolding node
  node-same p =
      ap (λ m. keep (λ k. eq_p (segment_at e k).a p) (up_from 0 m) ++ keep (λ k. eq_p (segment_at e k).b p) (up_from 0 m)) h.as_many
      ∙ ap₂ (λ (f g : ℕ → Point). keep (λ k. eq_p (f k) p) (up_from 0 (length d)) ++ keep (λ k. eq_p (g k) p) (up_from 0 (length d))) (fun_ext h.a_same) (fun_ext h.b_same)

  pub begins-same : (bits : List ℕ) → begins e bits ≡ begins d bits
  unfolding begins
  begins-same bits = ap (λ m. first_remaining bits (both_moves (up_from 0 m))) h.as_many
