-- Links with the same ends have the same walks by the same side bits, whatever their windings, line bits and lots are.
use mathlib.Core.Path.{◌≡◌, refl, ◌∙◌, ap, ap₂, fun_ext}
use mathlib.Core.List.{List, [], ◌∷◌, map}
use mathlib.Core.Option.{Option, none, some}
use mathlib.Core.Bool.{Bool, not, ◌&&◌, cond}
use Prim.Native.Nat.{ℕ, zero, suc}
use lib.Dec.{eqb}
use Rattle.geom.specs.declared.Point.{Point}
use Rattle.geom.specs.Points.{eq_p}
use Rattle.lists.specs.Members.{keep}
use Rattle.segm.specs.Segments.{Drawing, segment_at}
use Rattle.graph.specs.Nodes.{node}
use Rattle.moves.specs.Steps.{Step, other}
use Rattle.moves.specs.Moves.{Move, move, remains, taken, taken_all, bits_remaining, over}
use Rattle.moves.proofs.SameEnds.{EndsAlike, over-same, other-same, fitting-same, node-same, begins-same}
use Rattle.slice_walk.specs.Walk.{is_nearer, move_from, nearest, if_remains, or_else, find_nearest, onto, bind, till, walk_from, begun, walks_from, walks, direction_of, walk_points}

module _ {d e : Drawing} (h : EndsAlike d e) where
  -- ---- the next move
  from_same : (direction : Bool) (p : Point) → move_from e direction p ≡ move_from d direction p
  unfolding move_from
  from_same direction p = fun_ext (λ k. ap (move k) (fitting-same h direction p k))

  nearest-same : (direction : Bool) (p back : Point) (best : Option ℕ) (l : List ℕ) → nearest e direction p back best l ≡ nearest d direction p back best l
  unfolding nearest
  nearest-same direction p back best [] = refl
  nearest-same direction p back none (k ∷ l) = nearest-same direction p back (some k) l
  nearest-same direction p back (some b) (k ∷ l) =
      ap₂ (λ (q r : Point). nearest e direction p back (some (cond (is_nearer direction p back q r) k b)) l) (other-same h p b) (other-same h p k)
      ∙ nearest-same direction p back (some (cond (is_nearer direction p back (other (segment_at d b) p) (other (segment_at d k) p)) k b)) l

  find_same : (direction : Bool) (k : ℕ) (p : Point) (bits : List ℕ) → find_nearest e direction k p bits ≡ find_nearest d direction k p bits
  unfolding find_nearest
  find_same direction k p bits =
      ap (λ (f : ℕ → Move). or_else f (nearest e direction p (other (segment_at e k) p) none (others f (node e p))) (if_remains bits (f k))) (from_same direction p)
      ∙ ap₂ (λ (q : Point) (l : List ℕ). or_else from (nearest e direction p q none (others from l)) (if_remains bits (from k))) (other-same h p k) (node-same h p)
      ∙ ap (λ (o : Option ℕ). or_else from o (if_remains bits (from k))) (nearest-same direction p (other (segment_at d k) p) none (others from (node d p)))
    where
      from : ℕ → Move
      from = move_from d direction p

      -- those of a list that can be taken, without the current one
      others : (ℕ → Move) → List ℕ → List ℕ
      others f l = keep (λ j. not (eqb j k) && remains bits (f j)) l

  -- ---- walks
  till-same : (turns : ℕ) (direction : Bool) (home : Point) (k : ℕ) (p : Point) (bits : List ℕ) → till turns e direction home k p bits ≡ till turns d direction home k p bits
  unfolding till
  till-same zero direction home k p bits = refl
  till-same (suc turns) direction home k p bits =
      ap₂ (λ (o : Option Move) (f : Move → Option (List Move)). cond (eq_p p home) (some []) (bind o f)) (find_same direction k p bits) (fun_ext (λ m.
      ap (onto m) (ap (λ (σ : Step). till turns e direction home m.place σ.end (taken bits m)) (over-same h direction m) ∙ till-same turns direction home m.place (over d direction m).end (taken bits m))))

  walk_same : (bits : List ℕ) (m : Move) → walk_from e bits m ≡ walk_from d bits m
  unfolding walk_from
  walk_same bits m =
      let rest = taken bits m in
      let first = over d m.forth m in
      ap (λ (σ : Step). onto m (till (bits_remaining rest) e m.forth σ.start m.place σ.end rest)) (over-same h m.forth m)
      ∙ ap (onto m) (till-same (bits_remaining rest) m.forth first.start m.place first.end rest)

  walks_from_same : (turns : ℕ) (bits : List ℕ) → walks_from turns e bits ≡ walks_from turns d bits
  unfolding walks_from
  walks_from_same zero bits = refl
  walks_from_same (suc turns) bits =
      ap₂ (λ (o : Option Move) (f : Move → Option (List (List Move))). begun o f) (begins-same h bits) (fun_ext (λ m.
      ap₂ (λ (o : Option (List Move)) (f : List Move → Option (List (List Move))). bind o f) (walk_same bits m) (fun_ext (λ walk. ap (onto walk) (walks_from_same turns (taken_all bits walk))))))

  pub walks_same : (bits : List ℕ) → walks e bits ≡ walks d bits
  unfolding walks
  walks_same bits = walks_from_same (bits_remaining bits) bits

  -- the same points
  pub walk_points_same : (walk : List Move) → walk_points e walk ≡ walk_points d walk
  unfolding walk_points
  walk_points_same walk = ap (λ (f : Move → Step). map (λ m. (f m).start) walk) (fun_ext (over-same h (direction_of walk)))
