-- Links with the same ends have the same paths by the same line bits, whatever their own windings, line bits and lots are.
use mathlib.Core.Path.{◌≡◌, refl, ◌∙◌, ap, ap₂, fun_ext}
use mathlib.Core.List.{List, [], ◌∷◌, map}
use mathlib.Core.Option.{Option}
use mathlib.Core.Bool.{Bool}
use Prim.Native.Nat.{ℕ, zero, suc}
use Rattle.geom.specs.declared.Point.{Point}
use Rattle.segm.specs.Segments.{Drawing}
use Rattle.moves.specs.Steps.{Step}
use Rattle.moves.specs.Moves.{Move, move, taken, taken_all, bits_remaining, over}
use Rattle.moves.specs.Begins.{first_remaining}
use Rattle.moves.proofs.SameEnds.{EndsAlike, over-same, fitting-same, node-same, begins-same}
use Rattle.clip_walk.specs.Walk.{goes_on, and_then, follow, path_from, paths_from}
use Rattle.clip_paths.specs.Paths.{through, finished, path_points}
use Rattle.clip_paths.specs.Writing.{bits_paths}

module _ {d e : Drawing} (h : EndsAlike d e) where
  goes_on-same : (out : Bool) (p : Point) (bits : List ℕ) → goes_on e out p bits ≡ goes_on d out p bits
  unfolding goes_on
  goes_on-same out p bits = ap₂ (λ (f : ℕ → Bool) (l : List ℕ). first_remaining bits (map (λ k. move k (f k)) l)) (fun_ext (fitting-same h out p)) (node-same h p)

  -- ---- paths
  follow-same : (turns : ℕ) (out : Bool) (p : Point) (bits : List ℕ) → follow turns e out p bits ≡ follow turns d out p bits
  unfolding follow
  follow-same zero out p bits = refl
  follow-same (suc turns) out p bits =
      ap₂ (λ (o : Option Move) (f : Move → List Move). and_then o f) (goes_on-same out p bits) (fun_ext (λ m.
      ap (m ∷◌) (ap (λ (σ : Step). follow turns e out σ.end (taken bits m)) (over-same h out m) ∙ follow-same turns out (over d out m).end (taken bits m))))

  path_same : (bits : List ℕ) (m : Move) → path_from e bits m ≡ path_from d bits m
  unfolding path_from
  path_same bits m =
      let rest = taken bits m in
      ap (m ∷◌) (ap (λ (σ : Step). follow (bits_remaining rest) e m.forth σ.end rest) (over-same h m.forth m) ∙ follow-same (bits_remaining rest) m.forth (over d m.forth m).end rest)

  walk_same : (turns : ℕ) (bits : List ℕ) → paths_from turns e bits ≡ paths_from turns d bits
  unfolding paths_from
  walk_same zero bits = refl
  walk_same (suc turns) bits =
      ap₂ (λ (o : Option Move) (f : Move → List (List Move)). and_then o f) (begins-same h bits) (fun_ext (λ m.
      ap (λ (path : List Move). path ∷ paths_from turns e (taken_all bits path)) (path_same bits m) ∙ ap (path_from d bits m ∷◌) (walk_same turns (taken_all bits (path_from d bits m)))))

  -- the same points
  points_same : (l : List Move) → path_points e l ≡ path_points d l
  unfolding path_points through
  points_same [] = refl
  points_same (m ∷ l) = ap (λ (f : Move → Step). finished m.forth ((f m).start ∷ map (λ k. (f k).end) (m ∷ l))) (fun_ext (over-same h m.forth))

  pub paths_same : (bits : List ℕ) → bits_paths e bits ≡ bits_paths d bits
  paths_same bits = ap₂ (λ (f : List Move → List Point) (w : List (List Move)). map f w) (fun_ext points_same) (walk_same (bits_remaining bits) bits)
