-- Side bits: one entry a link, made of fills in place. Contours: lots count for none.
use mathlib.Core.Path.{◌≡◌, refl, sym, ap, ap₂, ◌∙◌, fun_ext}
use mathlib.Core.List.{List, [], ◌∷◌, ◌++◌, map}
use mathlib.Core.Bool.{Bool}
use Prim.Native.Nat.{ℕ, ◌+◌, ◌%◌, ◌<◌}
use native.Mathlib.Omega.{arith}
use lib.ListN.{length, get_or, take, drop, set, length-map, length-take}
use lib.Seq.{drop-cons, get_or_at}
use Rattle.geom.specs.declared.Point.{Point}
use Rattle.lists.specs.Written.{written}
use Rattle.segm.specs.Segments.{Drawing}
use Rattle.segm.specs.Lots.{unlotted}
use Rattle.lists.proofs.Written.{written_map}
use Rattle.fill_rule.specs.declared.Rule.{Rule}
use Rattle.ray.specs.Ray.{fills}
use Rattle.ray.proofs.Fills.{length-fills, fills-unlotted}
use Rattle.contour.specs.Contour.{Contour}
use Rattle.moves.specs.Moves.{Move}
use Rattle.moves.proofs.SameEnds.{EndsAlike, unlotted_ends}
use Rattle.slice_walk.specs.Walk.{walks, direction_of}
use Rattle.slice_walk.proofs.Walk.SameEnds.{walks_same, walk_points_same}
use Rattle.slice_cut.specs.Cutting.{walk_contours}
use Rattle.string_slice.specs.Contours.{side_bits, all_contours, of_walks, slice_contours}

pub length_sides : (rule : Rule) (d : Drawing) → length (side_bits rule d) ≡ length d
unfolding side_bits
length_sides rule d = length-map (fills rule d) (λ f. f % 4) ∙ length-fills rule d

-- ---- in place: the entry past the answer is the old one
next_old : {A : Type 0} (answer old : List A) (i : ℕ) (z : A) → i ≡ length answer → i < length old → get_or (written answer old) i z ≡ get_or old i z
unfolding written
next_old answer old i z e h =
    ap (λ n. get_or (answer ++ drop n old) i z) (sym e) ∙ ap (λ (l : List _). get_or (answer ++ l) i z) (drop-cons old i z h) ∙ get_or_at answer (get_or old i z) _ z i (sym e)

pub next_side : (f : ℕ → ℕ) (old l : List ℕ) (i : ℕ) → l ≡ written (map f (take i old)) old → i < length old → set l i (f (get_or l i 0)) ≡ written (map f (take (i + 1) old)) old
next_side f old l i e h =
    let n : i ≡ length (map f (take i old)) = sym (length-map (take i old) f ∙ length-take i old ∙ omega arith) in
    ap₂ (λ (k : List ℕ) x. set k i x) e (ap f (ap (λ (k : List ℕ). get_or k i 0) e ∙ next_old (map f (take i old)) old i 0 n h)) ∙ written_map f old 0 old i h (omega arith)

-- ---- lots count for no contour
contours_same : (clockwise : Bool) (least : ℕ) {d e : Drawing} → EndsAlike d e → (walks : List (List Move)) → all_contours clockwise least e walks ≡ all_contours clockwise least d walks
unfolding all_contours
contours_same clockwise least h [] = refl
contours_same clockwise least h (walk ∷ walks) =
    ap₂ (λ (points : List Point) (rest : List Contour). walk_contours clockwise least (direction_of walk) points ++ rest) (walk_points_same h walk) (contours_same clockwise least h walks)

pub slice_unlotted : (rule : Rule) (clockwise : Bool) (least : ℕ) (d : Drawing) → slice_contours rule clockwise least (map unlotted d) ≡ slice_contours rule clockwise least d
unfolding slice_contours side_bits
slice_unlotted rule clockwise least d =
    ap₂ of_walks (fun_ext (contours_same clockwise least (unlotted_ends d))) (ap (λ (l : List ℕ). walks (map unlotted d) (map (λ f. f % 4) l)) (fills-unlotted rule d) ∙ walks_same (unlotted_ends d) (side_bits rule d))
