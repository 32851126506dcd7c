-- What the first stage answers and leaves, and how the second reads it back: the walks' points, their directions, and the contours that are cut from them.
use mathlib.Core.Path.{◌≡◌, refl, sym, ◌∙◌, ap, ap₂, subst}
use mathlib.Core.List.{List, [], ◌∷◌, ◌++◌, map, flatten, append-nil}
use mathlib.Core.Option.{Option, none, some}
use mathlib.Core.Bool.{Bool, true, false}
use Prim.Native.Nat.{ℕ, ◌*◌, ◌≤◌}
use native.Mathlib.Omega.{arith}
use lib.Dec.{eqb}
use lib.ListN.{length, take, drop, length-map}
use lib.IntN.{ℤ}
use Rattle.geom.specs.declared.Point.{Point}
use Rattle.lists.specs.Sums.{tally, one}
use Rattle.lists.specs.Written.{written}
use Rattle.segm.specs.Segments.{Drawing}
use Rattle.lists.proofs.Written.{take_written}
use Rattle.lists.proofs.Members.{in_map}
use Rattle.contour.specs.Points.{coordinates, pair_up, AllInRange, cut}
use Rattle.contour.proofs.Points.Coordinates.{pair_coordinates}
use Rattle.contour.proofs.Area.{near_all}
use Rattle.contour.proofs.Points.CutWritten.{cut_written, tally_lengths}
use Rattle.std.specs.Prelude as code
use Rattle.std.specs.Prelude.{Result, Ok, Err, ok_or}
use Rattle.refusal.specs.declared.Refusal.{Refusal}
use Rattle.refusal.specs.declared.Kind.TheVariants.{StuckWalk}
use Rattle.refusal.specs.Order.{Verdict, accepted, refusal}
use Rattle.checks.specs.Accepted.{Good}
use Rattle.fill_rule.specs.declared.Rule.{Rule}
use Rattle.moves.specs.Moves.{Move, bits_remaining}
use Rattle.moves.proofs.Moves.{bits_few}
use Rattle.slice_walk.specs.Walk.{walks, direction_of, walk_points}
use Rattle.slice_walk.specs.Writing.{all_points, directions, WalksAre}
use Rattle.slice_walk.proofs.Walk.AllWalks.{length_all, walk_near, walks_few}
use Rattle.slice_cut.specs.declared.Contours.{Contours}
use Rattle.slice_cut.specs.Cutting.{counts, walk_contours, Holds, paths_in, cut_walks, Stand}
use Rattle.string_slice.specs.Run.{Lists, lists, outcome, handed_over, answered}
use Rattle.string_slice.specs.Walking.{WalkedAre}
use Rattle.contour.specs.Contour.{Contour}
use Rattle.string_slice.specs.Contours.{side_bits, all_contours, slice_contours, of_walks}
use Rattle.string_slice.proofs.SliceContours.{length_sides}

-- ---- paths and directions
paths_written : (paths : List (List Point)) (old : List ℤ) → paths_in (written (coordinates (flatten paths)) old) (map length paths) ≡ paths
unfolding written
paths_written paths old =
    let r = drop (length (coordinates (flatten paths))) old in
    (λ i. cut (length-map paths length i) (sym (append-nil (map length paths)) i) (pair_coordinates (flatten paths) r i)) ∙ cut_written paths [] (pair_up r)

direction_back : (b : Bool) → eqb (one b) 1 ≡ b
direction_back true = refl
direction_back false = refl

cut_contours : (clockwise : Bool) (least : ℕ) (links : Drawing) (ws : List (List Move)) → cut_walks clockwise least (all_points links ws) (directions ws) ≡ all_contours clockwise least links ws
unfolding cut_walks all_contours
cut_contours clockwise least links [] = refl
cut_contours clockwise least links (w ∷ ws) =
    ap₂ (λ b (rest : List Contour). walk_contours clockwise least b (walk_points links w) ++ rest) (direction_back (direction_of w)) (cut_contours clockwise least links ws)

-- ---- the answer of the first stage, where the drawing is accepted
module _ (links : Drawing) (points₀ : List ℤ) (lengths₀ directions₀ : List ℕ) (points : List ℤ) (lengths dirs : List ℕ) where
  told : (o : Option (List (List Move))) (r : code.Option ℕ) → WalksAre links o points₀ lengths₀ directions₀ r points lengths dirs
      → WalkedAre accepted links o (ok_or r (refusal StuckWalk 0)) points lengths dirs
  told none r w = rw w
  told (some ws) r w =
      let paths = all_points links ws in
      let l = ap (take (length ws)) w.1.lengths_are ∙ take_written (map length paths) lengths₀ (length ws) (omega (arith, length-map paths length, length-map ws (walk_points links))) in (
        ap (λ (r : code.Option ℕ). ok_or r (refusal StuckWalk 0)) w.0,
        record {
          lengths_are = l;
          paths_are = ap₂ paths_in w.1.points_are l ∙ paths_written paths points₀;
          directions_are = ap (take (length ws)) w.2 ∙ take_written (directions ws) directions₀ (length ws) (omega (arith, length-map ws (λ walk. one (direction_of walk))));
        },
      )

  pub walked : (o : Option (List (List Move))) (r : code.Option ℕ) {v : Verdict} {q : Result ℕ Refusal} → WalksAre links o points₀ lengths₀ directions₀ r points lengths dirs → accepted ≡ v
      → q ≡ ok_or r (refusal StuckWalk 0) → WalkedAre v links o q points lengths dirs
  walked o r w e k = rw (← e, k) (told o r w)

-- ---- what it tells the second stage
-- n walks, as they are read
pub record Made (links : Drawing) (o : Option (List (List Move))) (n : ℕ) (points : List ℤ) (lengths dirs : List ℕ) : Type 0 where
  pub found : List (List Move)
  pub are : o ≡ some found
  pub lengths_are : take n lengths ≡ map length (all_points links found)
  pub paths_are : paths_in points (take n lengths) ≡ all_points links found
  pub directions_are : take n dirs ≡ directions found

module _ (links : Drawing) (r : Result ℕ Refusal) (points : List ℤ) (lengths dirs : List ℕ) where
  -- a refusal is the run's, and nothing is written
  pub refused : (f : List (List Move) → List Contour) (v : Verdict) (o : Option (List (List Move))) {why : Refusal} {ls : Lists} → WalkedAre v links o r points lengths dirs
      → r ≡ Err why → outcome (Err why) ls ≡ answered v (of_walks f o) ls
  refused f (Err why) o w e = cc
  refused f (Ok _) none w e = cc
  refused f (Ok _) (some ws) w e = cc

  pub is_accepted : (v : Verdict) (o : Option (List (List Move))) {n : ℕ} → WalkedAre v links o r points lengths dirs → r ≡ Ok n → v ≡ accepted
  is_accepted (Err why) o w e = cc
  is_accepted (Ok _) o w e = refl

  pub made : (v : Verdict) (o : Option (List (List Move))) {n : ℕ} → WalkedAre v links o r points lengths dirs → r ≡ Ok n → Made links o n points lengths dirs
  made (Err why) o w e = absurd (cc)
  made (Ok _) none w e = absurd (cc)
  made (Ok _) (some ws) {n} w e =
      let k : n ≡ length ws = cc in
      record {
        found = ws;
        are = refl;
        lengths_are = ap (λ i. take i lengths) k ∙ w.1.lengths_are;
        paths_are = ap (λ i. paths_in points (take i lengths)) k ∙ w.1.paths_are;
        directions_are = ap (λ i. take i dirs) k ∙ w.1.directions_are;
      }

-- ---- the walks of an accepted drawing
module _ (rule : Rule) (d : Drawing) (good : Good d) {n : ℕ} {points : List ℤ} {lengths dirs : List ℕ} (m : Made d (walks d (side_bits rule d)) n points lengths dirs) where
  few_sides : bits_remaining (side_bits rule d) ≤ 2 * length d
  few_sides = omega (arith, bits_few (side_bits rule d), length_sides rule d)

  pub as_many : length (take n dirs) ≡ length (take n lengths)
  as_many = omega (arith, ap length m.directions_are, length-map m.found (λ walk. one (direction_of walk)), ap length m.lengths_are, length-map (all_points d m.found) length, length-map m.found (walk_points d))

  pub few_points : length (flatten (paths_in points (take n lengths))) ≤ 2 * length d
  few_points = omega (arith, ap (λ (l : List (List Point)). length (flatten l)) m.paths_are, length_all d m.found, walks_few d (side_bits rule d) m.found m.are, few_sides)

  pub stand : 4 * length d ≤ length points → Stand points (take n lengths)
  stand room =
      let sum : tally (λ k. k) (take n lengths) ≡ length (flatten (paths_in points (take n lengths))) =
      ap (tally (λ k. k)) m.lengths_are ∙ tally_lengths (all_points d m.found) ∙ sym (ap (λ (l : List (List Point)). length (flatten l)) m.paths_are) in
      record {
        inside = omega (arith, sum, few_points, room);
        few = omega (arith, sum, few_points, good.faultless.few);
        near = subst (λ (l : List (List Point)). AllInRange (flatten l)) (sym m.paths_are) (near_all (all_points d m.found) (λ l i. let r = in_map (walk_points d) l m.found i in subst AllInRange (sym r.2) (walk_near d good.faultless r.0)));
      }

  -- the contours that are cut are those of the slice
  pub contours_are : (clockwise : Bool) (least : ℕ) → some (cut_walks clockwise least (paths_in points (take n lengths)) (take n dirs)) ≡ slice_contours rule clockwise least d
  unfolding slice_contours
  contours_are clockwise least =
      ap some (ap₂ (cut_walks clockwise least) m.paths_are m.directions_are ∙ cut_contours clockwise least d m.found)
      ∙ ap (of_walks (all_contours clockwise least d)) (sym m.are)

-- ---- the outcome
pub handed : (o : Option (List Contour)) (contours : List Contour) {r : Contours} (ls : Lists) {points : List ℤ} {lengths roles : List ℕ} → some contours ≡ o → r ≡ counts contours
    → Holds contours ls.points ls.lengths ls.roles points lengths roles → outcome (Ok r) (lists points lengths roles) ≡ handed_over o ls
handed o contours ls e n h =
    (λ i. outcome (Ok (n i)) (lists (h.points_are i) (h.lengths_are i) (h.roles_are i))) ∙ ap (λ (q : Option (List Contour)). handed_over q ls) e
