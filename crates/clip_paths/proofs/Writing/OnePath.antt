-- One path: its moves over flat lists, its points and the bits that it leaves.
use mathlib.Core.Path.{◌≡◌, refl, sym, ◌∙◌, ap, ap₂, subst}
use mathlib.Core.List.{List, [], ◌∷◌, map, map-map}
use mathlib.Core.Logic.{inl, inr}
use mathlib.Core.Bool.{Bool, true}
use Prim.Native.Nat.{ℕ, suc, ◌%◌, ◌*◌, ◌<◌, ◌≤◌}
use native.Mathlib.Omega.{arith}
use lib.ListN.{length, get_or, take, length-take}
use Rattle.lists.specs.Written.{written}
use Rattle.lists.proofs.Written.{take_written}
use Rattle.lists.specs.Members.{◌∈◌}
use Rattle.segm.specs.Segments.{Drawing}
use Rattle.lists.proofs.Members.{cases}
use Rattle.ends.specs.Ends.{end_point}
use Rattle.graph.specs.Nodes.{other_end}
use Rattle.moves.specs.Bits.{has}
use Rattle.moves.specs.Moves.{Move, move, remains, taken, taken_all, bits_remaining, over}
use Rattle.moves.specs.ByEnd.{move_of, Graph}
use Rattle.moves.proofs.Moves.{takes_one, length_taken, bits_few}
use Rattle.moves.proofs.Begins.{first-remains}
use Rattle.moves.proofs.ByEnd.{first-move, move_start, move_end}
use Rattle.clip_walk.specs.Walk.{path_from}
use Rattle.clip_paths.specs.Paths.{finished, through, path_points}
use Rattle.clip_walk.specs.Flat.{follow_ends, NodesKnown}
use Rattle.clip_paths.specs.Writing.{through_ends, ends_points, path_at, ClipLists}
use Rattle.clip_paths.proofs.Writing.Points.{length_points}
use Rattle.clip_walk.proofs.Flat.{follow_below, nodes_known, path_is}

map_on : {A : Type 0} (f g : ℕ → A) (l : List ℕ) → ((k : ℕ) → k ∈ l → f k ≡ g k) → map f l ≡ map g l
map_on f g [] h = refl
map_on f g (k ∷ l) h = ap₂ ◌∷◌ (h k (inl refl)) (map_on f g l (λ j i. h j (inr i)))

-- what is written stands at the front
module _ (l old : List ℕ) {moves : List ℕ} {n : ℕ} (e : n ≡ length l) (r : moves ≡ written l old) where
  pub front_is : take n moves ≡ l
  front_is = ap (take n) r ∙ take_written l old n e

  pub front_fits : n ≤ length moves
  front_fits = omega (arith, ap length front_is, length-take n moves)

-- the points that the moves come through
module _ (links : Drawing) (out : Bool) where
  through_is : (e : ℕ) (es : List ℕ) → ((f : ℕ) → f ∈ (e ∷ es) → f < 2 * length links) → through_ends links (e ∷ es) ≡ through links out (map (move_of (length links) out) (e ∷ es))
  unfolding through_ends through
  through_is e es h =
      ap₂ ◌∷◌ (sym (move_start links out e)) (
      map_on (λ f. end_point links (other_end (length links) f)) (λ f. (over links out (move_of (length links) out f)).end) (e ∷ es) (λ f i. sym (move_end links out f (h f i)))
      ∙ sym (map-map (λ n. (over links out n).end) (move_of (length links) out) (e ∷ es))
      )

  points_are : (k : ℕ) (es : List ℕ) → k < length links → ((f : ℕ) → f ∈ es → f < 2 * length links) → ends_points links out (k ∷ es) ≡ path_points links (map (move_of (length links) out) (k ∷ es))
  unfolding ends_points path_points
  points_are k es h b =
      let moves = map (move_of (length links) out) (k ∷ es) in
      let forth : (move_of (length links) out k).forth ≡ out = ap (λ (m : Move). m.forth) (first-move (length links) out k h) in
      ap (finished out) (through_is k es (λ f. cases (λ q. omega arith) (b f))) ∙ ap (λ (o : Bool). finished o (through links o moves)) (sym forth)

module _ {links : Drawing} {g : Graph} {bits : List ℕ} (w : ClipLists links g bits) {k : ℕ} (inside : k < length bits) where
  place : k < length links
  place = omega (arith, w.as_many)

  first : (out : Bool) → move_of (length bits) out k ≡ move k out
  first out = first-move (length bits) out k inside

  -- its first move can be made
  pub can_begin : {out : Bool} → out ≡ has true (get_or bits k 0) → (get_or bits k 0 % 4 ≡ 0 → ⊥) → remains bits (move_of (length bits) out k) ≡ true
  unfolding remains
  can_begin {out} e h = ap (remains bits) (first out ∙ ap (move k) e) ∙ first-remains bits k h

  module _ (out : Bool) {rest : List ℕ} (r : rest ≡ taken bits (move_of (length bits) out k)) where
    abbrev ends : List ℕ
    ends = follow_ends (bits_remaining rest) g out k rest

    pub as_many_rest : length rest ≡ length bits
    as_many_rest = ap length r ∙ length_taken bits (move_of (length bits) out k)

    pub known_rest : NodesKnown (length rest) g
    known_rest = subst (λ m. NodesKnown m g) (sym (as_many_rest ∙ w.as_many)) (nodes_known w.nodes_are w.good.faultless.few)

    pub fewer_rest : remains bits (move_of (length bits) out k) ≡ true → bits_remaining rest < 2 * length bits
    fewer_rest h = omega (arith, ap bits_remaining r, takes_one bits (move_of (length bits) out k) h, bits_few bits)

    moves : out ≡ has true (get_or bits k 0) → map (move_of (length links) out) (k ∷ ends) ≡ path_at links bits k
    moves e =
        path_is links w.good.faultless.proper g.flat g.starts g.nodes w.nodes_are out k bits rest w.good.faultless.few w.as_many place (r ∙ ap (taken bits) (first out))
        ∙ ap (λ (o : Bool). path_from links bits (move k o)) e

    pub points_of_lem : out ≡ has true (get_or bits k 0) → ends_points links out (k ∷ ends) ≡ path_points links (path_at links bits k)
    points_of_lem e =
        let below : (f : ℕ) → f ∈ ends → f < 2 * length links = λ f i. omega (arith, as_many_rest, w.as_many, follow_below g out (bits_remaining rest) k rest known_rest (omega (arith, as_many_rest)) f i) in
        points_are links out k ends place below ∙ ap (path_points links) (moves e)

    pub number_of : out ≡ has true (get_or bits k 0) → length (path_points links (path_at links bits k)) ≡ suc (length (k ∷ ends))
    number_of e = sym (ap length (points_of_lem e)) ∙ length_points links out (k ∷ ends) (omega arith)

    pub bits_of : out ≡ has true (get_or bits k 0) → taken_all rest (map (move_of (length rest) out) ends) ≡ taken_all bits (path_at links bits k)
    unfolding taken_all
    bits_of e =
        ap₂ (λ (b : List ℕ) m. taken_all b (map (move_of m out) ends)) (r ∙ ap (λ m. taken bits (move_of m out k)) w.as_many) (as_many_rest ∙ w.as_many)
        ∙ ap (taken_all bits) (moves e)
