-- The slice walk: by its moves, each of which takes one side bit of one link: true is the top, bit 1, and false the bottom, bit 2.
use Rattle.std.specs.Prelude.{List, [], ◌∷◌, map, Bool, true, false, not, ◌&&◌, cond, ℕ, zero, suc, eqb, ℤ, pos, neg_ℤ}
use Rattle.std.proofs.Math.Option.{Option, none, some}
use Rattle.std.specs.Bool.{beq}
use Rattle.std.specs.Int.Signed.{lt_z, le_z}
use Rattle.geom.specs.declared.Point.{Point}
use Rattle.geom.specs.Points.{eq_p, cross}
use Rattle.lists.specs.Members.{keep}
use Rattle.segm.specs.Segments.{Drawing, segment_at}
use Rattle.graph.specs.Nodes.{node}
use Rattle.moves.specs.Steps.{other, fitting}
use Rattle.moves.specs.Moves.{Move, move, remains, taken, taken_all, bits_remaining, over}
use Rattle.moves.specs.Begins.{begins}

-- ---- `NearestVector`: of the ways on from c, the nearest to that back to a, by the rotation sense
-- clockwise as it is, counter-clockwise turned round
unfoldable pub rotated : Bool → ℤ → ℤ
rotated true z = z
rotated false z = neg_ℤ z

-- the angle from a to p about c is 180 degrees or more, or none
unfoldable pub is_wide : Bool → (c a p : Point) → Bool
is_wide clockwise c a p = le_z (pos 0) (rotated clockwise (cross c a p))

-- p takes the place of b: it is the nearer one of two on the same side, or b is on the far side alone
unfoldable pub is_nearer : Bool → (c a b p : Point) → Bool
is_nearer clockwise c a b p =
    cond (beq (is_wide clockwise c a b) (is_wide clockwise c a p)) (lt_z (rotated clockwise (cross c p b)) (pos 0)) (is_wide clockwise c a b)

-- ---- the next move
-- the move from p over link k, by the side bit that it takes (`visit_fill`): with direction true the top to a greater point and the bottom to a lesser, with
-- false the other. It can be made while that bit remains (`is_move_possible`)
unfoldable pub move_from : Drawing → Bool → Point → ℕ → Move
move_from links direction p k = move k (fitting direction p (segment_at links k))

-- the nearest link of a list, by where it leads from p; of equals the first
unfoldable pub nearest : Drawing → Bool → (p back : Point) → Option ℕ → List ℕ → Option ℕ
nearest links direction p back best [] = best
nearest links direction p back none (k ∷ l) = nearest links direction p back (some k) l
nearest links direction p back (some b) (k ∷ l) =
    nearest links direction p back (some (cond (is_nearer direction p back (other (segment_at links b) p) (other (segment_at links k) p)) k b)) l

-- a move, if its side bit remains
abbrev pub if_remains : List ℕ → Move → Option Move
if_remains bits m = cond (remains bits m) (some m) none

-- the move over a link, or else another
abbrev pub or_else : (ℕ → Move) → Option ℕ → Option Move → Option Move
or_else f none o = o
or_else f (some k) o = some (f k)

-- at p, having come over link k: the nearest of the node's links that can be taken; the current link only when no other can be
unfoldable pub find_nearest : Drawing → Bool → ℕ → Point → List ℕ → Option Move
find_nearest links direction k p bits =
    let from = move_from links direction p in
    let others = keep (λ j. not (eqb j k) && remains bits (from j)) (node links p) in
    or_else from (nearest links direction p (other (segment_at links k) p) none others) (if_remains bits (from k))

-- ---- walks; none where one finds no move
-- x before the list, where there is one
abbrev pub onto : {A : Type 0} → A → Option (List A) → Option (List A)
onto x none = none
onto x (some l) = some (x ∷ l)

-- f of what there is
abbrev pub bind : {A B : Type 0} → Option A → (A → Option B) → Option B
bind none f = none
bind (some x) f = f x

-- the moves from p, having come over link k, till home. (Each takes a side bit, so as many turns as bits remain are enough)
unfoldable pub till : ℕ → Drawing → Bool → (home : Point) → ℕ → Point → List ℕ → Option (List Move)
till zero links direction home k p bits = cond (eq_p p home) (some []) none
till (suc turns) links direction home k p bits =
    cond (eq_p p home) (some [])
    (bind (find_nearest links direction k p bits) (λ m. onto m (till turns links direction home m.place (over links direction m).end (taken bits m))))

-- the walk that begins with m: from a to b, with direction true if it takes the top
unfoldable pub walk_from : Drawing → List ℕ → Move → Option (List Move)
walk_from links bits m =
    let rest = taken bits m in
    let first = over links m.forth m in
    onto m (till (bits_remaining rest) links m.forth first.start m.place first.end rest)

-- walks from a first move on, if there is one
abbrev pub begun : {A : Type 0} → Option Move → (Move → Option (List A)) → Option (List A)
begun none f = some []
begun (some m) f = f m

-- each walk begins at the lowest link of which a bit remains: with its top if that does, otherwise with its bottom
unfoldable pub walks_from : ℕ → Drawing → List ℕ → Option (List (List Move))
walks_from zero links bits = some []
walks_from (suc turns) links bits =
    begun (begins links bits) (λ m. bind (walk_from links bits m) (λ walk. onto walk (walks_from turns links (taken_all bits walk))))

-- all walks over links with these side bits
unfoldable pub walks : Drawing → List ℕ → Option (List (List Move))
walks links bits = walks_from (bits_remaining bits) links bits

-- ---- what a walk comes through
-- true if its first move takes the top
unfoldable pub direction_of : List Move → Bool
direction_of [] = false
direction_of (m ∷ l) = m.forth

-- the points that its moves leave
unfoldable pub walk_points : Drawing → List Move → List Point
walk_points links walk = map (λ m. (over links (direction_of walk) m).start) walk
