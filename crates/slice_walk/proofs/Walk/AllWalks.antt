-- All walks: one after the other, how many moves they have, and where their points lie.
use mathlib.Core.Path.{◌≡◌, refl, sym, ◌∙◌, ap, subst}
use mathlib.Core.List.{List, [], ◌∷◌, flatten}
use mathlib.Core.Option.{Option, none, some}
use mathlib.Core.Bool.{Bool, true, false}
use Prim.Native.Nat.{ℕ, zero, suc, ◌<◌, ◌≤◌}
use native.Mathlib.Omega.{arith}
use native.Mathlib.Decide.{dec_le}
use lib.ListN.{length, length-append, length-map}
use Rattle.geom.specs.declared.Point.{Point}
use Rattle.geom.specs.Points.{within, coordinate, in_range}
use Rattle.segm.specs.declared.Segment.{Segment}
use Rattle.segm.specs.Segments.{Drawing, segment_at}
use Rattle.segm.proofs.Segments.{segment_in, past}
use Rattle.lists.proofs.Members.{in_map}
use Rattle.contour.specs.Points.{AllInRange}
use Rattle.moves.specs.Steps.{as_drawn, way}
use Rattle.moves.specs.Moves.{Move, over, taken_all, bits_remaining}
use Rattle.moves.specs.Begins.{begins}
use Rattle.moves.proofs.Moves.{takes_one, takes_spent}
use Rattle.moves.proofs.Begins.{begins-some}
use Rattle.faults.specs.Faultless.{Faultless}
use Rattle.faults.proofs.Faultless.{ends_near}
use Rattle.slice_walk.specs.Walk.{onto, bind, walk_from, begun, walks_from, walks, direction_of, walk_points}
use Rattle.slice_walk.specs.Writing.{all_points}
use Rattle.slice_walk.proofs.Ends.{IfSome}
use Rattle.slice_walk.proofs.Walk.Till.{Begun, walk-begun}

-- ---- points
pub length_points : (links : Drawing) (walk : List Move) → length (walk_points links walk) ≡ length walk
unfolding walk_points
length_points links walk = length-map walk (λ m. (over links (direction_of walk) m).start)

pub length_all : (links : Drawing) (ws : List (List Move)) → length (flatten (all_points links ws)) ≡ length (flatten ws)
unfolding flatten
length_all links [] = refl
length_all links (w ∷ ws) = omega (
  arith,
  length-append (walk_points links w) (flatten (all_points links ws)),
  length-append w (flatten ws),
  length_points links w,
  length_all links ws,
)

-- the points of faultless links are in range
near_at : (links : Drawing) → Faultless links → (k : ℕ) → (in_range (segment_at links k).a ≡ true) × (in_range (segment_at links k).b ≡ true)
unfolding in_range coordinate within
near_at links p k = go (dec_le (length links) k)
  where
    go : Dec (length links ≤ k) → (in_range (segment_at links k).a ≡ true) × (in_range (segment_at links k).b ≡ true)
    go (yes h) = subst (λ (s : Segment). (in_range s.a ≡ true) × (in_range s.b ≡ true)) (sym (past links k h)) (refl, refl)
    go (no h) = ends_near p (segment_at links k) (segment_in links k refl (omega arith))

start_near : (out forth : Bool) (s : Segment) → in_range s.a ≡ true → in_range s.b ≡ true → in_range (way out (as_drawn forth s)).start ≡ true
unfolding way as_drawn
start_near true true s a b = a
start_near true false s a b = b
start_near false true s a b = b
start_near false false s a b = a

pub walk_near : (links : Drawing) → Faultless links → (walk : List Move) → AllInRange (walk_points links walk)
unfolding walk_points over
walk_near links p walk q i =
    let f : Move → Point = λ m. (over links (direction_of walk) m).start in
    let r = in_map f q walk i in
    let s = near_at links p r.0.place in
    subst (λ (x : Point). in_range x ≡ true) (sym r.2) (start_near (direction_of walk) r.0.forth (segment_at links r.0.place) s.0 s.1)

-- ---- one walk after the other
module _ (links : Drawing) where
  pub begun_first : (bits : List ℕ) (m : Move) → begins links bits ≡ some m → IfSome (Begun bits m) (walk_from links bits m)
  begun_first bits m e = walk-begun links bits m (begins-some links bits m e).bit_remains

  -- a walk takes a bit at least
  pub fewer_after : (bits : List ℕ) (m : Move) (walk : List Move) → Begun bits m walk → bits_remaining (taken_all bits walk) < bits_remaining bits
  fewer_after bits m walk b = omega (arith, takes_spent bits walk b.takes, b.not_empty)

  -- one turn, with so much turns for the rest
  abbrev turn : (List ℕ → ℕ) → List ℕ → Move → Option (List (List Move))
  turn turns bits m = bind (walk_from links bits m) (λ walk. onto walk (walks_from (turns (taken_all bits walk)) links (taken_all bits walk)))

  no_walks : (turns : List ℕ → ℕ) (bits : List ℕ) → bits_remaining bits ≤ 0 → begun (begins links bits) (turn turns bits) ≡ some []
  no_walks turns bits h = go (begins links bits) refl
    where
      go : (o : Option Move) → begins links bits ≡ o → begun o (turn turns bits) ≡ some []
      go none e = refl
      go (some m) e = absurd (omega (arith, takes_one bits m (begins-some links bits m e).bit_remains))

  -- the same turns, where the rest is the same
  turn_same : (f g : List ℕ → ℕ) (bits : List ℕ) → ((rest : List ℕ) → bits_remaining rest < bits_remaining bits → walks_from (f rest) links rest ≡ walks_from (g rest) links rest)
      → begun (begins links bits) (turn f bits) ≡ begun (begins links bits) (turn g bits)
  turn_same f g bits ih = go (begins links bits) refl
    where
      by : (m : Move) (o : Option (List Move)) → IfSome (Begun bits m) o → bind o (λ walk. onto walk (walks_from (f (taken_all bits walk)) links (taken_all bits walk))) ≡ bind o (λ walk. onto walk (walks_from (g (taken_all bits walk)) links (taken_all bits walk)))
      by m none h = refl
      by m (some walk) h = ap (onto walk) (ih (taken_all bits walk) (fewer_after bits m walk h))

      go : (o : Option Move) → begins links bits ≡ o → begun o (turn f bits) ≡ begun o (turn g bits)
      go none e = refl
      go (some m) e = by m (walk_from links bits m) (begun_first bits m e)

  -- more turns than bits changes nothing
  walks_turns : (i j : ℕ) (bits : List ℕ) → bits_remaining bits ≤ i → bits_remaining bits ≤ j → walks_from i links bits ≡ walks_from j links bits
  unfolding walks_from
  walks_turns zero zero bits h l = refl
  walks_turns zero (suc j) bits h l = sym (no_walks (λ b. j) bits h)
  walks_turns (suc i) zero bits h l = no_walks (λ b. i) bits l
  walks_turns (suc i) (suc j) bits h l = turn_same (λ b. i) (λ b. j) bits (λ rest n. walks_turns i j rest (omega arith) (omega arith))

  pub walks_on : (bits : List ℕ) → walks links bits ≡ begun (begins links bits) (λ m. bind (walk_from links bits m) (λ walk. onto walk (walks links (taken_all bits walk))))
  unfolding walks walks_from
  walks_on bits =
      walks_turns (bits_remaining bits) (suc (bits_remaining bits)) bits (omega arith) (omega arith)
      ∙ turn_same (λ b. bits_remaining bits) bits_remaining bits (λ rest n. walks_turns (bits_remaining bits) (bits_remaining rest) rest (omega arith) (omega arith))

  -- ---- how many they are: no more than bits remained
  abbrev Few : List ℕ → List (List Move) → Type 0
  Few bits ws = (length (flatten ws) ≤ bits_remaining bits) × (length ws ≤ length (flatten ws))

  few_from : (turns : ℕ) (bits : List ℕ) → IfSome (Few bits) (walks_from turns links bits)
  unfolding walks_from flatten
  few_from zero bits = (omega arith, omega arith)
  few_from (suc turns) bits = go (begins links bits) refl (few_from turns)
    where
      more : (m : Move) (walk : List Move) → Begun bits m walk → (o : Option (List (List Move))) → IfSome (Few (taken_all bits walk)) o → IfSome (Few bits) (onto walk o)
      more m walk b none h = tt
      more m walk b (some ws) h =
          let spent = takes_spent bits walk b.takes in
          let n = length-append walk (flatten ws) in
          (omega (arith, n, spent, h), omega (arith, n, h, b.not_empty))

      by : (m : Move) (o : Option (List Move)) → IfSome (Begun bits m) o → ((rest : List ℕ) → IfSome (Few rest) (walks_from turns links rest)) → IfSome (Few bits) (bind o (λ walk. onto walk (walks_from turns links (taken_all bits walk))))
      by m none h ih = tt
      by m (some walk) h ih = more m walk h (walks_from turns links (taken_all bits walk)) (ih (taken_all bits walk))

      go : (o : Option Move) → begins links bits ≡ o → ((rest : List ℕ) → IfSome (Few rest) (walks_from turns links rest)) → IfSome (Few bits) (begun o (turn (λ b. turns) bits))
      go none e ih = (omega arith, omega arith)
      go (some m) e ih = by m (walk_from links bits m) (begun_first bits m e) ih

  pub walks_few : (bits : List ℕ) (ws : List (List Move)) → walks links bits ≡ some ws → (length (flatten ws) ≤ bits_remaining bits) × (length ws ≤ bits_remaining bits)
  unfolding walks
  walks_few bits ws e = let h = subst (IfSome (Few bits)) e (few_from (bits_remaining bits) bits) in (h.0, omega (arith, h))
