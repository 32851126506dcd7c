-- The moves of a path: what they come to, and that they lead on. And the walk without its turns: as many turns as bits remain are always enough, so each loop
-- goes on by one turn, as the program's loops do.
use mathlib.Core.Path.{◌≡◌, refl, sym, ◌∙◌, ap, subst}
use mathlib.Core.List.{List, [], ◌∷◌, map}
use mathlib.Core.Option.{Option, none, some}
use mathlib.Core.Bool.{Bool, true}
use Prim.Native.Nat.{ℕ, zero, suc, ◌+◌, ◌<◌, ◌≤◌}
use native.Mathlib.Omega.{arith}
use lib.ListN.{length}
use Rattle.geom.specs.declared.Point.{Point}
use Rattle.lists.specs.Sums.{tally}
use Rattle.segm.specs.Segments.{Drawing, segment_at}
use Rattle.lists.proofs.Members.{in_map}
use Rattle.graph.specs.Nodes.{node}
use Rattle.graph.proofs.Node.{in_node}
use Rattle.moves.specs.Steps.{AllRise, as_drawn, way, Step, fitting}
use Rattle.moves.specs.Moves.{Move, move, remains, Makes, taken, taken_all, Takes, bits_remaining, over}
use Rattle.moves.specs.Begins.{begins}
use Rattle.moves.specs.Worth.{worth, drawn_by}
use Rattle.moves.proofs.Steps.{fitting_start, at_place}
use Rattle.moves.proofs.Moves.{takes_keep, takes_spent}
use Rattle.moves.proofs.Begins.{first_some, begins-some}
use Rattle.moves.proofs.Worth.{make}
use Rattle.clip_walk.specs.Walk.{goes_on, and_then, follow, path_from, paths_from}

-- ---- the next move
pub goes_on-some : (links : Drawing) (out : Bool) (p : Point) (bits : List ℕ) (m : Move) → AllRise links → goes_on links out p bits ≡ some m → Makes links bits m × ((over links out m).start ≡ p)
unfolding goes_on over
goes_on-some links out p bits m rise e =
    let f : ℕ → Move = λ k. move k (fitting out p (segment_at links k)) in
    let r = first_some bits (map f (node links p)) m e in
    let i = in_map f m (node links p) r.0 in
    let n = in_node links p i.0 i.1 in (
      record { within = subst (λ (x : Move). x.place < length links) (sym i.2) n.0; bit_remains = r.1 },
      subst (λ (x : Move). (way out (as_drawn x.forth (segment_at links x.place))).start ≡ p) (sym i.2)
          (fitting_start out p (segment_at links i.0) (at_place links rise i.0 n.0) n.1),
    )

-- ---- the moves of a path
-- ms leads on from p
abbrev pub LeadsOn : Drawing → Bool → Point → List Move → Type 0
LeadsOn links out p [] = Unit {0}
LeadsOn links out p (m ∷ ms) = ((over links out m).start ≡ p) × LeadsOn links out (over links out m).end ms

-- moves that take line bits which remain: what the bits come to is less by their steps
abbrev pub Spends : Drawing → List ℕ → List Move → Type 0
Spends links bits ms = (f : Step → ℕ) → worth f links bits ≡ tally (λ m. f (drawn_by links m)) ms + worth f links (taken_all bits ms)

module _ (links : Drawing) (rise : AllRise links) where
  follow_does : (turns : ℕ) (out : Bool) (p : Point) (bits : List ℕ) → Spends links bits (follow turns links out p bits) × LeadsOn links out p (follow turns links out p bits)
  unfolding follow taken_all tally
  follow_does zero out p bits = (λ f. omega arith, tt)
  follow_does (suc turns) out p bits = go (goes_on links out p bits) refl (follow_does turns out)
    where
      rest : Move → List Move
      rest m = follow turns links out (over links out m).end (taken bits m)

      go : (o : Option Move) → goes_on links out p bits ≡ o
          → ((q : Point) (bits' : List ℕ) → Spends links bits' (follow turns links out q bits') × LeadsOn links out q (follow turns links out q bits'))
          → Spends links bits (and_then o (λ m. m ∷ rest m)) × LeadsOn links out p (and_then o (λ m. m ∷ rest m))
      go none e ih = (λ f. omega arith, tt)
      go (some m) e ih =
          let s = goes_on-some links out p bits m rise e in
          let r = ih (over links out m).end (taken bits m) in
          (λ f. omega (arith, make f links bits m s.0, r.0 f), (s.1, r.1))

  pub path_does : (bits : List ℕ) (m : Move) → Makes links bits m → Spends links bits (path_from links bits m) × LeadsOn links m.forth (over links m.forth m).start (path_from links bits m)
  unfolding path_from taken_all tally
  path_does bits m h =
      let r = follow_does (bits_remaining (taken bits m)) m.forth (over links m.forth m).end (taken bits m) in
      (λ f. omega (arith, make f links bits m h, r.0 f), (refl, r.1))

-- ---- without turns
module _ (links : Drawing) where
  pub goes_on-remains : (out : Bool) (p : Point) (bits : List ℕ) (m : Move) → goes_on links out p bits ≡ some m → remains bits m ≡ true
  unfolding goes_on
  goes_on-remains out p bits m e = (first_some bits (map (λ k. move k (fitting out p (segment_at links k))) (node links p)) m e).1

  follow_takes : (turns : ℕ) (out : Bool) (p : Point) (bits : List ℕ) → Takes bits (follow turns links out p bits)
  unfolding follow
  follow_takes zero out p bits = tt
  follow_takes (suc turns) out p bits = go (goes_on links out p bits) refl (follow_takes turns out)
    where
      go : (o : Option Move) → goes_on links out p bits ≡ o → ((q : Point) (rest : List ℕ) → Takes rest (follow turns links out q rest))
          → Takes bits (and_then o (λ m. m ∷ follow turns links out (over links out m).end (taken bits m)))
      go none e ih = tt
      go (some m) e ih = (goes_on-remains out p bits m e, ih (over links out m).end (taken bits m))

  path_takes : (bits : List ℕ) (m : Move) → remains bits m ≡ true → Takes bits (path_from links bits m)
  unfolding path_from
  path_takes bits m e = (e, follow_takes (bits_remaining (taken bits m)) m.forth (over links m.forth m).end (taken bits m))

  -- what each move keeps true of the bits is true when the path ends
  pub path_keeps : (P : List ℕ → Type 0) → ((rest : List ℕ) (m : Move) → remains rest m ≡ true → P rest → P (taken rest m))
      → (bits : List ℕ) (m : Move) → remains bits m ≡ true → P bits → P (taken_all bits (path_from links bits m))
  path_keeps P keeps bits m e h = takes_keep P keeps bits (path_from links bits m) (path_takes bits m e) h

  -- a path takes a bit at least
  pub path_fewer : (bits : List ℕ) (m : Move) → begins links bits ≡ some m → bits_remaining (taken_all bits (path_from links bits m)) < bits_remaining bits
  unfolding path_from
  path_fewer bits m e = omega (arith, takes_spent bits (path_from links bits m) (path_takes bits m (begins-some links bits m e).bit_remains))

  -- one turn of the loop of paths
  abbrev pub turn : ℕ → List ℕ → Move → List (List Move)
  turn turns bits m = path_from links bits m ∷ paths_from turns links (taken_all bits (path_from links bits m))

  walk_empty : (turns : ℕ) (bits : List ℕ) → bits_remaining bits ≤ 0 → [] ≡ paths_from turns links bits
  unfolding paths_from
  walk_empty zero bits h = refl
  walk_empty (suc turns) bits h = go (begins links bits) refl
    where
      go : (o : Option Move) → begins links bits ≡ o → [] ≡ and_then o (turn turns bits)
      go none e = refl
      go (some m) e = absurd (omega (arith, path_fewer bits m e))

  -- more turns than bits changes nothing
  walk_turns : (j k : ℕ) (bits : List ℕ) → bits_remaining bits ≤ j → bits_remaining bits ≤ k → paths_from j links bits ≡ paths_from k links bits
  unfolding paths_from
  walk_turns zero k bits h l = walk_empty k bits h
  walk_turns (suc j) zero bits h l = sym (walk_empty (suc j) bits l)
  walk_turns (suc j) (suc k) bits h l = go (begins links bits) refl (walk_turns j k)
    where
      go : (o : Option Move) → begins links bits ≡ o → ((bits' : List ℕ) → bits_remaining bits' ≤ j → bits_remaining bits' ≤ k → paths_from j links bits' ≡ paths_from k links bits') → and_then o (turn j bits) ≡ and_then o (turn k bits)
      go none e ih = refl
      go (some m) e ih = ap (path_from links bits m ∷◌) (ih (taken_all bits (path_from links bits m)) (omega (arith, path_fewer bits m e)) (omega (arith, path_fewer bits m e)))

  -- the loop of paths
  pub walk_on : (bits : List ℕ) → paths_from (bits_remaining bits) links bits
      ≡ and_then (begins links bits) (λ m. path_from links bits m ∷ paths_from (bits_remaining (taken_all bits (path_from links bits m))) links (taken_all bits (path_from links bits m)))
  unfolding paths_from
  walk_on bits = walk_turns (bits_remaining bits) (suc (bits_remaining bits)) bits (omega arith) (omega arith) ∙ go (begins links bits) refl
    where
      go : (o : Option Move) → begins links bits ≡ o → and_then o (turn (bits_remaining bits) bits) ≡ and_then o (λ m. turn (bits_remaining (taken_all bits (path_from links bits m))) bits m)
      go none e = refl
      go (some m) e = ap (path_from links bits m ∷◌) (walk_turns (bits_remaining bits) (bits_remaining (taken_all bits (path_from links bits m))) (taken_all bits (path_from links bits m)) (omega (arith, path_fewer bits m e)) (omega arith))
