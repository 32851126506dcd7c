-- The steps of the paths are the moves of the walk, as drawn.
use mathlib.Core.Path.{◌≡◌, refl, sym, ◌∙◌, ap, ap₂}
use mathlib.Core.List.{List, [], ◌∷◌, map, reverse, reverse_aux}
use mathlib.Core.Option.{Option, none, some}
use mathlib.Core.Logic.{inl, inr}
use mathlib.Core.Bool.{Bool, true, false}
use Prim.Native.Nat.{ℕ, zero, suc, ◌+◌, ◌<◌, ◌≤◌}
use native.Mathlib.Omega.{arith}
use lib.ListN.{length, length-map, length-reverse}
use lib.IntN.{nat_abs}
use Rattle.geom.specs.declared.Point.{Point}
use Rattle.lists.specs.Members.{◌∈◌}
use Rattle.lists.specs.Sums.{tally}
use Rattle.segm.specs.Segments.{Drawing}
use Rattle.lists.proofs.Sums.{tally-++}
use Rattle.clip_walk.specs.Walk.{line_bits, and_then, path_from, paths_from, walk}
use Rattle.moves.specs.Steps.{Step, step, way, AllRise}
use Rattle.moves.specs.Moves.{Move, taken_all, bits_remaining, over}
use Rattle.moves.specs.Begins.{begins}
use Rattle.moves.specs.Worth.{worth, ones, drawn_by}
use Rattle.moves.proofs.Begins.{begins-some, begins-none}
use Rattle.moves.proofs.Worth.{worth-ones, no_worth}
use Rattle.clip_paths.specs.Paths.{through, finished, path_points, steps_from, steps_of_path, steps_of}
use Rattle.clip_paths.specs.Writing.{bits_paths}
use Rattle.clip_walk.proofs.Walk.{LeadsOn, path_does, turn}

-- ---- one path
chain_steps : (f : Step → ℕ) (links : Drawing) (out : Bool) (p : Point) (ms : List Move) → LeadsOn links out p ms
    → tally f (steps_from p (map (λ m. (over links out m).end) ms)) ≡ tally (λ m. f (over links out m)) ms
unfolding steps_from tally
chain_steps f links out p [] h = refl
chain_steps f links out p (m ∷ ms) h = ap₂ ◌+◌ (ap (λ q. f (step q (over links out m).end)) (sym h.0)) (chain_steps f links out (over links out m).end ms h.1)

-- steps of a list laid in front of another, the other way round
back_steps : (f : Step → ℕ) (l acc : List Point) (p : Point) → tally f (steps_of_path (reverse_aux l (p ∷ acc))) ≡ tally (λ σ. f (way false σ)) (steps_from p l) + tally f (steps_from p acc)
unfolding steps_from steps_of_path tally way
back_steps f [] acc p = omega arith
back_steps f (q ∷ l) acc p = omega (arith, back_steps f l (p ∷ acc) q)

finished_steps : (f : Step → ℕ) (links : Drawing) (out : Bool) (m : Move) (ms : List Move) → LeadsOn links out (over links out m).start (m ∷ ms)
    → tally f (steps_of_path (finished out (through links out (m ∷ ms)))) ≡ tally (λ n. f (drawn_by links n)) (m ∷ ms)
unfolding steps_from steps_of_path finished through over way tally
finished_steps f links true m ms h = chain_steps f links true (over links true m).start (m ∷ ms) h
finished_steps f links false m ms h =
    let p = (over links false m).start in
    let r : List Point = map (λ n. (over links false n).end) (m ∷ ms) in
    let e : tally f (steps_of_path (reverse (p ∷ r))) ≡ tally (λ σ. f (way false σ)) (steps_from p r) = omega (arith, back_steps f r [] p) in
    e ∙ chain_steps (λ σ. f (way false σ)) links false p (m ∷ ms) h

path_steps : (f : Step → ℕ) (links : Drawing) (bits : List ℕ) (m : Move) → LeadsOn links m.forth (over links m.forth m).start (path_from links bits m)
    → tally f (steps_of_path (path_points links (path_from links bits m))) ≡ tally (λ n. f (drawn_by links n)) (path_from links bits m)
unfolding path_from path_points
path_steps f links bits m h = finished_steps f links m.forth m _ h

path_some : (links : Drawing) (bits : List ℕ) (m : Move) → 0 < tally (λ (n : Move). 1) (path_from links bits m)
unfolding path_from tally
path_some links bits m = omega arith

-- a path has one point more than moves
finished-length : (out : Bool) (points : List Point) → length (finished out points) ≡ length points
unfolding finished
finished-length true points = refl
finished-length false points = length-reverse points

pub path_length_lem : (links : Drawing) (m : Move) (ms : List Move) → length (path_points links (m ∷ ms)) ≡ suc (length (m ∷ ms))
unfolding path_points through
path_length_lem links m ms = finished-length m.forth (through links m.forth (m ∷ ms)) ∙ ap suc (length-map (m ∷ ms) (λ n. (over links m.forth n).end))

-- a path that is written has two points or more
abbrev pub Long : List Point → Type 0
Long path = 2 ≤ length path

path_long : (links : Drawing) (bits : List ℕ) (m : Move) → Long (path_points links (path_from links bits m))
unfolding path_from
path_long links bits m = long m _
  where
    long : (n : Move) (ms : List Move) → Long (path_points links (n ∷ ms))
    long n ms = omega (arith, path_length_lem links n ms)

-- ---- the walk
module _ (links : Drawing) where
  -- from the bits that remain on
  abbrev points_from : ℕ → List ℕ → List (List Point)
  points_from turns bits = map (path_points links) (paths_from turns links bits)

  from_long : (turns : ℕ) (bits : List ℕ) (path : List Point) → path ∈ points_from turns bits → Long path
  unfolding paths_from
  from_long zero bits path i = absurd i
  from_long (suc turns) bits path i = go (begins links bits) i (from_long turns)
    where
      go : (o : Option Move) → path ∈ map (path_points links) (and_then o (turn links turns bits)) → ((bits' : List ℕ) (q : List Point) → q ∈ points_from turns bits' → Long q) → Long path
      go none i ih = absurd i
      go (some m) (inl e) ih = omega (arith, ap length e, path_long links bits m)
      go (some m) (inr i) ih = ih (taken_all bits (path_from links bits m)) path i

  pub paths_long : (bits : List ℕ) (path : List Point) → path ∈ bits_paths links bits → Long path
  paths_long bits path i = from_long (bits_remaining bits) bits path i

  module _ (rise : AllRise links) where
    -- with turns enough for the bits that remain, the walk takes them all
    from_steps : (turns : ℕ) (bits : List ℕ) → worth ones links bits ≤ turns → (f : Step → ℕ) → tally f (steps_of (points_from turns bits)) ≡ worth f links bits
    unfolding paths_from steps_of tally
    from_steps zero bits h f = sym (no_worth f links bits (omega arith))
    from_steps (suc turns) bits h f = go (begins links bits) refl (from_steps turns)
      where
        go : (o : Option Move) → begins links bits ≡ o
            → ((bits' : List ℕ) → worth ones links bits' ≤ turns → (g : Step → ℕ) → tally g (steps_of (points_from turns bits')) ≡ worth g links bits')
            → tally f (steps_of (map (path_points links) (and_then o (turn links turns bits)))) ≡ worth f links bits
        go none e ih = sym (begins-none f links bits e)
        go (some m) e ih =
            let path = path_from links bits m in
            let after = taken_all bits path in
            let does = path_does links rise bits m (begins-some links bits m e) in
            let fewer : worth ones links after ≤ turns = omega (arith, does.0 ones, path_some links bits m) in
            omega (arith, tally-++ f (steps_of_path (path_points links path)) (steps_of (points_from turns after)), path_steps f links bits m does.1, ih after fewer f, does.0 f)

    -- what the steps of a walk come to, for any worth of a step
    pub bits_steps : (bits : List ℕ) → length bits ≡ length links → (f : Step → ℕ) → tally f (steps_of (bits_paths links bits)) ≡ worth f links bits
    bits_steps bits e f = from_steps (bits_remaining bits) bits (omega (arith, worth-ones links bits e)) f

    -- and those of all line bits of the links
    pub walk_steps : (f : Step → ℕ) → tally f (steps_of (map (path_points links) (walk links))) ≡ worth f links (line_bits links)
    unfolding walk
    walk_steps f = bits_steps (line_bits links) (length-map links (λ s. nat_abs s.bits)) f
