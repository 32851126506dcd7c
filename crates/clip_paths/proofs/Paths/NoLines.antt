-- A link without line bits changes no path: with one such link put in, a walk makes the same moves, the places from there on one more.
use mathlib.Core.Path.{◌≡◌, refl, sym, ◌∙◌, ap, ap₂, fun_ext}
use mathlib.Core.List.{List, [], ◌∷◌, ◌++◌, map, map-map, map-append}
use mathlib.Core.Logic.{inl, inr}
use mathlib.Core.Option
use mathlib.Core.Option.{Option, none, some, or_else}
use mathlib.Core.Bool.{Bool, true, false, ◌&&◌, cond}
use Prim.Native.Nat.{ℕ, zero, suc, ◌%◌}
use native.Mathlib.Omega.{arith}
use lib.ListN.{length, get_or, set}
use lib.Seq.{append_snoc}
use lib.IntN.{nat_abs}
use Rattle.integers.proofs.Booleans.{not_r}
use Rattle.geom.specs.declared.Point.{Point}
use Rattle.geom.specs.Points.{eq_p}
use Rattle.segm.specs.declared.Segment.{Segment}
use Rattle.lists.specs.Members.{◌∈◌, keep}
use Rattle.lists.specs.Sums.{tally}
use Rattle.lists.specs.UpFrom.{up_from}
use Rattle.segm.specs.Segments.{Drawing, nowhere, segment_at}
use Rattle.lists.proofs.Members.{keep_map}
use Rattle.graph.specs.Nodes.{node}
use Rattle.moves.specs.Bits.{has, clear}
use Rattle.moves.specs.Steps.{Step, as_drawn, way, fitting}
use Rattle.moves.specs.Moves.{Move, move, remains, taken, taken_all, bits_remaining, over}
use Rattle.moves.specs.Begins.{first_remaining, both_moves, begins}
use Rattle.moves.proofs.Bits.{none-set}
use Rattle.moves.proofs.Begins.{first-++}
use Rattle.clip_walk.specs.Walk.{line_bits, goes_on, and_then, follow, path_from, paths_from, walk}
use Rattle.clip_paths.specs.Paths.{through, finished, path_points}
use Rattle.clip_walk.proofs.Walk.{turn}

-- all paths of links, by their own line bits
abbrev pub links_paths : Drawing → List (List Point)
links_paths links = map (path_points links) (walk links)

-- ---- one entry more
-- where entry k stands once another is put in at place n
abbrev moved : ℕ → ℕ → ℕ
moved zero k = suc k
moved (suc n) zero = zero
moved (suc n) (suc k) = suc (moved n k)

module _ {A : Type 0} where
  -- l with x put in at place n, if it has as many entries
  abbrev put_in : ℕ → A → List A → List A
  put_in zero x l = x ∷ l
  put_in (suc n) x [] = []
  put_in (suc n) x (y ∷ l) = y ∷ put_in n x l

  module _ (x : A) where
    -- an entry that was there is read where it moved to
    get_moved : (n : ℕ) (l : List A) (k : ℕ) (z : A) → get_or (put_in n x l) (moved n k) z ≡ get_or l k z
    get_moved zero l k z = refl
    get_moved (suc n) [] k z = refl
    get_moved (suc n) (y ∷ l) zero z = refl
    get_moved (suc n) (y ∷ l) (suc k) z = get_moved n l k z

    -- the new entry, which is also what is read past the end
    get_in : (n : ℕ) (l : List A) → get_or (put_in n x l) n x ≡ x
    get_in zero l = refl
    get_in (suc n) [] = refl
    get_in (suc n) (y ∷ l) = get_in n l

    -- and written there
    set_moved : (n : ℕ) (l : List A) (k : ℕ) (v : A) → set (put_in n x l) (moved n k) v ≡ put_in n x (set l k v)
    set_moved zero l k v = refl
    set_moved (suc n) [] k v = refl
    set_moved (suc n) (y ∷ l) zero v = refl
    set_moved (suc n) (y ∷ l) (suc k) v = ap (y ∷◌) (set_moved n l k v)

    -- put in after the first entries
    put_in_after : (front l : List A) → put_in (length front) x (front ++ l) ≡ front ++ (x ∷ l)
    put_in_after [] l = refl
    put_in_after (y ∷ front) l = ap (y ∷◌) (put_in_after front l)

-- through a function
map_put_in : {A B : Type 0} (f : A → B) (x : A) (n : ℕ) (l : List A) → map f (put_in n x l) ≡ put_in n (f x) (map f l)
map_put_in f x zero l = refl
map_put_in f x (suc n) [] = refl
map_put_in f x (suc n) (y ∷ l) = ap (f y ∷◌) (map_put_in f x n l)

-- ---- the places
-- one number on, each number is one more
from_next : (k n : ℕ) → up_from (suc k) n ≡ map suc (up_from k n)
unfolding up_from
from_next k zero = refl
from_next k (suc n) = ap (suc k ∷◌) (from_next (suc k) n)

-- those there were, each moved, and the new one
places : {A : Type 0} (x : A) (n : ℕ) (l : List A) → up_from 0 (length (put_in n x l)) ≡ put_in n n (map (moved n) (up_from 0 (length l)))
unfolding up_from
places x zero l = ap (0 ∷◌) (from_next 0 (length l))
places x (suc n) [] = refl
places x (suc n) (y ∷ l) =
    let all = up_from 0 (length l) in
    let later : map suc (map (moved n) all) ≡ map (moved (suc n)) (up_from 1 (length l)) =
    map-map suc (moved n) all ∙ sym (map-map (moved (suc n)) suc all) ∙ ap (map (moved (suc n))) (sym (from_next 0 (length l))) in
    ap (0 ∷◌) (from_next 0 (length (put_in n x l)) ∙ ap (map suc) (places x n l) ∙ map_put_in suc n n (map (moved n) all) ∙ ap (put_in n (suc n)) later)

-- ---- moves and line bits
-- a link without line bits adds none to those that remain
bits_more : (n : ℕ) (bits : List ℕ) → bits_remaining (put_in n 0 bits) ≡ bits_remaining bits
unfolding bits_remaining tally
bits_more zero bits = rw (none-set 0 true refl, none-set 0 false refl) (omega arith)
bits_more (suc n) [] = refl
bits_more (suc n) (b ∷ bits) = omega (arith, bits_more n bits)

module _ (n : ℕ) where
  -- the move over the same link
  abbrev renamed : Move → Move
  renamed m = move (moved n m.place) m.forth

  module _ (bits : List ℕ) where
    -- the line bits, with none for the new link
    abbrev more : List ℕ
    more = put_in n 0 bits

    -- no bit of the new link remains
    none_of_new : (forth : Bool) → remains more (move n forth) ≡ false
    unfolding remains
    none_of_new forth = none-set (get_or more n 0) forth (ap (◌% 4) (get_in 0 n bits))

    -- the bit of a move over another link remains as before
    remains_renamed : (m : Move) → remains more (renamed m) ≡ remains bits m
    unfolding remains
    remains_renamed m = ap (has m.forth) (get_moved 0 n bits m.place 0)

    -- and takes the same bit
    taken_renamed : (m : Move) → taken more (renamed m) ≡ put_in n 0 (taken bits m)
    unfolding taken
    taken_renamed m = ap (λ b. set more (moved n m.place) (clear m.forth b)) (get_moved 0 n bits m.place 0) ∙ set_moved 0 n bits m.place (clear m.forth (get_or bits m.place 0))

    -- so the same move is the first whose bit remains
    first_renamed : (l : List Move) → first_remaining more (map renamed l) ≡ Option.map renamed (first_remaining bits l)
    unfolding first_remaining
    first_renamed [] = refl
    first_renamed (m ∷ l) = rw (remains_renamed m) (go (remains bits m) (first_renamed l))
      where
        go : (b : Bool) → first_remaining more (map renamed l) ≡ Option.map renamed (first_remaining bits l)
            → cond b (some (renamed m)) (first_remaining more (map renamed l)) ≡ Option.map renamed (cond b (some m) (first_remaining bits l))
        go true e = refl
        go false e = e

    -- a choice among the moves of places: the new place adds none whose bit remains
    choice : (G H : List ℕ → List Move) → ((l : List ℕ) → G (map (moved n) l) ≡ map renamed (H l)) → ((i : ℕ) (l : List ℕ) → first_remaining more (G (put_in i n l)) ≡ first_remaining more (G l))
        → (s : Segment) (d : Drawing) → first_remaining more (G (up_from 0 (length (put_in n s d)))) ≡ Option.map renamed (first_remaining bits (H (up_from 0 (length d))))
    choice G H same passed s d =
        let all = up_from 0 (length d) in
        ap (λ (l : List ℕ). first_remaining more (G l)) (places s n d) ∙ passed n (map (moved n) all) ∙ ap (first_remaining more) (same all) ∙ first_renamed (H all)

    -- ---- where a path begins
    -- the two moves over the new link are passed over
    passed_both : (i : ℕ) (l : List ℕ) → first_remaining more (both_moves (put_in i n l)) ≡ first_remaining more (both_moves l)
    unfolding first_remaining both_moves
    passed_both zero l = rw (none_of_new true, none_of_new false)
    passed_both (suc i) [] = refl
    passed_both (suc i) (k ∷ l) = ap (λ (o : Option Move). cond (remains more (move k true)) (some (move k true)) (cond (remains more (move k false)) (some (move k false)) o)) (passed_both i l)

  -- the others are those there were
  both_renamed : (l : List ℕ) → both_moves (map (moved n) l) ≡ map renamed (both_moves l)
  unfolding both_moves
  both_renamed [] = refl
  both_renamed (k ∷ l) = ap (λ (ms : List Move). move (moved n k) true ∷ move (moved n k) false ∷ ms) (both_renamed l)

  -- ---- where it goes on
  module _ (out : Bool) (p : Point) where
    -- over the segment at each place, from p
    abbrev fitted : (ℕ → Segment) → ℕ → Move
    fitted at k = move k (fitting out p (at k))

    -- it starts at p, or ends there
    abbrev starts : (ℕ → Segment) → ℕ → Bool
    starts at k = eq_p (at k).a p

    abbrev stops : (ℕ → Segment) → ℕ → Bool
    stops at k = eq_p (at k).b p

    -- the moves of these places that start at p, then those that end there
    abbrev fits : (ℕ → Segment) → List ℕ → List Move
    fits at l = map (fitted at) (keep (starts at) l ++ keep (stops at) l)

    -- the moves of moved places are those of the segments that stand there
    fits_renamed : (at : ℕ → Segment) (l : List ℕ) → fits at (map (moved n) l) ≡ map renamed (fits (λ k. at (moved n k)) l)
    fits_renamed at l =
        let at' : ℕ → Segment = λ k. at (moved n k) in
        let both = keep (starts at') l ++ keep (stops at') l in
        ap₂ (λ (a b : List ℕ). map (fitted at) (a ++ b)) (keep_map (starts at) (moved n) l) (keep_map (stops at) (moved n) l)
        ∙ ap (map (fitted at)) (sym (map-append (moved n) (keep (starts at') l) (keep (stops at') l)))
        ∙ map-map (fitted at) (moved n) both ∙ sym (map-map renamed (fitted at') both)

    module _ (bits : List ℕ) (at : ℕ → Segment) where
      -- the first whose bit remains, of the places that pass a test
      abbrev chosen : (ℕ → Bool) → List ℕ → Option Move
      chosen q l = first_remaining (more bits) (map (fitted at) (keep q l))

      -- one place more
      chosen_cons : (q : ℕ → Bool) (k : ℕ) (l : List ℕ) → chosen q (k ∷ l) ≡ cond (q k && remains (more bits) (fitted at k)) (some (fitted at k)) (chosen q l)
      unfolding first_remaining keep
      chosen_cons q k l = go (q k)
        where
          go : (b : Bool) → first_remaining (more bits) (map (fitted at) (cond b (k ∷ keep q l) (keep q l))) ≡ cond (b && remains (more bits) (fitted at k)) (some (fitted at k)) (chosen q l)
          go true = refl
          go false = refl

      -- the new place is passed over
      passed_kept : (q : ℕ → Bool) (i : ℕ) (l : List ℕ) → chosen q (put_in i n l) ≡ chosen q l
      unfolding first_remaining keep
      passed_kept q zero l = chosen_cons q n l ∙ ap (λ (b : Bool). cond b (some (fitted at n)) (chosen q l)) (not_r (q n) (none_of_new bits (fitting out p (at n))))
      passed_kept q (suc i) [] = refl
      passed_kept q (suc i) (k ∷ l) =
          chosen_cons q k (put_in i n l) ∙ ap (λ (o : Option Move). cond (q k && remains (more bits) (fitted at k)) (some (fitted at k)) o) (passed_kept q i l) ∙ sym (chosen_cons q k l)

      -- the first whose bit remains starts at p, or else ends there
      chosen_fits : (l : List ℕ) → first_remaining (more bits) (fits at l) ≡ or_else (chosen (starts at) l) (chosen (stops at) l)
      chosen_fits l = ap (first_remaining (more bits)) (map-append (fitted at) (keep (starts at) l) (keep (stops at) l)) ∙ first-++ (more bits) (map (fitted at) (keep (starts at) l)) (map (fitted at) (keep (stops at) l))

      -- so the new place is passed over
      passed_fits : (i : ℕ) (l : List ℕ) → first_remaining (more bits) (fits at (put_in i n l)) ≡ first_remaining (more bits) (fits at l)
      passed_fits i l = chosen_fits (put_in i n l) ∙ ap₂ or_else (passed_kept (starts at) i l) (passed_kept (stops at) i l) ∙ sym (chosen_fits l)

  -- ---- what is done with the move chosen, if there is one
  module _ {A B : Type 0} (f : A → B) (g : Move → List B) (h : Move → List A) (same : (m : Move) → g (renamed m) ≡ map f (h m)) where
    -- the same, if the same is done with each move
    then_same : (o : Option Move) {o' : Option Move} → o' ≡ Option.map renamed o → and_then o' g ≡ map f (and_then o h)
    then_same o e = ap (λ (x : Option Move). and_then x g) e ∙ go o
      where
        go : (x : Option Move) → and_then (Option.map renamed x) g ≡ map f (and_then x h)
        go none = refl
        go (some m) = same m

-- ---- the walk, with s put in at place n
module _ (n : ℕ) (s : Segment) (d : Drawing) where
  -- the links, one more
  abbrev longer : Drawing
  longer = put_in n s d

  -- a moved place has the segment that it had
  same-segment : (k : ℕ) → segment_at longer (moved n k) ≡ segment_at d k
  unfolding segment_at
  same-segment k = get_moved s n d k nowhere

  -- so a renamed move is the same step
  same_step : (out : Bool) (m : Move) → over longer out (renamed n m) ≡ over d out m
  unfolding over
  same_step out m = ap (λ (t : Segment). way out (as_drawn m.forth t)) (same-segment m.place)

  same_end : (out : Bool) (m : Move) → (over longer out (renamed n m)).end ≡ (over d out m).end
  same_end out m = ap (λ (σ : Step). σ.end) (same_step out m)

  -- a path begins with the same move
  begins-same : (bits : List ℕ) → begins longer (more n bits) ≡ Option.map (renamed n) (begins d bits)
  unfolding begins
  begins-same bits = choice n bits both_moves both_moves (both_renamed n) (passed_both n bits) s d

  -- and goes on with the same
  goes_on-same : (out : Bool) (p : Point) (bits : List ℕ) → goes_on longer out p (more n bits) ≡ Option.map (renamed n) (goes_on d out p bits)
  unfolding goes_on node
  goes_on-same out p bits =
      choice n bits (fits n out p (segment_at longer)) (fits n out p (segment_at d))
      (λ l. fits_renamed n out p (segment_at longer) l ∙ ap (λ (at : ℕ → Segment). map (renamed n) (fits n out p at l)) (fun_ext same-segment))
      (passed_fits n out p bits (segment_at longer)) s d

  -- till none fits
  follow-same : (turns : ℕ) (out : Bool) (p : Point) (bits : List ℕ) → follow turns longer out p (more n bits) ≡ map (renamed n) (follow turns d out p bits)
  unfolding follow
  follow-same zero out p bits = refl
  follow-same (suc turns) out p bits =
      then_same n (renamed n) (λ m. m ∷ follow turns longer out (over longer out m).end (taken (more n bits) m)) (λ m. m ∷ follow turns d out (over d out m).end (taken bits m))
      (λ m. ap (renamed n m ∷◌) (ap₂ (follow turns longer out) (same_end out m) (taken_renamed n bits m) ∙ follow-same turns out (over d out m).end (taken bits m)))
      (goes_on d out p bits) (goes_on-same out p bits)

  -- the same path
  path_same : (bits : List ℕ) (m : Move) → path_from longer (more n bits) (renamed n m) ≡ map (renamed n) (path_from d bits m)
  unfolding path_from
  path_same bits m =
      let rest = taken bits m in
      let out = m.forth in
      ap (renamed n m ∷◌) (
      ap₂ (λ (p : Point) (b : List ℕ). follow (bits_remaining b) longer out p b) (same_end out m) (taken_renamed n bits m)
      ∙ ap (λ turns. follow turns longer out (over d out m).end (more n rest)) (bits_more n rest)
      ∙ follow-same (bits_remaining rest) out (over d out m).end rest
      )

  -- which leaves the same bits
  taken_all-same : (bits : List ℕ) (l : List Move) → taken_all (more n bits) (map (renamed n) l) ≡ more n (taken_all bits l)
  unfolding taken_all
  taken_all-same bits [] = refl
  taken_all-same bits (m ∷ l) = ap (λ (b : List ℕ). taken_all b (map (renamed n) l)) (taken_renamed n bits m) ∙ taken_all-same (taken bits m) l

  -- so the paths after it are the same
  paths_from-same : (turns : ℕ) (bits : List ℕ) → paths_from turns longer (more n bits) ≡ map (map (renamed n)) (paths_from turns d bits)
  unfolding paths_from
  paths_from-same zero bits = refl
  paths_from-same (suc turns) bits =
      then_same n (map (renamed n)) (turn longer turns (more n bits)) (turn d turns bits)
      (λ m.
      let path = path_from d bits m in
      ap (λ (l : List Move). l ∷ paths_from turns longer (taken_all (more n bits) l)) (path_same bits m)
      ∙ ap (map (renamed n) path ∷◌) (ap (paths_from turns longer) (taken_all-same bits path) ∙ paths_from-same turns (taken_all bits path)))
      (begins d bits) (begins-same bits)

  -- s has no line bits
  module _ (none-on : nat_abs s.bits ≡ 0) where
    -- the whole walk
    walk_same : walk longer ≡ map (map (renamed n)) (walk d)
    unfolding walk
    walk_same =
        let bits = line_bits d in
        let as_many : line_bits longer ≡ more n bits = map_put_in (λ (t : Segment). nat_abs t.bits) s n d ∙ ap (λ b. put_in n b bits) none-on in
        ap (λ (b : List ℕ). paths_from (bits_remaining b) longer b) as_many ∙ ap (λ turns. paths_from turns longer (more n bits)) (bits_more n bits) ∙ paths_from-same (bits_remaining bits) bits

    -- its paths come through the same points
    points_same : (l : List Move) → path_points longer (map (renamed n) l) ≡ path_points d l
    unfolding path_points through
    points_same [] = refl
    points_same (m ∷ l) =
        let out = m.forth in
        ap (λ (ends : List Point). finished out ((over longer out (renamed n m)).start ∷ ends)) (map-map (λ k. (over longer out k).end) (renamed n) (m ∷ l))
        ∙ ap (λ (f : Move → Step). finished out ((f m).start ∷ map (λ k. (f k).end) (m ∷ l))) (fun_ext (same_step out))

    -- a link without line bits, put in anywhere, changes no path
    one_more : links_paths longer ≡ links_paths d
    one_more = ap (map (path_points longer)) walk_same ∙ map-map (path_points longer) (map (renamed n)) (walk d) ∙ ap (λ (f : List Move → List Point). map f (walk d)) (fun_ext points_same)

-- ---- any of the links
module _ (P : Segment → Bool) where
  -- after links that all stay
  no_lines_after : (front d : Drawing) → ((s : Segment) → s ∈ d → P s ≡ false → nat_abs s.bits ≡ 0) → links_paths (front ++ d) ≡ links_paths (front ++ keep P d)
  unfolding keep
  no_lines_after front [] h = refl
  no_lines_after front (s ∷ d) h = go (P s) refl (λ (stay : Drawing). no_lines_after stay d (λ t m. h t (inr m)))
    where
      go : (b : Bool) → P s ≡ b → ((stay : Drawing) → links_paths (stay ++ d) ≡ links_paths (stay ++ keep P d)) → links_paths (front ++ (s ∷ d)) ≡ links_paths (front ++ cond b (s ∷ keep P d) (keep P d))
      go true e ih = ap links_paths (sym (append_snoc front s d)) ∙ ih (front ++ (s ∷ [])) ∙ ap links_paths (append_snoc front s (keep P d))
      go false e ih = ap links_paths (sym (put_in_after s front d)) ∙ one_more (length front) s (front ++ d) (h s (inl refl) e) ∙ ih front

  -- links that a test refuses, none of which has line bits, change no path
  pub no_lines : (d : Drawing) → ((s : Segment) → s ∈ d → P s ≡ false → nat_abs s.bits ≡ 0) → links_paths d ≡ links_paths (keep P d)
  no_lines d h = no_lines_after [] d h
