-- All paths: those written, those to come, and the links passed, which have no line bit.
use mathlib.Core.Path.{◌≡◌, refl, sym, ◌∙◌, ap, subst}
use mathlib.Core.List.{List, [], ◌∷◌, ◌++◌, map, flatten, append-nil}
use mathlib.Core.Option.{Option, some}
use mathlib.Core.Bool.{true}
use Prim.Native.Nat.{ℕ, ◌+◌, ◌*◌, ◌-◌, ◌%◌, ◌<◌, ◌≤◌}
use native.Mathlib.Omega.{arith}
use borrow.Author.Count.{below_more}
use lib.ListN.{length, get_or, take, drop, set, length-set, length-take, length-drop, length-append}
use lib.Seq.{append_snoc}
use lib.IntN.{ℤ}
use Rattle.geom.specs.declared.Point.{Point}
use Rattle.lists.specs.Written.{written}
use Rattle.segm.specs.Segments.{Drawing}
use Rattle.lists.proofs.Entries.{flatten-++, flatten_one}
use Rattle.contour.specs.Points.{coordinates, Writes}
use Rattle.contour.proofs.Points.Written.{writes_one}
use Rattle.moves.specs.Bits.{has}
use Rattle.moves.specs.Moves.{Move, move, remains, taken, taken_all, bits_remaining}
use Rattle.moves.specs.Begins.{begins}
use Rattle.moves.specs.ByEnd.{Graph}
use Rattle.moves.proofs.Moves.{taken-other, length_taken}
use Rattle.moves.proofs.Begins.{first-remains, begins-at, begins-nowhere}
use Rattle.clip_walk.specs.Walk.{and_then, path_from, paths_from}
use Rattle.clip_paths.specs.Paths.{path_points, steps_of, totals}
use Rattle.clip_paths.specs.Writing.{path_at, ClipLists, bits_paths, travel_over}
use Rattle.clip_walk.proofs.Walk.{path_keeps, path_fewer, walk_on}
use Rattle.clip_paths.proofs.Writing.Found.{Found, bits_found, found_fit}

module _ (links : Drawing) (bits₀ moves₀ : List ℕ) (points₀ : List ℤ) (lengths₀ : List ℕ) where
  abbrev all_paths : List (List Point)
  all_paths = bits_paths links bits₀

  -- ---- the loop
  pub record Walked (bits moves : List ℕ) (points : List ℤ) (lengths : List ℕ) (paths at k : ℕ) : Type 0 where
    pub done : List (List Point)
    pub paths_are : paths ≡ length done
    pub at_is : at ≡ length (flatten done)
    pub writes : Writes done points₀ lengths₀ points lengths
    pub all : done ++ bits_paths links bits ≡ all_paths
    pub passed : (j : ℕ) → j < k → get_or bits j 0 % 4 ≡ 0
    pub as_many : length bits ≡ length bits₀
    pub moves_room : length moves ≡ length moves₀
    pub points_room : length points ≡ length points₀
    pub lengths_room : length lengths ≡ length lengths₀

  pub none_yet : Walked bits₀ moves₀ points₀ lengths₀ 0 0 0
  unfolding written coordinates flatten
  none_yet = record {
    done = [];
    paths_are = refl;
    at_is = refl;
    writes = record { points_are = refl; lengths_are = refl };
    all = refl;
    passed = λ j h. absurd (omega arith);
    as_many = refl;
    moves_room = refl;
    points_room = refl;
    lengths_room = refl;
  }

  -- what a call needs
  module _ {g : Graph} (r : ClipLists links g bits₀ × (2 * length bits₀ ≤ length moves₀) × (8 * length bits₀ ≤ length points₀) × (2 * length bits₀ ≤ length lengths₀))
      {bits moves : List ℕ} {points : List ℤ} {lengths : List ℕ} {paths at k : ℕ} (w : Walked bits moves points lengths paths at k)
    where
      all_found : Found links bits₀ all_paths
      all_found = bits_found links r.0.good.faultless.proper bits₀ r.0.as_many

      all_fit : (2 * length (flatten all_paths) ≤ 8 * length bits₀) × (length all_paths ≤ 2 * length bits₀)
      all_fit = found_fit all_found (length bits₀) (omega arith)

      -- a link without line bits
      pub pass : get_or bits k 0 % 4 ≡ 0 → Walked bits moves points lengths paths at (k + 1)
      pass h = record {
        done = w.done;
        paths_are = w.paths_are;
        at_is = w.at_is;
        writes = w.writes;
        all = w.all;
        passed = below_more (λ j. get_or bits j 0 % 4 ≡ 0) k w.passed h;
        as_many = w.as_many;
        moves_room = w.moves_room;
        points_room = w.points_room;
        lengths_room = w.lengths_room;
      }

      -- a link with one begins a path
      module _ (within : k < length bits₀) (line : get_or bits k 0 % 4 ≡ 0 → ⊥) where
        abbrev path : List Move
        path = path_at links bits k

        abbrev found : List Point
        found = path_points links path

        abbrev after : List ℕ
        after = taken_all bits path

        begin : begins links bits ≡ some (move k (has true (get_or bits k 0)))
        begin = begins-at bits links k (omega (arith, within, r.0.as_many)) w.passed line

        next : bits_paths links bits ≡ found ∷ bits_paths links after
        next =
            ap (map (path_points links)) (
            walk_on links bits
            ∙ ap (λ (o : Option Move). and_then o (λ m. path_from links bits m ∷ paths_from (bits_remaining (taken_all bits (path_from links bits m))) links (taken_all bits (path_from links bits m)))) begin
            )

        all_is : all_paths ≡ w.done ++ (found ∷ bits_paths links after)
        all_is = sym w.all ∙ ap (w.done ++◌) next

        points_fit : at + length found ≤ length (flatten all_paths)
        unfolding flatten
        points_fit = omega (
          arith,
          w.at_is,
          ap (λ (l : List (List Point)). length (flatten l)) all_is,
          ap length (flatten-++ w.done (found ∷ bits_paths links after)),
          length-append (flatten w.done) (found ++ flatten (bits_paths links after)),
          length-append found (flatten (bits_paths links after)),
        )

        paths_fit : paths < length all_paths
        paths_fit = omega (arith, w.paths_are, ap length all_is, length-append w.done (found ∷ bits_paths links after))

        -- there is room for one more
        pub at_few : at + length found ≤ 4096
        at_few = omega (arith, points_fit, all_fit, r.0.as_many, r.0.good.faultless.few)

        pub paths_few : paths < 2048
        paths_few = omega (arith, paths_fit, all_fit, r.0.as_many, r.0.good.faultless.few)

        pub points_for : 2 * (at + length found) ≤ length points
        points_for = omega (arith, points_fit, all_fit, r.2, w.points_room)

        pub lengths_for : paths < length lengths
        lengths_for = omega (arith, paths_fit, all_fit, r.3, w.lengths_room)

        -- its points come after the others
        abbrev past : List ℤ
        past = take (length points - 2 * at) (drop (2 * at) points)

        pub begins_a_path : ClipLists links g bits × (k < length bits) × (get_or bits k 0 % 4 ≡ 0 → ⊥) × (2 * length bits ≤ length moves) × (2 * length found ≤ length past)
        begins_a_path = (
          record { good = r.0.good; nodes_are = r.0.nodes_are; as_many = w.as_many ∙ r.0.as_many },
          omega (arith, within, w.as_many),
          line,
          omega (arith, w.as_many, r.1, w.moves_room),
          omega (arith, points_for, length-take (length points - 2 * at) (drop (2 * at) points), length-drop (2 * at) points),
        )

        -- it is written, and its length
        module _ {n : ℕ} {part : List ℤ} {rest : List ℕ} (h : (n ≡ length found) × (part ≡ written (coordinates found) past) × (rest ≡ after)) where
          pub enough : at + n ≤ 4096
          enough = omega (arith, at_few, h.0)

          pub fewer : bits_remaining rest < bits_remaining bits
          fewer = omega (arith, ap bits_remaining h.2, path_fewer links bits (move k (has true (get_or bits k 0))) begin)

          keeps : (P : List ℕ → Type 0) → ((b : List ℕ) (m : Move) → remains b m ≡ true → P b → P (taken b m)) → P bits → P rest
          keeps P kept t = subst P (sym h.2) (path_keeps links P kept bits (move k (has true (get_or bits k 0))) (first-remains bits k line) t)

          pub more : {more_moves : List ℕ} → length more_moves ≡ length moves → length part ≡ length past
              → Walked rest more_moves (take (2 * at) points ++ (part ++ drop (length points - 2 * at) (drop (2 * at) points))) (set lengths paths n) (paths + 1) (at + n) k
          more m p = record {
            done = w.done ++ (found ∷ []);
            paths_are = omega (arith, w.paths_are, length-append w.done (found ∷ []));
            at_is = omega (arith, w.at_is, h.0, ap length (flatten_one w.done found), length-append (flatten w.done) found);
            writes =
                subst (λ x. Writes (w.done ++ (found ∷ [])) points₀ lengths₀ (take (2 * at) points ++ (part ++ drop (length points - 2 * at) (drop (2 * at) points))) (set lengths paths x)) (sym h.0)
                (writes_one w.writes found part w.at_is w.paths_are (omega (arith, lengths_for, w.lengths_room)) h.1);
            all = ap (λ (b : List ℕ). (w.done ++ (found ∷ [])) ++ bits_paths links b) h.2 ∙ append_snoc w.done found (bits_paths links after) ∙ sym all_is;
            passed = λ j t. keeps (λ (b : List ℕ). get_or b j 0 % 4 ≡ 0) (λ b m e. taken-other b m j e) (w.passed j t);
            as_many = keeps (λ (b : List ℕ). length b ≡ length bits₀) (λ b m e t. length_taken b m ∙ t) w.as_many;
            moves_room = m ∙ w.moves_room;
            points_room = omega (arith, length-append {A = ℤ}, length-take {A = ℤ}, length-drop {A = ℤ}, p, w.points_room, points_for);
            lengths_room = length-set lengths paths n ∙ w.lengths_room;
          }

      -- past the last link every path is written
      module _ (h : length bits₀ ≤ k) where
        whole : w.done ≡ all_paths
        whole =
            let none_more : bits_paths links bits ≡ [] =
            ap (map (path_points links)) (
            walk_on links bits
            ∙ ap (λ (o : Option Move). and_then o (λ m. path_from links bits m ∷ paths_from (bits_remaining (taken_all bits (path_from links bits m))) links (taken_all bits (path_from links bits m)))) (begins-nowhere bits links (λ j l. w.passed j (omega (arith, r.0.as_many))))
            ) in
            sym (append-nil w.done) ∙ ap (w.done ++◌) (sym none_more) ∙ w.all

        paths-all : paths ≡ length all_paths
        paths-all = w.paths_are ∙ ap length whole

        points-all : at ≡ length (flatten all_paths)
        points-all = w.at_is ∙ ap (λ (d : List (List Point)). length (flatten d)) whole

        pub no_more : paths ≤ at
        no_more = omega (arith, paths-all, points-all, all_found.points)

        -- one point more than steps in each path, and the travel by the line bits before the walk
        pub totals_are : {t : ℕ} → t ≡ travel_over links bits₀ → record { paths = paths; points = at; steps = at - paths; travel = t } ≡ totals all_paths
        unfolding totals
        totals_are {t} e =
            let steps-are : at - paths ≡ length (steps_of all_paths) = omega (arith, paths-all, points-all, all_found.points) in
            λ i. record { paths = paths-all i; points = points-all i; steps = steps-are i; travel = (e ∙ sym all_found.travel) i }

        pub all_written : Writes all_paths points₀ lengths₀ points lengths
        all_written = subst (λ (d : List (List Point)). Writes d points₀ lengths₀ points lengths) whole w.writes
