-- The loop of all walks: walks written, walks to come, and the links passed, which have no bit.
use mathlib.Core.Path.{◌≡◌, refl, sym, ◌∙◌, ap, ap₂, subst}
use mathlib.Core.List.{List, [], ◌∷◌, ◌++◌, map-append, flatten, append-nil}
use mathlib.Core.Option.{Option, none, some}
use mathlib.Core.Bool.{true}
use Prim.Native.Nat.{ℕ, ◌+◌, ◌*◌, ◌-◌, ◌%◌, ◌<◌, ◌≤◌}
use native.Mathlib.Omega.{arith}
use borrow.Author.Count.{below_more}
use lib.ListN.{length, get_or, take, drop, set, length-set, length-take, length-drop, length-append, length-map}
use lib.IntN.{ℤ}
use Rattle.std.specs.Prelude.{Some, None}
use Rattle.geom.specs.declared.Point.{Point}
use Rattle.lists.specs.Written.{written}
use Rattle.lists.specs.Sums.{one}
use Rattle.segm.specs.Segments.{Drawing}
use Rattle.lists.proofs.Written.{written_more}
use Rattle.lists.proofs.Entries.{flatten_one}
use Rattle.contour.specs.Points.{coordinates, Writes}
use Rattle.contour.proofs.Points.Written.{writes_one}
use Rattle.moves.specs.Bits.{has}
use Rattle.moves.specs.Moves.{Move, move, remains, taken, taken_all, bits_remaining}
use Rattle.moves.specs.ByEnd.{Graph, NextEnd}
use Rattle.moves.proofs.Bits.{bit_one}
use Rattle.moves.proofs.Moves.{takes_one, taken-other, length_taken, takes_keep, takes_spent, bits_few}
use Rattle.moves.proofs.Begins.{first-remains, begins-at, begins-nowhere}
use Rattle.slice_walk.specs.Walk.{onto, bind, walk_from, begun, walks, direction_of, walk_points}
use Rattle.slice_walk.specs.Writing.{SliceLists, walk_at, WalkIs, all_points, directions, WalksAre}
use Rattle.slice_walk.proofs.Ends.{IfSome}
use Rattle.slice_walk.proofs.Walk.Till.{after, after_nothing, after_more, Begun, walk-begun}
use Rattle.slice_walk.proofs.Walk.AllWalks.{length_points, length_all, walks_on}

-- ---- what a call of `walk` answers
module _ (links : Drawing) (bits₀ : List ℕ) (points₀ : List ℤ) (bits : List ℕ) (points : List ℤ) where
  -- a walk of n moves was found and written
  pub record WalkFound (o : Option (List Move)) (n : ℕ) : Type 0 where
    pub walk : List Move
    pub is : o ≡ some walk
    pub number : n ≡ length walk
    pub points_are : points ≡ written (coordinates (walk_points links walk)) points₀
    pub bits_are : bits ≡ taken_all bits₀ walk

  pub found : (o : Option (List Move)) (n : ℕ) → WalkIs links o bits₀ points₀ (Some n) bits points → WalkFound o n
  found none n w = let z : ◌≡◌ {A = ℕ} 0 1 = cc in absurd (omega arith)
  found (some walk) n w = record { walk = walk; is = refl; number = cc; points_are = w.1; bits_are = w.2 }

  pub not_found : (o : Option (List Move)) → WalkIs links o bits₀ points₀ None bits points → o ≡ none
  not_found none w = refl
  not_found (some walk) w = let z : ◌≡◌ {A = ℕ} 0 1 = cc in absurd (omega arith)

module _ (links : Drawing) (bits₀ : List ℕ) (points₀ : List ℤ) (lengths₀ dirs₀ : List ℕ) where
  pub record Written (bits : List ℕ) (points : List ℤ) (lengths dirs : List ℕ) (n at k : ℕ) : Type 0 where
    pub done : List (List Move)
    pub number : n ≡ length done
    pub at_is : at ≡ length (flatten done)
    pub writes : Writes (all_points links done) points₀ lengths₀ points lengths
    pub dirs_are : dirs ≡ written (directions done) dirs₀
    pub all : after done (walks links bits) ≡ walks links bits₀
    pub passed : (j : ℕ) → j < k → get_or bits j 0 % 4 ≡ 0
    pub as_many : length bits ≡ length bits₀
    pub spent : at + bits_remaining bits ≡ bits_remaining bits₀
    pub no_more : n ≤ at
    pub points_room : length points ≡ length points₀
    pub lengths_room : length lengths ≡ length lengths₀
    pub dirs-room : length dirs ≡ length dirs₀

  pub none_yet : Written bits₀ points₀ lengths₀ dirs₀ 0 0 0
  unfolding written coordinates flatten
  none_yet = record {
    done = [];
    number = refl;
    at_is = refl;
    writes = record { points_are = refl; lengths_are = refl };
    dirs_are = refl;
    all = after_nothing (walks links bits₀);
    passed = λ j h. absurd (omega arith);
    as_many = refl;
    spent = omega arith;
    no_more = omega arith;
    points_room = refl;
    lengths_room = refl;
    dirs-room = refl;
  }

  -- what a call needs
  module _ {g : Graph} (r : SliceLists links g bits₀ × (4 * length bits₀ ≤ length points₀) × (2 * length bits₀ ≤ length lengths₀) × (2 * length bits₀ ≤ length dirs₀))
      {bits : List ℕ} {points : List ℤ} {lengths dirs : List ℕ} {n at k : ℕ} (w : Written bits points lengths dirs n at k)
    where
      -- a link without bits
      pub pass : get_or bits k 0 % 4 ≡ 0 → Written bits points lengths dirs n at (k + 1)
      pass h = record {
        done = w.done;
        number = w.number;
        at_is = w.at_is;
        writes = w.writes;
        dirs_are = w.dirs_are;
        all = w.all;
        passed = below_more (λ j. get_or bits j 0 % 4 ≡ 0) k w.passed h;
        as_many = w.as_many;
        spent = w.spent;
        no_more = w.no_more;
        points_room = w.points_room;
        lengths_room = w.lengths_room;
        dirs-room = w.dirs-room;
      }

      -- past the last link every walk is written
      pub whole : length bits₀ ≤ k → WalksAre links (walks links bits₀) points₀ lengths₀ dirs₀ (Some n) points lengths dirs
      whole h =
          let rest : walks links bits ≡ some [] =
          walks_on links bits
          ∙ ap (λ (o : Option Move). begun o (λ m. bind (walk_from links bits m) (λ walk. onto walk (walks links (taken_all bits walk))))) (begins-nowhere bits links (λ j l. w.passed j (omega (arith, r.0.as_many)))) in
          let is : walks links bits₀ ≡ some w.done = sym w.all ∙ ap (after w.done) rest ∙ ap some (append-nil w.done) in
          subst (λ (o : Option (List (List Move))). WalksAre links o points₀ lengths₀ dirs₀ (Some n) points lengths dirs) (sym is) (ap Some w.number, w.writes, w.dirs_are)

      few : bits_remaining bits₀ ≤ 2048
      few = omega (arith, bits_few bits₀, r.0.as_many, r.0.faultless.few)

      pub at_few : at ≤ 2048
      at_few = omega (arith, w.spent, few)

      pub points_for : 2 * (at + bits_remaining bits) ≤ length points
      points_for = omega (arith, w.spent, bits_few bits₀, r.1, w.points_room)

      -- a link with one begins a walk
      module _ (within : k < length bits₀) (line : get_or bits k 0 % 4 ≡ 0 → ⊥) where
        inside : k < length links
        inside = omega (arith, within, r.0.as_many)

        abbrev first : Move
        first = move k (has true (get_or bits k 0))

        can_begin : remains bits first ≡ true
        can_begin = first-remains bits k line

        next : walks links bits ≡ bind (walk_at links bits k) (λ walk. onto walk (walks links (taken_all bits walk)))
        next = walks_on links bits ∙ ap (λ (o : Option Move). begun o (λ m. bind (walk_from links bits m) (λ walk. onto walk (walks links (taken_all bits walk))))) (begins-at bits links k inside w.passed line)

        -- there is room for one more
        more_left : n < bits_remaining bits₀
        more_left = omega (arith, takes_one bits first can_begin, w.spent, w.no_more)

        pub lengths_for : n < length lengths
        lengths_for = omega (arith, more_left, bits_few bits₀, r.2, w.lengths_room)

        pub dirs-for : n < length dirs
        dirs-for = omega (arith, more_left, bits_few bits₀, r.3, w.dirs-room)

        pub number_few : n < 2048
        number_few = omega (arith, more_left, few)

        -- its points are written past the others
        abbrev past : List ℤ
        past = take (length points - 2 * at) (drop (2 * at) points)

        pub begins_a_walk : SliceLists links g bits × (k < length bits) × (get_or bits k 0 % 4 ≡ 0 → ⊥) × (2 * bits_remaining bits ≤ length past)
        begins_a_walk = (
          record { faultless = r.0.faultless; nodes_are = r.0.nodes_are; as_many = w.as_many ∙ r.0.as_many },
          omega (arith, within, w.as_many),
          line,
          omega (arith, points_for, length-take (length points - 2 * at) (drop (2 * at) points), length-drop (2 * at) points),
        )

        module _ (rest : List ℕ) (part : List ℤ) where
          -- it finds no move
          pub stuck : WalkIs links (walk_at links bits k) bits past None rest part → (points₁ : List ℤ) (lengths₁ dirs₁ : List ℕ) (answer : NextEnd) → answer ≡ None
              → WalksAre links (walks links bits₀) points₀ lengths₀ dirs₀ answer points₁ lengths₁ dirs₁
          stuck h points₁ lengths₁ dirs₁ answer a =
              let e = not_found links bits past rest part (walk_at links bits k) h in
              let is : walks links bits₀ ≡ none = sym w.all ∙ ap (after w.done) (next ∙ ap (λ (o : Option (List Move)). bind o (λ walk. onto walk (walks links (taken_all bits walk)))) e) in
              subst (λ (o : Option (List (List Move))). WalksAre links o points₀ lengths₀ dirs₀ answer points₁ lengths₁ dirs₁) (sym is) a

          -- it is found
          module _ (v : ℕ) (h : WalkIs links (walk_at links bits k) bits past (Some v) rest part) where
            f : WalkFound links bits past rest part (walk_at links bits k) v
            f = found links bits past rest part (walk_at links bits k) v h

            begun_is : Begun bits first f.walk
            begun_is = subst (IfSome (Begun bits first)) f.is (walk-begun links bits first can_begin)

            spends : v + bits_remaining rest ≡ bits_remaining bits
            spends = omega (arith, takes_spent bits f.walk begun_is.takes, f.number, ap bits_remaining f.bits_are)

            pub fewer : bits_remaining rest < bits_remaining bits
            fewer = omega (arith, spends, begun_is.not_empty, f.number)

            pub enough : at + v ≤ 2048
            enough = omega (arith, spends, w.spent, few)

            -- what each of its moves keeps true of the bits
            keeps : (P : List ℕ → Type 0) → ((b : List ℕ) (m : Move) → remains b m ≡ true → P b → P (taken b m)) → P bits → P rest
            keeps P kept h = subst P (sym f.bits_are) (takes_keep P kept bits f.walk begun_is.takes h)

            pub more : length part ≡ length past
                → Written rest (take (2 * at) points ++ (part ++ drop (length points - 2 * at) (drop (2 * at) points))) (set lengths n v) (set dirs n (get_or bits k 0 % 2)) (n + 1) (at + v) k
            unfolding flatten
            more p =
                let walk = f.walk in
                let last = walk_points links walk in
                let moves_of : flatten (w.done ++ (walk ∷ [])) ≡ flatten w.done ++ walk = flatten_one w.done walk in
                record {
                  done = w.done ++ (walk ∷ []);
                  number = omega (arith, w.number, length-append w.done (walk ∷ []));
                  at_is = omega (arith, w.at_is, f.number, ap length moves_of, length-append (flatten w.done) walk);
                  writes =
                      subst (λ (l : List (List Point)). Writes l points₀ lengths₀ (take (2 * at) points ++ (part ++ drop (length points - 2 * at) (drop (2 * at) points))) (set lengths n v))
                      (sym (map-append (walk_points links) w.done (walk ∷ [])))
                      (subst (λ x. Writes (all_points links w.done ++ (last ∷ [])) points₀ lengths₀ (take (2 * at) points ++ (part ++ drop (length points - 2 * at) (drop (2 * at) points))) (set lengths n x))
                      (length_points links walk ∙ sym f.number)
                      (writes_one w.writes last part (w.at_is ∙ sym (length_all links w.done)) (w.number ∙ sym (length-map w.done (walk_points links))) (omega (arith, lengths_for, w.lengths_room)) f.points_are));
                  dirs_are =
                      ap₂ (λ (r : List ℕ) x. set r n x) w.dirs_are (sym (bit_one (get_or bits k 0)) ∙ ap one (sym begun_is.direction))
                      ∙ written_more (directions w.done) dirs₀ n (one (direction_of walk)) (w.number ∙ sym (length-map w.done (λ x. one (direction_of x)))) (omega (arith, dirs-for, w.dirs-room))
                      ∙ ap (λ (r : List ℕ). written r dirs₀) (sym (map-append (λ x. one (direction_of x)) w.done (walk ∷ [])));
                  all =
                      ap (λ (b : List ℕ). after (w.done ++ (walk ∷ [])) (walks links b)) f.bits_are
                      ∙ after_more w.done walk (walks links (taken_all bits walk))
                      ∙ sym (ap (after w.done) (next ∙ ap (λ (o : Option (List Move)). bind o (λ x. onto x (walks links (taken_all bits x)))) f.is)) ∙ w.all;
                  passed = λ j h. keeps (λ (b : List ℕ). get_or b j 0 % 4 ≡ 0) (λ b m t. taken-other b m j t) (w.passed j h);
                  as_many = keeps (λ (b : List ℕ). length b ≡ length bits₀) (λ b m t q. length_taken b m ∙ q) w.as_many;
                  spent = omega (arith, spends, w.spent);
                  no_more = omega (arith, w.no_more, begun_is.not_empty, f.number);
                  points_room = omega (arith, length-append {A = ℤ}, length-take {A = ℤ}, length-drop {A = ℤ}, p, w.points_room, points_for);
                  lengths_room = length-set lengths n v ∙ w.lengths_room;
                  dirs-room = length-set dirs n (get_or bits k 0 % 2) ∙ w.dirs-room;
                }
