-- The loop of one walk: the moves made, whose points are written, and those to come.
use mathlib.Core.Path.{◌≡◌, refl, sym, ◌∙◌, ap, ap₂, subst}
use mathlib.Core.List.{List, [], ◌∷◌, ◌++◌, map, map-append}
use mathlib.Core.Option.{Option, none, some}
use mathlib.Core.Bool.{Bool, true, false}
use Prim.Native.Nat.{ℕ, suc, ◌+◌, ◌*◌, ◌%◌, ◌<◌, ◌≤◌}
use native.Mathlib.Omega.{arith}
use lib.ListN.{length, get_or, set, length-set, length-append, length-map}
use lib.Seq.{take_at, take_all, get_or_at}
use lib.IntN.{ℤ}
use Rattle.std.specs.Prelude.{Some, None}
use Rattle.geom.specs.declared.Point.{Point}
use Rattle.geom.specs.Points.{eq_p}
use Rattle.lists.specs.Written.{written}
use Rattle.segm.specs.Segments.{Drawing}
use Rattle.contour.specs.Points.{coordinates, origin}
use Rattle.contour.proofs.Points.Coordinates.{written_point}
use Rattle.ends.specs.Ends.{end_point}
use Rattle.graph.specs.Nodes.{link_of, other_end}
use Rattle.graph.proofs.Node.{link_other, other_end_below}
use Rattle.moves.specs.Bits.{has}
use Rattle.moves.specs.Moves.{Move, move, remains, taken, taken_all, bits_remaining, over}
use Rattle.moves.specs.ByEnd.{Graph, NextEnd, move_of}
use Rattle.moves.proofs.Moves.{takes_one, length_taken, bits_few}
use Rattle.moves.proofs.Begins.{first-remains}
use Rattle.moves.proofs.ByEnd.{first-move, move_start, move_end}
use Rattle.slice_walk.specs.Walk.{find_nearest, onto, bind, till, walk_from, direction_of, walk_points}
use Rattle.slice_walk.specs.Writing.{SliceLists, NextIs, walk_at, WalkIs}
use Rattle.slice_walk.proofs.Ends.{IfSome}
use Rattle.slice_walk.proofs.Walk.Till.{after, after_nothing, after_more, till_home, till_on, Begun, walk-begun}

-- one point more
points_more : (ps : List Point) (p : Point) (old : List ℤ) (n : ℕ) → n ≡ length ps → 2 * suc n ≤ length old
    → set (set (written (coordinates ps) old) (2 * n) p.x) (2 * n + 1) p.y ≡ written (coordinates (ps ++ (p ∷ []))) old
points_more ps p old n e h =
    let all = ps ++ (p ∷ []) in
    let l : length all ≡ suc n = omega (arith, length-append ps (p ∷ [])) in
    sym (
    ap₂ (λ (q : List Point) (r : Point). set (set (written (coordinates q) old) (2 * n) r.x) (2 * n + 1) r.y) (take_at ps (p ∷ []) n (sym e)) (get_or_at ps p [] origin n (sym e))
    )
    ∙ written_point all old n (omega arith) h ∙ ap (λ (q : List Point). written (coordinates q) old) (take_all (n + 1) all (omega arith))

taken_more : (bits : List ℕ) (l : List Move) (m : Move) → taken_all bits (l ++ (m ∷ [])) ≡ taken (taken_all bits l) m
unfolding taken_all
taken_more bits [] m = refl
taken_more bits (x ∷ l) m = taken_more (taken bits x) l m

module _ (links : Drawing) (direction : Bool) where
  abbrev m : ℕ
  m = length links

  abbrev move_at : ℕ → Move
  move_at e = move_of m direction e

  -- the point that a move leaves
  abbrev leaves : Move → Point
  leaves x = (over links direction x).start

  -- the moves on, having left end e, its bit taken
  abbrev far_from : Point → List ℕ → ℕ → Option (List Move)
  far_from home bits e = till (bits_remaining bits) links direction home (link_of m e) (end_point links (other_end m e)) bits

  -- what a walk does that leaves end e
  abbrev on_from : Point → List ℕ → ℕ → Option (List Move)
  on_from home bits e = onto (move_at e) (far_from home (taken bits (move_at e)) e)

  -- what follows a move, by what is answered at its far end
  abbrev next_from : Point → List ℕ → NextEnd → Option (List Move)
  next_from home bits None = none
  next_from home bits (Some e) = on_from home bits e

  far_next : (home : Point) (bits : List ℕ) (e : ℕ) (next : NextEnd) → e < 2 * m → eq_p (end_point links (other_end m e)) home ≡ false → NextIs links direction bits (other_end m e) next
      → far_from home bits e ≡ next_from home bits next
  unfolding move_of
  far_next home bits e next b n h =
      till_on links direction home (link_of m e) (end_point links (other_end m e)) bits n
      ∙ ap (λ k. bind (find_nearest links direction k (end_point links (other_end m e)) bits) onward) (sym (link_other m e b))
      ∙ go next h
    where
      onward : Move → Option (List Move)
      onward x = onto x (till (bits_remaining (taken bits x)) links direction home x.place (over links direction x).end (taken bits x))

      go : (next : NextEnd) → NextIs links direction bits (other_end m e) next
          → bind (find_nearest links direction (link_of m (other_end m e)) (end_point links (other_end m e)) bits) onward ≡ next_from home bits next
      go None h = ap (λ (o : Option Move). bind o onward) h
      go (Some g) h =
          ap (λ (o : Option Move). bind o onward) h.0
          ∙ ap (λ (p : Point). onto (move_at g) (till (bits_remaining (taken bits (move_at g))) links direction home (link_of m g) p (taken bits (move_at g)))) (move_end links direction g h.1)

  -- ---- the loop of a walk that begins with link k
  module _ (k : ℕ) (bits₀ : List ℕ) (points₀ : List ℤ) where
    pub record Following (bits : List ℕ) (points : List ℤ) (n e : ℕ) : Type 0 where
      pub done : List Move
      pub number : n ≡ length done
      pub points_are : points ≡ written (coordinates (map leaves done)) points₀
      pub room : length points ≡ length points₀
      pub as_many : length bits ≡ m
      pub bits_are : bits ≡ taken_all bits₀ done
      pub spent : n + bits_remaining bits ≡ bits_remaining bits₀
      pub all : after done (on_from (end_point links k) bits e) ≡ walk_at links bits₀ k
      -- the end that is left next
      pub below : e < 2 * m
      pub ready : remains bits (move_at e) ≡ true

    -- a walk can begin with the link
    pub record Opens : Type 0 where
      pub few : m ≤ 1024
      pub inside : k < m
      pub as_many : length bits₀ ≡ m
      pub has_bits : get_or bits₀ k 0 % 4 ≡ 0 → ⊥
      pub way : direction ≡ has true (get_or bits₀ k 0)
      pub room : 2 * bits_remaining bits₀ ≤ length points₀

    pub opens : {g : Graph} → SliceLists links g bits₀ × (k < length bits₀) × (get_or bits₀ k 0 % 4 ≡ 0 → ⊥) × (2 * bits_remaining bits₀ ≤ length points₀)
        → direction ≡ has true (get_or bits₀ k 0) → Opens
    opens r w = record { few = r.0.faultless.few; inside = omega (arith, r.1, r.0.as_many); as_many = r.0.as_many; has_bits = r.2; way = w; room = r.3 }

    module _ (o : Opens) where
      first : move_at k ≡ move k (has true (get_or bits₀ k 0))
      first = first-move m direction k o.inside ∙ ap (move k) o.way

      pub begin : Following bits₀ points₀ 0 k
      unfolding taken_all written coordinates walk_from move_of
      begin = record {
        done = [];
        number = refl;
        points_are = refl;
        room = refl;
        as_many = o.as_many;
        bits_are = refl;
        spent = omega arith;
        all = after_nothing (on_from (end_point links k) bits₀ k) ∙ walk_is;
        below = omega (arith, o.inside);
        ready = ap (remains bits₀) first ∙ first-remains bits₀ k o.has_bits;
      }
        where
          walk_is : on_from (end_point links k) bits₀ k ≡ walk_at links bits₀ k
          walk_is =
              let b = taken bits₀ (move_at k) in
              ap₂ (λ (p q : Point). onto (move_at k) (till (bits_remaining b) links direction p (link_of m k) q b)) (sym (move_start links direction k)) (sym (move_end links direction k (omega (arith, o.inside))))
              ∙ ap (λ w. onto (move_at k) (till (bits_remaining b) links w (over links w (move_at k)).start (link_of m k) (over links w (move_at k)).end b)) (sym (ap (λ (x : Move). x.forth) (first-move m direction k o.inside)))
              ∙ ap (walk_from links bits₀) first

      -- a walk's first move takes the bit that it begins with
      whole-way : (walk : List Move) → walk_at links bits₀ k ≡ some walk → direction_of walk ≡ direction
      whole-way walk e =
          let mv = move k (has true (get_or bits₀ k 0)) in
          let b = subst (IfSome (Begun bits₀ mv)) e (walk-begun links bits₀ mv (first-remains bits₀ k o.has_bits)) in
          b.direction ∙ sym o.way

      -- one turn, which leaves end e
      module _ {bits : List ℕ} {points : List ℤ} {n e : ℕ} (w : Following bits points n e) where
        abbrev done₁ : List Move
        done₁ = w.done ++ (move_at e ∷ [])

        few : n < bits_remaining bits₀
        few = omega (arith, w.spent, takes_one bits (move_at e) w.ready)

        pub room_for : 2 * suc n ≤ length points
        room_for = omega (arith, few, w.room, o.room)

        pub number_few : n < 2048
        number_few = omega (arith, few, bits_few bits₀, o.as_many, o.few)

        pub can_take : remains bits (move_of (length bits) direction e) ≡ true
        can_take = ap (λ m. remains bits (move_of m direction e)) w.as_many ∙ w.ready

        -- its bit taken, its point written, and at its link's other end
        module _ {bits₁ : List ℕ} {p : Point} {points₁ : List ℤ} {f : ℕ} (b : bits₁ ≡ taken bits (move_of (length bits) direction e)) (q : p ≡ end_point links e)
            (r : points₁ ≡ set (set points (2 * n) p.x) (2 * n + 1) p.y) (g : f ≡ other_end (length bits₀) e)
          where
            bits₁_is : bits₁ ≡ taken bits (move_at e)
            bits₁_is = b ∙ ap (λ m. taken bits (move_of m direction e)) w.as_many

            f-is : f ≡ other_end m e
            f-is = g ∙ ap (λ m. other_end m e) o.as_many

            pub as_many₁ : length bits₁ ≡ m
            as_many₁ = ap length bits₁_is ∙ length_taken bits (move_at e) ∙ w.as_many

            pub below₁ : f < 2 * length bits₁
            below₁ = omega (arith, f-is, as_many₁, other_end_below m e w.below)

            pub fewer : bits_remaining bits₁ < bits_remaining bits
            fewer = omega (arith, ap bits_remaining bits₁_is, takes_one bits (move_at e) w.ready)

            number₁ : n + 1 ≡ length done₁
            number₁ = omega (arith, w.number, length-append w.done (move_at e ∷ []))

            bits_are₁ : bits₁ ≡ taken_all bits₀ done₁
            bits_are₁ = bits₁_is ∙ ap (λ (b : List ℕ). taken b (move_at e)) w.bits_are ∙ sym (taken_more bits₀ w.done (move_at e))

            points_are₁ : points₁ ≡ written (coordinates (map leaves done₁)) points₀
            points_are₁ =
                r ∙ ap₂ (λ (l : List ℤ) (p : Point). set (set l (2 * n) p.x) (2 * n + 1) p.y) w.points_are (q ∙ sym (move_start links direction e))
                ∙ points_more (map leaves w.done) (leaves (move_at e)) points₀ n (w.number ∙ sym (length-map w.done leaves)) (omega (arith, few, o.room))
                ∙ ap (λ (l : List Point). written (coordinates l) points₀) (sym (map-append leaves w.done (move_at e ∷ [])))

            -- home
            pub closed : eq_p (end_point links f) (end_point links k) ≡ true → WalkIs links (walk_at links bits₀ k) bits₀ points₀ (Some (n + 1)) bits₁ points₁
            unfolding walk_points
            closed h =
                let there : eq_p (end_point links (other_end m e)) (end_point links k) ≡ true = ap (λ f. eq_p (end_point links f) (end_point links k)) (sym f-is) ∙ h in
                let is : walk_at links bits₀ k ≡ some done₁ =
                sym w.all ∙ ap (λ (r : Option (List Move)). after w.done (onto (move_at e) r)) (till_home links direction (end_point links k) (link_of m e) (end_point links (other_end m e)) (taken bits (move_at e)) there) in
                subst (λ (r : Option (List Move)). WalkIs links r bits₀ points₀ (Some (n + 1)) bits₁ points₁) (sym is) (
                  ap Some number₁,
                  points_are₁ ∙ ap (λ b. written (coordinates (map (λ x. (over links b x).start) done₁)) points₀) (sym (whole-way done₁ is)),
                  bits_are₁,
                )

            -- not home, where this is answered
            module _ (h : eq_p (end_point links f) (end_point links k) ≡ false) (next : NextEnd) (is : NextIs links direction bits₁ f next) where
              rest : after done₁ (next_from (end_point links k) bits₁ next) ≡ walk_at links bits₀ k
              rest =
                  let there : eq_p (end_point links (other_end m e)) (end_point links k) ≡ false = ap (λ f. eq_p (end_point links f) (end_point links k)) (sym f-is) ∙ h in
                  let at : NextIs links direction (taken bits (move_at e)) (other_end m e) next = subst (λ f. NextIs links direction (taken bits (move_at e)) f next) f-is (subst (λ (b : List ℕ). NextIs links direction b f next) bits₁_is is) in
                  ap (λ (b : List ℕ). after done₁ (next_from (end_point links k) b next)) bits₁_is
                  ∙ after_more w.done (move_at e) (next_from (end_point links k) (taken bits (move_at e)) next)
                  ∙ sym (ap (λ (r : Option (List Move)). after w.done (onto (move_at e) r)) (far_next (end_point links k) (taken bits (move_at e)) e next w.below there at)) ∙ w.all

              -- where there is no move, there is no walk
              pub stuck : next ≡ None → (r : NextEnd) → r ≡ None → WalkIs links (walk_at links bits₀ k) bits₀ points₀ r bits₁ points₁
              stuck t r u = subst (λ (o : Option (List Move)). WalkIs links o bits₀ points₀ r bits₁ points₁) (sym (ap (λ n. after done₁ (next_from (end_point links k) bits₁ n)) t) ∙ rest) u

              pub onward : {g : ℕ} → next ≡ Some g → Following bits₁ points₁ (n + 1) g
              onward {g} t =
                  let at : NextIs links direction bits₁ f (Some g) = subst (NextIs links direction bits₁ f) t is in
                  record {
                    done = done₁;
                    number = number₁;
                    points_are = points_are₁;
                    room = omega (arith, ap length r, length-set (set points (2 * n) p.x) (2 * n + 1) p.y, length-set points (2 * n) p.x, w.room);
                    as_many = as_many₁;
                    bits_are = bits_are₁;
                    spent = omega (arith, w.spent, ap bits_remaining bits₁_is, takes_one bits (move_at e) w.ready);
                    all = sym (ap (λ n. after done₁ (next_from (end_point links k) bits₁ n)) t) ∙ rest;
                    below = at.1;
                    ready = at.2;
                  }
