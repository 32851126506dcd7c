-- The choice of the next move over flat lists is the walk's: over the nodes of the links, the same move. And a move that is found can be made.
use mathlib.Core.Path.{◌≡◌, refl, sym, ◌∙◌, ap, ap₂, subst}
use mathlib.Core.List.{List, [], ◌∷◌, map}
use mathlib.Core.Logic.{◌⊎◌, inl, inr}
use mathlib.Core.Option.{Option, none, some}
use mathlib.Core.Bool.{Bool, true, false, not, ◌&&◌, cond}
use Prim.Native.Nat.{ℕ, ◌+◌, ◌-◌, ◌*◌, ◌<◌, ◌≤◌}
use native.Mathlib.Omega.{arith}
use native.Mathlib.Decide.{dec_le}
use borrow.Author.Tests.{eqb-true, eq-eqb}
use lib.Dec.{eqb}
use lib.ListN.{length, get_or, drop}
use lib.IntN.{ℤ, pos, neg_ℤ}
use lib.Signed.{lt_z, le_z}
use Rattle.std.specs.Prelude.{Some, None, MatchOption}
use Rattle.std.proofs.lemmas.List.{at_drop_more, drop_all}
use Rattle.std.proofs.lemmas.Bool.{ne_eqb}
use Rattle.integers.proofs.Booleans.{clash, both_r, not_r, same_test}
use Rattle.integers.proofs.Linear.{ints, of_neg, of_pos}
use Rattle.integers.proofs.Order.{le_le_z, lt_lt_z}
use Rattle.geom.specs.declared.Point.{Point}
use Rattle.geom.specs.Points.{lt_p, eq_p, in_range}
use Rattle.geom.proofs.Points.{eq_eq_p, ne_eq_p, lt_p_irrefl}
use Rattle.lists.specs.Members.{◌∈◌, keep}
use Rattle.segm.specs.Segments.{Drawing, segment_at}
use Rattle.segm.proofs.Segments.{length-segments}
use Rattle.lists.proofs.Members.{keep_in}
use Rattle.ends.specs.Ends.{end_point}
use Rattle.ends.proofs.Ends.{end_a, end_b, end_near}
use Rattle.graph.specs.Nodes.{node, link_of, other_end, part, Nodes}
use Rattle.graph.proofs.Node.{link_low, link_high, other_low, other_high, other_end_below}
use Rattle.moves.specs.Steps.{other}
use Rattle.moves.specs.Moves.{Move, remains}
use Rattle.moves.specs.ByEnd.{NextEnd, move_of}
use Rattle.moves.proofs.Steps.{at_place}
use Rattle.moves.proofs.ByEnd.{fits}
use Rattle.faults.specs.Faultless.{Faultless}
use Rattle.slice_walk.specs.Walk.{is_nearer, move_from, nearest, if_remains, or_else, find_nearest}
use Rattle.slice_walk.specs.Ends.{far_point, add_end, is_other, nearest_end, Leaving}
use Rattle.slice_walk.specs.Writing.{NextIs}

-- ---- a comparison with 0, turned round
pub le_turned : (z : ℤ) → le_z z (pos 0) ≡ le_z (pos 0) (neg_ℤ z)
le_turned z =
    same_test (le_z z (pos 0)) (le_z (pos 0) (neg_ℤ z))
    (λ t. le_le_z {a = pos 0} {b = neg_ℤ z} (omega (ints, of_neg z, of_pos 0)))
    (λ t. le_le_z {a = z} {b = pos 0} (omega (ints, of_neg z, of_pos 0)))

pub lt_turned : (z : ℤ) → lt_z (pos 0) z ≡ lt_z (neg_ℤ z) (pos 0)
lt_turned z =
    same_test (lt_z (pos 0) z) (lt_z (neg_ℤ z) (pos 0))
    (λ t. lt_lt_z {a = neg_ℤ z} {b = pos 0} (omega (ints, of_neg z, of_pos 0)))
    (λ t. lt_lt_z {a = pos 0} {b = z} (omega (ints, of_neg z, of_pos 0)))

-- ---- what is found
-- what there is, if anything, has P
abbrev pub IfSome : {A : Type 0} → (A → Type 0) → Option A → Type 0
IfSome P none = Unit {0}
IfSome P (some x) = P x

pub nearest_found : (links : Drawing) (direction : Bool) (p back : Point) (P : ℕ → Type 0) (l : List ℕ) (best : Option ℕ) → IfSome P best → ((k : ℕ) → k ∈ l → P k) → IfSome P (nearest links direction p back best l)
unfolding nearest
nearest_found links direction p back P [] best b h = b
nearest_found links direction p back P (k ∷ l) none b h = nearest_found links direction p back P l (some k) (h k (inl refl)) (λ j i. h j (inr i))
nearest_found links direction p back P (k ∷ l) (some j) b h =
    nearest_found links direction p back P l _ (go (is_nearer direction p back (other (segment_at links j) p) (other (segment_at links k) p))) (λ i m. h i (inr m))
  where
    go : (t : Bool) → P (cond t k j)
    go true = h k (inl refl)
    go false = b

-- the side bit of a move remains
module _ (links : Drawing) (direction : Bool) (k : ℕ) (p : Point) (bits : List ℕ) (m : Move) (e : find_nearest links direction k p bits ≡ some m) where
  pub nearest-remains : remains bits m ≡ true
  unfolding find_nearest move_from
  nearest-remains = go (nearest links direction p (other (segment_at links k) p) none others) (nearest_found links direction p _ (λ j. j ∈ others) others none tt (λ j i. i)) e
    where
      from : ℕ → Move
      from = move_from links direction p

      is_taken : ℕ → Bool
      is_taken j = not (eqb j k) && remains bits (from j)

      others : List ℕ
      others = keep is_taken (node links p)

      current : (b : Bool) → remains bits (from k) ≡ b → cond b (some (from k)) none ≡ some m → remains bits m ≡ true
      current true l q = let r : from k ≡ m = cc in subst (λ n. remains bits n ≡ true) r l
      current false l q = let z : ◌≡◌ {A = ℕ} 0 1 = cc in absurd (omega arith)

      go : (o : Option ℕ) → IfSome (λ j. j ∈ others) o → or_else from o (if_remains bits (from k)) ≡ some m → remains bits m ≡ true
      go none i q = current (remains bits (from k)) refl q
      go (some j) i q =
          let r : from j ≡ m = cc in
          let h = keep_in is_taken j (node links p) i in
          subst (λ (n : Move). remains bits n ≡ true) r (both_r (not (eqb j k)) (remains bits (from j)) h.1)

-- ---- ends of faultless links
module _ (links : Drawing) (faultless : Faultless links) where
  abbrev m : ℕ
  m = length links

  apart : (k : ℕ) → k < m → (segment_at links k).a ≡ (segment_at links k).b → ⊥
  apart k h q = clash (at_place links faultless.proper k h) (subst (λ p. lt_p (segment_at links k).a p ≡ false) q (lt_p_irrefl (segment_at links k).a))

  -- a link leads from one of its ends to the other
  other_is : (e : ℕ) → e < 2 * m → other (segment_at links (link_of m e)) (end_point links e) ≡ far_point links e
  unfolding other far_point
  other_is e b = go (dec_le m e)
    where
      go : Dec (m ≤ e) → cond (eq_p (segment_at links (link_of m e)).a (end_point links e)) (segment_at links (link_of m e)).b (segment_at links (link_of m e)).a ≡ end_point links (other_end m e)
      go (yes h) =
          let l : e - m < m = omega arith in
          rw (link_high m e h, end_b links e h, other_high m e h, end_a links (e - m) l, ne_eq_p (apart (e - m) l))
      go (no h) =
          let l : e < m = omega arith in
          let q : m + e - m ≡ e = omega arith in
          rw (link_low m e l, end_a links e l, other_low m e l, end_b links (m + e) (omega arith), q, eq_eq_p {p = (segment_at links e).a} refl)

  -- a link has one end at a point
  same_link : (e f : ℕ) → e < 2 * m → f < 2 * m → end_point links e ≡ end_point links f → link_of m e ≡ link_of m f → e ≡ f
  same_link e f b c p q = go (dec_le m e) (dec_le m f)
    where
      go : Dec (m ≤ e) → Dec (m ≤ f) → e ≡ f
      go (yes h) (yes k) = omega (arith, link_high m e h, link_high m f k)
      go (yes h) (no k) =
          let l : f < m = omega arith in
          let r : e - m ≡ f = sym (link_high m e h) ∙ q ∙ link_low m f l in
          absurd (apart f l (sym (end_a links f l) ∙ sym p ∙ end_b links e h ∙ ap (λ j. (segment_at links j).b) r))
      go (no h) (yes k) =
          let l : e < m = omega arith in
          let r : f - m ≡ e = sym (link_high m f k) ∙ sym q ∙ link_low m e l in
          absurd (apart e l (sym (end_a links e l) ∙ p ∙ end_b links f k ∙ ap (λ j. (segment_at links j).b) r))
      go (no h) (no k) = omega (arith, link_low m e (omega arith), link_low m f (omega arith))

  one_end : (e f : ℕ) → e < 2 * m → f < 2 * m → end_point links e ≡ end_point links f → eqb (link_of m e) (link_of m f) ≡ eqb e f
  one_end e f b c p =
      same_test (eqb (link_of m e) (link_of m f)) (eqb e f)
      (λ t. eq-eqb e f (same_link e f b c p (eqb-true (link_of m e) (link_of m f) t)))
      (λ t. eq-eqb (link_of m e) (link_of m f) (ap (link_of m) (eqb-true e f t)))

-- ---- the nearest end
-- how many links there are
pub ruleset counted = (length-segments)

pub far_near : (links : Drawing) → Faultless links → (e : ℕ) → e < 2 * length links → in_range (far_point links e) ≡ true
unfolding far_point
far_near links faultless e h = end_near links faultless (other_end (length links) e) (other_end_below (length links) e h)

module _ (links : Drawing) (direction : Bool) (f : ℕ) where
  -- the nearer of the best and another, at the point of f
  abbrev add : NextEnd → ℕ → NextEnd
  add = add_end links direction (end_point links f) (far_point links f)

  -- what the best end and another have, the nearer one has
  add_has : (P : ℕ → Type 0) (e : ℕ) (best : NextEnd) → Leaving P best → P e → Leaving P (add best e)
  unfolding add_end
  add_has P e None b q = q
  add_has P e (Some g) b q = go (is_nearer direction (end_point links f) (far_point links f) (far_point links g) (far_point links e))
    where
      go : (t : Bool) → Leaving P (cond t (Some e) (Some g))
      go true = q
      go false = b

  -- the same of all ends that can be left
  pub nearest-has : (P : ℕ → Type 0) (bits es : List ℕ) (best : NextEnd) → Leaving P best → ((e : ℕ) → e ∈ es → remains bits (move_of (length links) direction e) ≡ true → P e)
      → Leaving P (nearest_end links direction f bits best es)
  unfolding nearest_end is_other
  nearest-has P bits [] best b h = b
  nearest-has P bits (e ∷ es) best b h = nearest-has P bits es _ (go (is_other links direction f bits e) refl) (λ g i. h g (inr i))
    where
      go : (t : Bool) → is_other links direction f bits e ≡ t → Leaving P (cond t (add best e) best)
      go true q = add_has P e best b (h e (inl refl) (both_r (not (eqb e f)) _ q))
      go false q = b

-- the loop over the ends of a part: the best end so far and those to come decide
module _ (links : Drawing) (direction : Bool) (f : ℕ) (bits all es : List ℕ) where
  abbrev nearest_of : NextEnd → List ℕ → NextEnd
  nearest_of = nearest_end links direction f bits

  pub record Sought (j : ℕ) (best : NextEnd) : Type 0 where
    pub below : Leaving (λ e. e < 2 * length links) best
    pub same : nearest_of None all ≡ nearest_of best (drop j es)

  module _ {j : ℕ} {best : NextEnd} (w : Sought j best) where
    abbrev here : ℕ
    here = get_or es j 0

    module _ (as_many : length bits ≡ length links) (inside : j < length es) where
      step : nearest_of None all ≡ nearest_of (cond (is_other links direction f bits here) (add_end links direction (end_point links f) (far_point links f) best here) best) (drop (j + 1) es)
      unfolding nearest_end
      step = w.same ∙ at_drop_more (nearest_of best) es j 0 inside

      pub passed : {next : NextEnd} → (here ≡ f) ⊎ (remains bits (move_of (length bits) direction here) ≡ false) → next ≡ best → Sought (j + 1) next
      unfolding is_other
      passed h q = record { below = rw q w.below; same = step ∙ rw (other h, q) }
        where
          other : (here ≡ f) ⊎ (remains bits (move_of (length bits) direction here) ≡ false) → is_other links direction f bits here ≡ false
          other (inl h) = rw (eq-eqb here f h)
          other (inr h) = rw (sym as_many) (not_r (not (eqb here f)) h)

      pub taken : {next : NextEnd} → here < 2 * length bits → (here ≡ f → ⊥) → remains bits (move_of (length bits) direction here) ≡ true → {c a : Point} → c ≡ end_point links f → a ≡ far_point links f
          → next ≡ add_end links direction c a best here → Sought (j + 1) next
      unfolding is_other
      taken b n h p r q =
          let other : is_other links direction f bits here ≡ true = rw (sym as_many, h, ne_eqb here f n) in
          record { below = rw (q, p, r) (add_has links direction f (λ e. e < 2 * length links) here best w.below (omega (arith, b, as_many))); same = step ∙ rw (other, q, p, r) }

    pub sought : length es ≤ j → best ≡ nearest_of None all
    unfolding nearest_end
    sought h = sym (w.same ∙ ap (nearest_of best) (drop_all j es h))

-- over ends at the point of f, as over their links
module _ (links : Drawing) (faultless : Faultless links) (direction : Bool) (f : ℕ) (below : f < 2 * length links) (bits : List ℕ) where
  abbrev p : Point
  p = end_point links f

  abbrev link : ℕ → ℕ
  link = link_of (length links)

  abbrev back : Point
  back = other (segment_at links (link f)) p

  abbrev At : ℕ → Type 0
  At e = (e < 2 * length links) × (end_point links e ≡ p)

  abbrev is_taken : ℕ → Bool
  is_taken k = not (eqb k (link f)) && remains bits (move_from links direction p k)

  abbrev as_link : NextEnd → Option ℕ
  as_link None = none
  as_link (Some e) = some (link e)

  move_is : (e : ℕ) → At e → move_from links direction p (link e) ≡ move_of (length links) direction e
  unfolding move_from
  move_is e h = fits links faultless.proper direction e p h.0 h.1

  taken_is : (e : ℕ) → At e → is_taken (link e) ≡ is_other links direction f bits e
  unfolding is_other
  taken_is e h = ap₂ (λ (b : Bool) (n : Move). not b && remains bits n) (one_end links faultless e f h.0 below h.1) (move_is e h)

  leads : (e : ℕ) → At e → other (segment_at links (link e)) p ≡ far_point links e
  leads e h = subst (λ q. other (segment_at links (link e)) q ≡ far_point links e) h.1 (other_is links faultless e h.0)

  add_is : (e : ℕ) → At e → (best : NextEnd) → Leaving At best → (l : List ℕ)
      → nearest links direction p back (as_link best) (link e ∷ l) ≡ nearest links direction p back (as_link (add links direction f best e)) l
  unfolding nearest add_end
  add_is e h None b l = refl
  add_is e h (Some g) b l =
      ap (λ (o : Option ℕ). nearest links direction p back o l) (rw (leads f (below, refl), leads g b, leads e h) (go (is_nearer direction p (far_point links f) (far_point links g) (far_point links e))))
    where
      go : (t : Bool) → some (cond t (link e) (link g)) ≡ as_link (cond t (Some e) (Some g))
      go true = refl
      go false = refl

  nearest_is : (es : List ℕ) (best : NextEnd) → Leaving At best → ((e : ℕ) → e ∈ es → At e)
      → nearest links direction p back (as_link best) (keep is_taken (map link es)) ≡ as_link (nearest_end links direction f bits best es)
  unfolding nearest keep nearest_end
  nearest_is [] best b h = refl
  nearest_is (e ∷ es) best b h =
      ap (λ t. nearest links direction p back (as_link best) (cond t (link e ∷ rest) rest)) (taken_is e (h e (inl refl)))
      ∙ go (is_other links direction f bits e) (λ next n. nearest_is es next n (λ g i. h g (inr i)))
    where
      rest : List ℕ
      rest = keep is_taken (map link es)

      go : (t : Bool) → ((next : NextEnd) → Leaving At next → nearest links direction p back (as_link next) rest ≡ as_link (nearest_end links direction f bits next es))
          → nearest links direction p back (as_link best) (cond t (link e ∷ rest) rest) ≡ as_link (nearest_end links direction f bits (cond t (add links direction f best e) best) es)
      go true ih = add_is e (h e (inl refl)) best b rest ∙ ih (add links direction f best e) (add_has links direction f At e best b (h e (inl refl)))
      go false ih = ih best b

  module _ (flat starts nodes : List ℕ) (n : Nodes links flat starts nodes) where
    abbrev es : List ℕ
    es = part flat starts (get_or nodes f 0)

    abbrev nearest_other : NextEnd
    nearest_other = nearest_end links direction f bits None es

    find_is : find_nearest links direction (link f) p bits ≡ or_else (move_from links direction p) (as_link nearest_other) (if_remains bits (move_of (length links) direction f))
    unfolding find_nearest
    find_is =
        ap₂ (λ (o : Option ℕ) (k : Move). or_else (move_from links direction p) o (if_remains bits k))
        (ap (λ (l : List ℕ). nearest links direction p back none (keep is_taken l)) (sym (n.list f below)) ∙ nearest_is es None tt (λ e i. n.ends f e below i))
        (move_is f (below, refl))

    -- what is answered, by the nearest other end
    next_other : (e : ℕ) → nearest_other ≡ Some e → NextIs links direction bits f (Some e)
    next_other e q =
        let h : At e × (remains bits (move_of (length links) direction e) ≡ true) =
        subst (Leaving (λ g. At g × (remains bits (move_of (length links) direction g) ≡ true))) q (nearest-has links direction f _ bits es None tt (λ g i l. (n.ends f g below i, l))) in (
          find_is ∙ ap (λ (r : NextEnd). or_else (move_from links direction p) (as_link r) (if_remains bits (move_of (length links) direction f))) q ∙ ap some (move_is e h.0),
          h.0.0,
          h.1,
        )

    module _ (q : nearest_other ≡ None) where
      alone : find_nearest links direction (link f) p bits ≡ if_remains bits (move_of (length links) direction f)
      alone = find_is ∙ ap (λ (r : NextEnd). or_else (move_from links direction p) (as_link r) (if_remains bits (move_of (length links) direction f))) q

      next_current : remains bits (move_of (length links) direction f) ≡ true → NextIs links direction bits f (Some f)
      next_current l = (alone ∙ rw l, below, l)

      next_none : remains bits (move_of (length links) direction f) ≡ false → NextIs links direction bits f None
      next_none l = alone ∙ rw l

    -- by what is found of the other ends, the current link's own end is answered or not
    pub next_is : length bits ≡ length links → {found : NextEnd} (answer : NextEnd) → found ≡ nearest_other
        → MatchOption found (answer ≡ cond (remains bits (move_of (length bits) direction f)) (Some f) None) (λ e. answer ≡ Some e) → NextIs links direction bits f answer
    next_is as_many {found} answer q h = go found q h
      where
        by : nearest_other ≡ None → (t : Bool) → remains bits (move_of (length links) direction f) ≡ t → answer ≡ cond t (Some f) None → NextIs links direction bits f answer
        by e true r h = rw h (next_current e r)
        by e false r h = rw h (next_none e r)

        go : (n : NextEnd) → n ≡ nearest_other → MatchOption n (answer ≡ cond (remains bits (move_of (length bits) direction f)) (Some f) None) (λ e. answer ≡ Some e) → NextIs links direction bits f answer
        go None q h = by (sym q) (remains bits (move_of (length links) direction f)) refl (rw as_many at h)
        go (Some e) q h = rw h (next_other e (sym q))
