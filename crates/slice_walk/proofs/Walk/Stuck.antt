-- Where there are no walks, some walk comes to a point that is not its home, and there no link can be taken: that turns run out is never the reason.
use mathlib.Core.Path.{◌≡◌, refl, sym, ◌∙◌, ap, subst}
use mathlib.Core.List.{List, [], ◌∷◌}
use mathlib.Core.Option.{Option, none, some}
use mathlib.Core.Bool.{Bool, true, false, not, ◌&&◌}
use mathlib.Core.Logic.{◌⊎◌, inl, inr, ◌↔◌}
use Prim.Native.Nat.{ℕ, zero, suc, ◌≤◌}
use native.Mathlib.Omega.{arith}
use lib.Dec.{eqb}
use borrow.Author.Tests.{eqb-true}
use Rattle.integers.proofs.Booleans.{dec, both, is_false}
use Rattle.geom.specs.declared.Point.{Point}
use Rattle.geom.specs.Points.{eq_p}
use Rattle.lists.specs.Members.{◌∈◌, keep}
use Rattle.lists.proofs.Members.{in_keep}
use Rattle.segm.specs.Segments.{Drawing, segment_at}
use Rattle.graph.specs.Nodes.{node}
use Rattle.moves.specs.Steps.{other}
use Rattle.moves.specs.Moves.{Move, remains, taken, taken_all, bits_remaining, over}
use Rattle.moves.specs.Begins.{begins}
use Rattle.moves.proofs.Moves.{takes_one}
use Rattle.moves.proofs.Begins.{begins-some}
use Rattle.slice_walk.specs.Walk.{move_from, nearest, if_remains, or_else, find_nearest, onto, till, walk_from, walks}
use Rattle.slice_walk.proofs.Ends.{IfSome, nearest-remains}
use Rattle.slice_walk.proofs.Walk.Till.{Begun, none_remain, till_home, till_on}
use Rattle.slice_walk.proofs.Walk.AllWalks.{begun_first, fewer_after, walks_on}

-- ---- lists that there may be
module _ {A : Type 0} where
  some-none : {x : A} → some x ≡ none → ⊥
  some-none e = let z : ◌≡◌ {A = ℕ} 0 1 = cc in omega arith

onto-none : {A : Type 0} (x : A) (o : Option (List A)) → onto x o ≡ none → o ≡ none
onto-none x none e = refl
onto-none x (some l) e = absurd (some-none e)

-- ---- the next move
module _ (links : Drawing) (direction : Bool) (k : ℕ) (p : Point) (bits : List ℕ) where
  abbrev from : ℕ → Move
  from = move_from links direction p

  abbrev back : Point
  back = other (segment_at links k) p

  abbrev is_other : ℕ → Bool
  is_other j = not (eqb j k) && remains bits (from j)

  -- of several links one is the nearest
  nearest-some : (l : List ℕ) (b : ℕ) → (c : ℕ) × (nearest links direction p back (some b) l ≡ some c)
  unfolding nearest
  nearest-some [] b = (b, refl)
  nearest-some (j ∷ l) b = nearest-some l _

  -- where a link of the node can be taken, a move is found
  pub find_some : (j : ℕ) → j ∈ node links p → remains bits (from j) ≡ true → (m : Move) × (find_nearest links direction k p bits ≡ some m)
  unfolding find_nearest nearest
  find_some j i l = go (keep is_other (node links p)) refl (dec (eqb j k))
    where
      go : (o : List ℕ) → keep is_other (node links p) ≡ o → (eqb j k ≡ true) ⊎ (eqb j k ≡ false) → (m : Move) × (or_else from (nearest links direction p back none o) (if_remains bits (from k)) ≡ some m)
      go (c ∷ o) e t = let r = nearest-some o c in (from r.0, ap (λ (x : Option ℕ). or_else from x (if_remains bits (from k))) r.1)
      go [] e (inl t) = (from k, rw (subst (λ n. remains bits (from n) ≡ true) (eqb-true j k t) l))
      go [] e (inr t) = absurd (subst (λ (o : List ℕ). j ∈ o) e (in_keep is_other j (node links p) i (both (ap not t) l)))

  -- so where none is found, no link of the node can be taken
  pub find_none : find_nearest links direction k p bits ≡ none → (j : ℕ) → j ∈ node links p → remains bits (from j) ≡ false
  find_none e j i = is_false (remains bits (from j)) (λ l. let r = find_some j i l in some-none (sym r.1 ∙ e))

-- ---- one walk
-- these moves are made from p on, none of them at home, and then, not at home, no move is found
abbrev pub StuckAfter : Drawing → Bool → (home : Point) → ℕ → Point → List ℕ → List Move → Type 0
StuckAfter links direction home k p bits [] = (eq_p p home ≡ false) × (find_nearest links direction k p bits ≡ none)
StuckAfter links direction home k p bits (m ∷ l) =
    (eq_p p home ≡ false) × (find_nearest links direction k p bits ≡ some m) × StuckAfter links direction home m.place (over links direction m).end (taken bits m) l

module _ (links : Drawing) (direction : Bool) (home : Point) where
  -- from p on, having come over link k, it comes to such a point
  abbrev ComesToStop : ℕ → Point → List ℕ → Type 0
  ComesToStop k p bits = (l : List Move) × StuckAfter links direction home k p bits l

  stop_from : (n k : ℕ) (p : Point) (bits : List ℕ) → bits_remaining bits ≤ n → till (bits_remaining bits) links direction home k p bits ≡ none → ComesToStop k p bits
  stop_from zero k p bits h e = go (eq_p p home) refl
    where
      go : (b : Bool) → eq_p p home ≡ b → ComesToStop k p bits
      go true at = absurd (some-none (sym (till_home links direction home k p bits at) ∙ e))
      go false at = ([], (at, none_remain links direction home k p bits h))
  stop_from (suc n) k p bits h e = go (eq_p p home) refl (find_nearest links direction k p bits) refl (stop_from n)
    where
      go : (b : Bool) → eq_p p home ≡ b → (o : Option Move) → find_nearest links direction k p bits ≡ o
          → ((k' : ℕ) (q : Point) (rest : List ℕ) → bits_remaining rest ≤ n → till (bits_remaining rest) links direction home k' q rest ≡ none → ComesToStop k' q rest)
          → ComesToStop k p bits
      go true at o f ih = absurd (some-none (sym (till_home links direction home k p bits at) ∙ e))
      go false at none f ih = ([], (at, f))
      go false at (some m) f ih =
          let fewer = takes_one bits m (nearest-remains links direction k p bits m f) in
          let r = ih m.place (over links direction m).end (taken bits m) (omega (arith, fewer)) (onto-none m _ (rw f at (sym (till_on links direction home k p bits at) ∙ e))) in
          (m ∷ r.0, (at, f, r.1))

  stop_none : (l : List Move) (k : ℕ) (p : Point) (bits : List ℕ) → StuckAfter links direction home k p bits l → till (bits_remaining bits) links direction home k p bits ≡ none
  stop_none [] k p bits (at, f) = till_on links direction home k p bits at ∙ rw f
  stop_none (m ∷ l) k p bits (at, f, s) = till_on links direction home k p bits at ∙ rw (f, stop_none l m.place (over links direction m).end (taken bits m) s)

  pub till-none : (k : ℕ) (p : Point) (bits : List ℕ) → (till (bits_remaining bits) links direction home k p bits ≡ none) ↔ ComesToStop k p bits
  till-none k p bits = (stop_from (bits_remaining bits) k p bits (omega arith), λ s. stop_none s.0 k p bits s.1)

-- ---- all walks
-- with these bits, a walk comes to such a point: the next one, or one after it
pub data Stuck (links : Drawing) : List ℕ → Type 0 where
  here : (bits : List ℕ) (m : Move) → begins links bits ≡ some m
      → ComesToStop links m.forth (over links m.forth m).start m.place (over links m.forth m).end (taken bits m) → Stuck links bits
  later : (bits : List ℕ) (m : Move) (walk : List Move) → begins links bits ≡ some m → walk_from links bits m ≡ some walk → Stuck links (taken_all bits walk) → Stuck links bits

module _ (links : Drawing) where
  walk_none : (bits : List ℕ) (m : Move) → walk_from links bits m ≡ none
      → ComesToStop links m.forth (over links m.forth m).start m.place (over links m.forth m).end (taken bits m)
  unfolding walk_from
  walk_none bits m e = (till-none links m.forth _ m.place _ (taken bits m)).0 (onto-none m _ e)

  stuck_from : (n : ℕ) (bits : List ℕ) → bits_remaining bits ≤ n → walks links bits ≡ none → Stuck links bits
  stuck_from zero bits h e = go (begins links bits) refl
    where
      go : (o : Option Move) → begins links bits ≡ o → Stuck links bits
      go none f = absurd (some-none (rw f at (sym (walks_on links bits) ∙ e)))
      go (some m) f = absurd (omega (arith, takes_one bits m (begins-some links bits m f).bit_remains))
  stuck_from (suc n) bits h e = go (begins links bits) refl (stuck_from n)
    where
      by : (m : Move) → begins links bits ≡ some m → (o : Option (List Move)) → walk_from links bits m ≡ o → IfSome (Begun bits m) o
          → ((rest : List ℕ) → bits_remaining rest ≤ n → walks links rest ≡ none → Stuck links rest) → Stuck links bits
      by m f none g b ih = here bits m f (walk_none bits m g)
      by m f (some walk) g b ih = later bits m walk f g (ih (taken_all bits walk) (omega (arith, fewer_after links bits m walk b)) (onto-none walk _ (rw (f, g) at (sym (walks_on links bits) ∙ e))))

      go : (o : Option Move) → begins links bits ≡ o → ((rest : List ℕ) → bits_remaining rest ≤ n → walks links rest ≡ none → Stuck links rest) → Stuck links bits
      go none f ih = absurd (some-none (rw f at (sym (walks_on links bits) ∙ e)))
      go (some m) f ih = by m f (walk_from links bits m) refl (begun_first links bits m f) ih

  stuck_none : (bits : List ℕ) → Stuck links bits → walks links bits ≡ none
  unfolding walk_from
  stuck_none bits (here _ m f s) = walks_on links bits ∙ rw (f, (till-none links m.forth _ m.place _ (taken bits m)).1 s)
  stuck_none bits (later _ m walk f g s) = walks_on links bits ∙ rw (f, g, stuck_none (taken_all bits walk) s)

  pub walks-none : (bits : List ℕ) → (walks links bits ≡ none) ↔ Stuck links bits
  walks-none bits = (stuck_from (bits_remaining bits) bits (omega arith), stuck_none bits)
