-- One walk: as many turns as bits remain are always enough, so it goes on by one turn; and each of its moves takes a bit that remains.
use mathlib.Core.Path.{◌≡◌, refl, sym, ◌∙◌, ap}
use mathlib.Core.List.{List, [], ◌∷◌, ◌++◌}
use mathlib.Core.Option.{Option, none, some}
use mathlib.Core.Bool.{Bool, true, false, cond}
use Prim.Native.Nat.{ℕ, zero, suc, ◌≤◌}
use native.Mathlib.Omega.{arith}
use lib.ListN.{length}
use lib.Seq.{append_snoc}
use Rattle.geom.specs.declared.Point.{Point}
use Rattle.geom.specs.Points.{eq_p}
use Rattle.segm.specs.Segments.{Drawing}
use Rattle.moves.specs.Moves.{Move, remains, taken, Takes, bits_remaining, over}
use Rattle.moves.proofs.Moves.{takes_one}
use Rattle.slice_walk.specs.Walk.{find_nearest, onto, bind, till, walk_from, direction_of}
use Rattle.slice_walk.proofs.Ends.{IfSome, nearest-remains}

-- ---- lists that there may be
module _ {A : Type 0} where
  -- what is done, and what follows
  abbrev pub after : List A → Option (List A) → Option (List A)
  after done none = none
  after done (some l) = some (done ++ l)

  pub after_nothing : (o : Option (List A)) → after [] o ≡ o
  after_nothing none = refl
  after_nothing (some l) = refl

  -- one more is done
  pub after_more : (done : List A) (x : A) (o : Option (List A)) → after (done ++ (x ∷ [])) o ≡ after done (onto x o)
  after_more done x none = refl
  after_more done x (some l) = ap some (append_snoc done x l)

module _ (links : Drawing) (direction : Bool) (home : Point) where
  -- one turn, with so much turns for the rest
  abbrev turn : (List ℕ → ℕ) → ℕ → Point → List ℕ → Option (List Move)
  turn turns k p bits = bind (find_nearest links direction k p bits) (λ m. onto m (till (turns (taken bits m)) links direction home m.place (over links direction m).end (taken bits m)))

  -- no bit, no move
  pub none_remain : (k : ℕ) (p : Point) (bits : List ℕ) → bits_remaining bits ≤ 0 → find_nearest links direction k p bits ≡ none
  none_remain k p bits h = go (find_nearest links direction k p bits) refl
    where
      go : (o : Option Move) → find_nearest links direction k p bits ≡ o → find_nearest links direction k p bits ≡ none
      go none e = e
      go (some m) e = absurd (omega (arith, takes_one bits m (nearest-remains links direction k p bits m e)))

  empty : (turns : List ℕ → ℕ) (k : ℕ) (p : Point) (bits : List ℕ) → bits_remaining bits ≤ 0 → turn turns k p bits ≡ none
  empty turns k p bits h = rw (none_remain k p bits h)

  -- more turns than bits changes nothing
  till_turns : (i j k : ℕ) (p : Point) (bits : List ℕ) → bits_remaining bits ≤ i → bits_remaining bits ≤ j → till i links direction home k p bits ≡ till j links direction home k p bits
  unfolding till
  till_turns zero zero k p bits h l = refl
  till_turns zero (suc j) k p bits h l = ap (cond (eq_p p home) (some [])) (sym (empty (λ b. j) k p bits h))
  till_turns (suc i) zero k p bits h l = ap (cond (eq_p p home) (some [])) (empty (λ b. i) k p bits l)
  till_turns (suc i) (suc j) k p bits h l = ap (cond (eq_p p home) (some [])) (go (find_nearest links direction k p bits) refl (till_turns i j))
    where
      go : (o : Option Move) → find_nearest links direction k p bits ≡ o
          → ((k' : ℕ) (q : Point) (rest : List ℕ) → bits_remaining rest ≤ i → bits_remaining rest ≤ j → till i links direction home k' q rest ≡ till j links direction home k' q rest)
          → bind o (λ m. onto m (till i links direction home m.place (over links direction m).end (taken bits m))) ≡ bind o (λ m. onto m (till j links direction home m.place (over links direction m).end (taken bits m)))
      go none e ih = refl
      go (some m) e ih =
          let fewer = takes_one bits m (nearest-remains links direction k p bits m e) in
          ap (onto m) (ih m.place (over links direction m).end (taken bits m) (omega (arith, fewer)) (omega (arith, fewer)))

  -- at home
  pub till_home : (k : ℕ) (p : Point) (bits : List ℕ) → eq_p p home ≡ true → till (bits_remaining bits) links direction home k p bits ≡ some []
  unfolding till
  till_home k p bits e = go (bits_remaining bits)
    where
      go : (turns : ℕ) → till turns links direction home k p bits ≡ some []
      go zero = rw e
      go (suc turns) = rw e

  -- elsewhere, the next move
  pub till_on : (k : ℕ) (p : Point) (bits : List ℕ) → eq_p p home ≡ false → till (bits_remaining bits) links direction home k p bits ≡ turn bits_remaining k p bits
  unfolding till
  till_on k p bits n = till_turns (bits_remaining bits) (suc (bits_remaining bits)) k p bits (omega arith) (omega arith) ∙ rw n (go (find_nearest links direction k p bits) refl)
    where
      go : (o : Option Move) → find_nearest links direction k p bits ≡ o
          → bind o (λ m. onto m (till (bits_remaining bits) links direction home m.place (over links direction m).end (taken bits m)))
          ≡ bind o (λ m. onto m (till (bits_remaining (taken bits m)) links direction home m.place (over links direction m).end (taken bits m)))
      go none e = refl
      go (some m) e =
          let fewer = takes_one bits m (nearest-remains links direction k p bits m e) in
          ap (onto m) (till_turns (bits_remaining bits) (bits_remaining (taken bits m)) m.place (over links direction m).end (taken bits m) (omega (arith, fewer)) (omega arith))

  onto_takes : (bits : List ℕ) (m : Move) (o : Option (List Move)) → remains bits m ≡ true → IfSome (Takes (taken bits m)) o → IfSome (Takes bits) (onto m o)
  onto_takes bits m none e t = tt
  onto_takes bits m (some l) e t = (e, t)

  pub till_takes : (turns k : ℕ) (p : Point) (bits : List ℕ) → IfSome (Takes bits) (till turns links direction home k p bits)
  unfolding till
  till_takes zero k p bits = go (eq_p p home)
    where
      go : (b : Bool) → IfSome (Takes bits) (cond b (some []) none)
      go true = tt
      go false = tt
  till_takes (suc turns) k p bits = go (eq_p p home) (find_nearest links direction k p bits) refl (till_takes turns)
    where
      go : (b : Bool) (o : Option Move) → find_nearest links direction k p bits ≡ o → ((k' : ℕ) (q : Point) (rest : List ℕ) → IfSome (Takes rest) (till turns links direction home k' q rest))
          → IfSome (Takes bits) (cond b (some []) (bind o (λ m. onto m (till turns links direction home m.place (over links direction m).end (taken bits m)))))
      go true o e ih = tt
      go false none e ih = tt
      go false (some m) e ih =
          onto_takes bits m (till turns links direction home m.place (over links direction m).end (taken bits m)) (nearest-remains links direction k p bits m e)
          (ih m.place (over links direction m).end (taken bits m))

-- ---- a walk that begins with m
pub record Begun (bits : List ℕ) (m : Move) (walk : List Move) : Type 0 where
  pub takes : Takes bits walk
  pub direction : direction_of walk ≡ m.forth
  pub not_empty : 1 ≤ length walk

pub walk-begun : (links : Drawing) (bits : List ℕ) (m : Move) → remains bits m ≡ true → IfSome (Begun bits m) (walk_from links bits m)
unfolding walk_from direction_of
walk-begun links bits m e =
    let first = over links m.forth m in
    let rest = taken bits m in
    go (till (bits_remaining rest) links m.forth first.start m.place first.end rest) (till_takes links m.forth first.start (bits_remaining rest) m.place first.end rest)
  where
    go : (o : Option (List Move)) → IfSome (Takes (taken bits m)) o → IfSome (Begun bits m) (onto m o)
    go none t = tt
    go (some l) t = record { takes = (e, t); direction = refl; not_empty = omega arith }
