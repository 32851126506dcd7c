-- First sightings: what is stored stays, and a look-up is told by the places.
use mathlib.Core.Path.{◌≡◌, refl, ◌∙◌, ap}
use mathlib.Core.List.{List, [], ◌∷◌, ◌++◌}
use mathlib.Core.Bool.{Bool, true, false, cond, ◌||◌}
use Prim.Native.Nat.{ℕ, zero, suc, ◌<◌}
use native.Mathlib.Omega.{arith}
use lib.ListN.{length, get_or}
use Rattle.integers.proofs.Booleans.{clash, or_l, or_r, neither, nor_l, nor_r}
use Rattle.geom.specs.declared.Point.{Point}
use Rattle.geom.specs.Points.{eq_p}
use Rattle.geom.proofs.Points.{eq_eq_p}
use Rattle.lists.specs.Members.{any}
use Rattle.bin_store.specs.Sightings.{Sighting, sighting, is_sighted, number_of, sight}

-- ---- one sighting more
-- a point that was sighted keeps its number
kept_more : (m : List Sighting) (p : Point) (r : List Sighting) → is_sighted m p ≡ true → number_of (m ++ r) p ≡ number_of m p
unfolding is_sighted number_of any
kept_more [] p r h = absurd (clash h refl)
kept_more (s ∷ m) p r h = go (eq_p s.point p) refl (kept_more m p r)
  where
    go : (b : Bool) → eq_p s.point p ≡ b → (is_sighted m p ≡ true → number_of (m ++ r) p ≡ number_of m p) → cond (eq_p s.point p) s.number (number_of (m ++ r) p) ≡ cond (eq_p s.point p) s.number (number_of m p)
    go true e ih = rw e
    go false e ih = let k : is_sighted m p ≡ true = rw e at h in rw e (ih k)

-- another has the number of its first sighting
pub number_first : (m : List Sighting) (p : Point) (r : List Sighting) → is_sighted m p ≡ false → number_of (m ++ r) p ≡ number_of r p
unfolding is_sighted number_of any
number_first [] p r h = refl
number_first (s ∷ m) p r h = let e = nor_l (eq_p s.point p) (is_sighted m p) h in rw e (number_first m p r (nor_r (eq_p s.point p) (is_sighted m p) h))

sighted_more : (m : List Sighting) (p : Point) (r : List Sighting) → is_sighted (m ++ r) p ≡ (is_sighted m p || is_sighted r p)
unfolding is_sighted any
sighted_more [] p r = refl
sighted_more (s ∷ m) p r = go (eq_p s.point p) (sighted_more m p r)
  where
    go : (b : Bool) → is_sighted (m ++ r) p ≡ (is_sighted m p || is_sighted r p) → (b || is_sighted (m ++ r) p) ≡ ((b || is_sighted m p) || is_sighted r p)
    go true e = refl
    go false e = e

pub number_own : (p : Point) (n : ℕ) → number_of (sighting p n ∷ []) p ≡ n
unfolding number_of
number_own p n = rw (eq_eq_p {p = p} {q = p} refl)

-- what a sighting does: a later one nothing, a first one is stored
pub sight_again : (m : List Sighting) (p : Point) (n : ℕ) → is_sighted m p ≡ true → m ≡ sight m p n
unfolding sight
sight_again m p n h = rw h

pub sight-first : (m : List Sighting) (p : Point) (n : ℕ) → is_sighted m p ≡ false → sight m p n ≡ m ++ (sighting p n ∷ [])
unfolding sight
sight-first m p n h = rw h

pub first_stored : (m : List Sighting) (p : Point) (n : ℕ) → is_sighted m p ≡ false → number_of (sight m p n) p ≡ n
first_stored m p n h = ap (λ (l : List Sighting). number_of l p) (sight-first m p n h) ∙ number_first m p (sighting p n ∷ []) h ∙ number_own p n

sighted_after : (m : List Sighting) (p : Point) (n : ℕ) → is_sighted (sight m p n) p ≡ true
unfolding sight is_sighted any
sighted_after m p n = go (is_sighted m p) refl
  where
    go : (b : Bool) → is_sighted m p ≡ b → is_sighted (cond b m (m ++ (sighting p n ∷ []))) p ≡ true
    go true e = e
    go false e = sighted_more m p (sighting p n ∷ []) ∙ or_r (is_sighted m p) (or_l false (eq_eq_p {p = p} {q = p} refl))

-- and never forgotten or renewed
pub first_kept : (m : List Sighting) (p q : Point) (n k : ℕ) → number_of (sight (sight m p n) q k) p ≡ number_of (sight m p n) p
unfolding sight
first_kept m p q n k = go (is_sighted (sight m p n) q)
  where
    go : (b : Bool) → number_of (cond b (sight m p n) (sight m p n ++ (sighting q k ∷ []))) p ≡ number_of (sight m p n) p
    go true = refl
    go false = kept_more (sight m p n) p (sighting q k ∷ []) (sighted_after m p n)

-- ---- told by the places: no place holds p; the first that does has its number
pub unsighted : (m : List Sighting) (p : Point) (z : Sighting) → ((i : ℕ) → i < length m → eq_p (get_or m i z).point p ≡ false) → is_sighted m p ≡ false
unfolding is_sighted any
unsighted [] p z h = refl
unsighted (s ∷ m) p z h = neither (h 0 (omega arith)) (unsighted m p z (λ i k. h (suc i) (omega arith)))

module _ (p : Point) (z : Sighting) where
  pub sighted_at : (m : List Sighting) (i : ℕ) → i < length m → eq_p (get_or m i z).point p ≡ true → is_sighted m p ≡ true
  unfolding is_sighted any
  sighted_at [] i h e = absurd (omega arith)
  sighted_at (s ∷ m) zero h e = or_l (is_sighted m p) e
  sighted_at (s ∷ m) (suc i) h e = or_r (eq_p s.point p) (sighted_at m i (omega arith) e)

  pub number_at : (m : List Sighting) (i : ℕ) → i < length m → eq_p (get_or m i z).point p ≡ true → ((k : ℕ) → k < i → eq_p (get_or m k z).point p ≡ false) → number_of m p ≡ (get_or m i z).number
  unfolding number_of
  number_at [] i h e f = absurd (omega arith)
  number_at (s ∷ m) zero h e f = rw e
  number_at (s ∷ m) (suc i) h e f = let n = f 0 (omega arith) in rw n (number_at m i (omega arith) e (λ k l. f (suc k) (omega arith)))
