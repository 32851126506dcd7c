-- The points of a path, by place.
use mathlib.Core.Path.{◌≡◌, refl, sym, ◌∙◌, ap, ap₂}
use mathlib.Core.List.{List, [], ◌∷◌, reverse_aux}
use mathlib.Core.Bool.{Bool, true, false}
use Prim.Native.Nat.{ℕ, zero, suc, ◌+◌, ◌*◌, ◌-◌, ◌<◌, ◌≤◌}
use native.Mathlib.Omega.{arith}
use lib.ListN.{length, get_or, take, set, length-set, length-map, length-reverse}
use lib.Seq.{take_all}
use lib.IntN.{ℤ}
use Rattle.geom.specs.declared.Point.{Point}
use Rattle.lists.specs.Written.{written}
use Rattle.segm.specs.Segments.{Drawing}
use Rattle.segm.proofs.Segments.{length-segments}
use Rattle.lists.proofs.Entries.{get_d_map}
use Rattle.contour.specs.Points.{coordinates, origin}
use Rattle.contour.proofs.Points.Coordinates.{written_point}
use Rattle.ends.specs.Ends.{end_point}
use Rattle.graph.specs.Nodes.{other_end}
use Rattle.clip_paths.specs.Paths.{finished}
use Rattle.clip_paths.specs.Writing.{through_ends, ends_points}

-- ---- lists
module _ {A : Type 0} (z : A) where
  get_d_after : (l r : List A) (i : ℕ) → get_or (reverse_aux l r) (length l + i) z ≡ get_or r i z
  get_d_after [] r i = ap (λ n. get_or r n z) (omega arith)
  get_d_after (x ∷ l) r i = ap (λ n. get_or (reverse_aux l (x ∷ r)) n z) (omega arith) ∙ get_d_after l (x ∷ r) (suc i)

  get_d_back : (l r : List A) (i : ℕ) → i < length l → get_or (reverse_aux l r) i z ≡ get_or l (length l - suc i) z
  get_d_back [] r i h = absurd (omega arith)
  get_d_back (x ∷ l) r i h = go (length l - i) refl (get_d_back l (x ∷ r) i)
    where
      go : (n : ℕ) → length l - i ≡ n → (i < length l → get_or (reverse_aux l (x ∷ r)) i z ≡ get_or l (length l - suc i) z) → get_or (reverse_aux l (x ∷ r)) i z ≡ get_or (x ∷ l) (suc (length l) - suc i) z
      go zero e ih =
          let f : i ≡ length l + 0 = omega arith in
          let g : suc (length l) - suc i ≡ 0 = omega arith in
          ap (λ n. get_or (reverse_aux l (x ∷ r)) n z) f ∙ get_d_after l (x ∷ r) 0 ∙ sym (ap (λ n. get_or (x ∷ l) n z) g)
      go (suc n) e ih =
          let g : suc (length l) - suc i ≡ suc (length l - suc i) = omega arith in
          ih (omega arith) ∙ sym (ap (λ n. get_or (x ∷ l) n z) g)

-- ---- the points of a path
module _ (links : Drawing) where
  pub through-first : (es : List ℕ) → 0 < length es → get_or (through_ends links es) 0 origin ≡ end_point links (get_or es 0 0)
  unfolding through_ends
  through-first [] h = absurd (omega arith)
  through-first (e ∷ es) h = refl

  through_next : (es : List ℕ) (i : ℕ) → i < length es → get_or (through_ends links es) (suc i) origin ≡ end_point links (other_end (length links) (get_or es i 0))
  unfolding through_ends
  through_next [] i h = absurd (omega arith)
  through_next (e ∷ es) i h = get_d_map (λ f. end_point links (other_end (length links) f)) (e ∷ es) i 0 origin h

  pub through_after : (es : List ℕ) (i : ℕ) → 0 < i → i ≤ length es → get_or (through_ends links es) i origin ≡ end_point links (other_end (length links) (get_or es (i - 1) 0))
  through_after es i p h = let e : i ≡ suc (i - 1) = omega arith in ap (λ j. get_or (through_ends links es) j origin) e ∙ through_next es (i - 1) (omega arith)

  length-through : (es : List ℕ) → 0 < length es → length (through_ends links es) ≡ suc (length es)
  unfolding through_ends
  length-through [] h = absurd (omega arith)
  length-through (e ∷ es) h = ap suc (length-map (e ∷ es) (λ f. end_point links (other_end (length links) f)))

  pub length_points : (out : Bool) (es : List ℕ) → 0 < length es → length (ends_points links out es) ≡ suc (length es)
  unfolding ends_points finished
  length_points true es h = length-through es h
  length_points false es h = length-reverse (through_ends links es) ∙ length-through es h

  pub outward_at : (es : List ℕ) (q : ℕ) → get_or (ends_points links true es) q origin ≡ get_or (through_ends links es) q origin
  unfolding ends_points finished
  outward_at es q = refl

  pub backward_at : (es : List ℕ) (q : ℕ) → 0 < length es → q ≤ length es → get_or (ends_points links false es) q origin ≡ get_or (through_ends links es) (length es - q) origin
  unfolding ends_points finished
  backward_at es q h k =
      let e : length (through_ends links es) - suc q ≡ length es - q = omega (arith, length-through es h) in
      get_d_back origin (through_ends links es) [] q (omega (arith, length-through es h)) ∙ ap (λ n. get_or (through_ends links es) n origin) e

-- the points that a walk comes through, and the path's, by place
pub ruleset places_through = (through-first, through_after, length-segments)

pub ruleset places = (outward_at, backward_at)

-- the loop of a path: the points passed are written
module _ (ps : List Point) (old : List ℤ) where
  pub record Passed (points : List ℤ) (q : ℕ) : Type 0 where
    pub room : length points ≡ length old
    pub list : points ≡ written (coordinates (take q ps)) old

  pub none_passed : Passed old 0
  unfolding written coordinates
  none_passed = record { room = refl; list = refl }

  -- one point more
  pub pass : {points points₁ : List ℤ} {q : ℕ} {p : Point} → Passed points q → p ≡ get_or ps q origin → points₁ ≡ set (set points (2 * q) p.x) (2 * q + 1) p.y → q < length ps → 2 * length ps ≤ length old
      → Passed points₁ (q + 1)
  pass {points} {points₁} {q} {p} w e r inside room = record {
    room = omega (arith, ap length r, length-set (set points (2 * q) p.x) (2 * q + 1) p.y, length-set points (2 * q) p.x, w.room);
    list = r ∙ ap₂ (λ (t : List ℤ) (z : Point). set (set t (2 * q) z.x) (2 * q + 1) z.y) w.list e ∙ written_point ps old q inside (omega (arith, inside, room));
  }

  -- after the last all are
  pub all_passed : {points : List ℤ} {q : ℕ} → Passed points q → length ps ≤ q → points ≡ written (coordinates ps) old
  all_passed {points} {q} w h = w.list ∙ ap (λ (t : List Point). written (coordinates t) old) (take_all q ps h)
