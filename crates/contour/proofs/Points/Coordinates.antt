-- Points and their coordinates: how long, joined, taken apart, and written one by one.
use mathlib.Core.Path.{◌≡◌, refl, sym, ◌∙◌, ap, ap₂}
use mathlib.Core.List.{List, [], ◌∷◌, ◌++◌, append_assoc}
use Prim.Native.Nat.{ℕ, zero, suc, ◌+◌, ◌*◌, ◌/◌, ◌%◌, ◌<◌, ◌≤◌}
use native.Mathlib.Omega.{arith}
use native.Mathlib.Numerals.{add-one}
use lib.ListN.{length, get_or, take, drop, set, length-append, length-take}
use lib.Seq.{take-suc, take-nil, drop-nil}
use lib.IntN.{ℤ, pos}
use Rattle.geom.specs.declared.Point.{Point}
use Rattle.lists.specs.Written.{written}
use Rattle.lists.proofs.Written.{written_more}
use Rattle.contour.specs.Points.{coordinates, pair_up, origin}

pub length-coordinates : (l : List Point) → length (coordinates l) ≡ 2 * length l
unfolding coordinates
length-coordinates [] = refl
length-coordinates (p ∷ l) = omega (arith, length-coordinates l)

pub coordinates-++ : (l m : List Point) → coordinates (l ++ m) ≡ coordinates l ++ coordinates m
unfolding coordinates
coordinates-++ [] m = refl
coordinates-++ (p ∷ l) m = ap (λ (r : List ℤ). p.x ∷ p.y ∷ r) (coordinates-++ l m)

-- one point more
pub written_point : (ps : List Point) (old : List ℤ) (q : ℕ) → q < length ps → 2 * suc q ≤ length old
    → set (set (written (coordinates (take q ps)) old) (2 * q) (get_or ps q origin).x) (2 * q + 1) (get_or ps q origin).y ≡ written (coordinates (take (q + 1) ps)) old
unfolding coordinates
written_point ps old q h k =
    let p = get_or ps q origin in
    let n : length (coordinates (take q ps)) ≡ 2 * q = omega (arith, length-coordinates (take q ps), length-take q ps) in
    ap (λ (l : List ℤ). set l (2 * q + 1) p.y) (written_more (coordinates (take q ps)) old (2 * q) p.x (sym n) (omega arith))
    ∙ written_more (coordinates (take q ps) ++ (p.x ∷ [])) old (2 * q + 1) p.y (omega (arith, n, length-append (coordinates (take q ps)) (p.x ∷ []))) (omega arith)
    ∙ ap (λ (l : List ℤ). written l old) (append_assoc (coordinates (take q ps)) (p.x ∷ []) (p.y ∷ []) ∙ sym (coordinates-++ (take q ps) (p ∷ [])) ∙ ap coordinates (sym (take-suc ps q origin h) ∙ ap (λ m. take m ps) (sym (add-one q))))

pub pair_coordinates : (l : List Point) (r : List ℤ) → pair_up (coordinates l ++ r) ≡ l ++ pair_up r
unfolding coordinates pair_up
pair_coordinates [] r = refl
pair_coordinates (p ∷ l) r = ap (p ∷◌) (pair_coordinates l r)

-- ---- x, y pairs
-- one number makes no pair
pub no_pair : (l : List ℤ) → length l ≤ 1 → pair_up l ≡ []
unfolding pair_up
no_pair [] h = refl
no_pair (x ∷ []) h = refl
no_pair (x ∷ y ∷ l) h = absurd (omega arith)

-- the first n pairs, and those past them
pub pair_up-take : (l : List ℤ) (n : ℕ) → pair_up (take (2 * n) l) ≡ take n (pair_up l)
unfolding pair_up
pair_up-take l zero = refl
pair_up-take [] (suc n) = ap pair_up (take-nil (2 * suc n))
pair_up-take (x ∷ []) (suc n) = let e : 2 * suc n ≡ suc (suc (2 * n)) = omega arith in rw e
pair_up-take (x ∷ y ∷ l) (suc n) = let e : 2 * suc n ≡ suc (suc (2 * n)) = omega arith in rw e (ap (record { x = x; y = y } ∷◌) (pair_up-take l n))

pub pair_up-drop : (l : List ℤ) (n : ℕ) → pair_up (drop (2 * n) l) ≡ drop n (pair_up l)
unfolding pair_up
pair_up-drop l zero = refl
pair_up-drop [] (suc n) = ap pair_up (drop-nil (2 * suc n))
pair_up-drop (x ∷ []) (suc n) = let e : 2 * suc n ≡ suc (suc (2 * n)) = omega arith in rw e (ap pair_up (drop-nil (suc (2 * n))))
pair_up-drop (x ∷ y ∷ l) (suc n) = let e : 2 * suc n ≡ suc (suc (2 * n)) = omega arith in rw e (pair_up-drop l n)

-- the pair at place i
pub pair_at : (l : List ℤ) (i : ℕ) → 2 * i + 1 < length l → get_or (pair_up l) i origin ≡ record { x = get_or l (2 * i) (pos 0); y = get_or l (2 * i + 1) (pos 0) }
unfolding pair_up
pair_at [] i h = absurd (omega arith)
pair_at (x ∷ []) i h = absurd (omega arith)
pair_at (x ∷ y ∷ l) zero h = refl
pair_at (x ∷ y ∷ l) (suc i) h =
    let e : 2 * suc i ≡ suc (suc (2 * i)) = omega arith in
    let f : 2 * suc i + 1 ≡ suc (suc (2 * i + 1)) = omega arith in
    pair_at l i (omega arith) ∙ sym (ap₂ (λ m n. record { x = get_or (x ∷ y ∷ l) m (pos 0); y = get_or (x ∷ y ∷ l) n (pos 0) }) e f)

pub pair_past : (l : List ℤ) (i : ℕ) → length l ≤ 2 * i + 1 → get_or (pair_up l) i origin ≡ origin
unfolding pair_up
pair_past [] i h = refl
pair_past (x ∷ []) i h = refl
pair_past (x ∷ y ∷ l) zero h = absurd (omega arith)
pair_past (x ∷ y ∷ l) (suc i) h = pair_past l i (omega arith)

pub length_pairs : (l : List ℤ) → length (pair_up l) ≡ length l / 2
unfolding pair_up
length_pairs [] = refl
length_pairs (x ∷ []) = refl
length_pairs (x ∷ y ∷ l) = omega (arith, length_pairs l)

-- whole pairs and their coordinates
pub coordinates_pairs : (l : List ℤ) → length l % 2 ≡ 0 → coordinates (pair_up l) ≡ l
unfolding coordinates pair_up
coordinates_pairs [] h = refl
coordinates_pairs (x ∷ []) h = absurd (omega arith)
coordinates_pairs (x ∷ y ∷ l) h = ap (λ (r : List ℤ). x ∷ y ∷ r) (coordinates_pairs l (omega arith))

-- a point written among coordinates is set among the points
pub pairs_set : (l : List ℤ) (q : ℕ) (p : Point) → pair_up (set (set l (2 * q) p.x) (2 * q + 1) p.y) ≡ set (pair_up l) q p
unfolding pair_up
pairs_set [] q p = refl
pairs_set (x ∷ []) zero p = refl
pairs_set (x ∷ []) (suc q) p = let e : 2 * suc q ≡ suc (suc (2 * q)) = omega arith in let f : 2 * suc q + 1 ≡ suc (suc (2 * q + 1)) = omega arith in rw (f, e)
pairs_set (x ∷ y ∷ l) zero p = refl
pairs_set (x ∷ y ∷ l) (suc q) p =
    let e : 2 * suc q ≡ suc (suc (2 * q)) = omega arith in
    let f : 2 * suc q + 1 ≡ suc (suc (2 * q + 1)) = omega arith in
    rw (f, e) (ap (record { x = x; y = y } ∷◌) (pairs_set l q p))
