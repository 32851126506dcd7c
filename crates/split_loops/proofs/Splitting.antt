-- The first points of a list of numbers, loops that come after those found, and working memory.
use mathlib.Core.Path.{◌≡◌, refl, sym, ap, ◌∙◌, ap₂}
use mathlib.Core.List.{List, [], ◌∷◌, ◌++◌, map, flatten, append-nil}
use mathlib.Core.Bool.{Bool, cond}
use Prim.Native.Nat.{ℕ, zero, suc, ◌+◌, ◌-◌, ◌*◌, ◌<◌, ◌≤◌, ◌/◌, ◌%◌}
use native.Mathlib.Omega.{arith}
use lib.ListN.{length, take, drop, set, length-append, take-append-drop, replicate}
use Rattle.std.proofs.lemmas.List.{length-replicate}
use lib.Seq.{length-take-le, take-suc-set, take-nil, drop-drop, set_split}
use lib.IntN.{ℤ, pos}
use Rattle.geom.specs.declared.Point.{Point}
use Rattle.contour.specs.Points.{pair_up, coordinates, Writes}
use Rattle.contour.proofs.Points.Coordinates.{pair_up-take, pair_up-drop, length_pairs, pairs_set, coordinates_pairs}
use Rattle.split_loops.specs.Splitting.{first_points, Adds, Added, Working, loop_totals}
use native.Mathlib.Numerals.{add-one}
use Rattle.lists.specs.Members.{keep}
use Rattle.lists.specs.Written.{written}
use Rattle.lists.proofs.Entries.{flatten-++}
use Rattle.contour.proofs.Points.Written.{writes_more}
use Rattle.split_loops.specs.declared.buffer.LoopTotals.{LoopTotals}
use Rattle.split_loops.specs.declared.buffer.LoopWriter.{LoopWriter}
pub mod Taking

-- ---- the first points
pub length-first_points : (len : ℕ) (l : List ℤ) → 2 * len ≤ length l → length (first_points len l) ≡ len
length-first_points len l h = length-take-le len (pair_up l) (omega (arith, length_pairs l))

-- the point stands after the first `len`
pub put_first_points : (l : List ℤ) (len : ℕ) (p : Point) → 2 * suc len ≤ length l → first_points (suc len) (set (set l (2 * len) p.x) (2 * len + 1) p.y) ≡ first_points len l ++ (p ∷ [])
put_first_points l len p h = ap (take (suc len)) (pairs_set l len p) ∙ take-suc-set (pair_up l) len p (omega (arith, length_pairs l))

drop-take : {A : Type 0} (k m : ℕ) (l : List A) → drop k (take (k + m) l) ≡ take m (drop k l)
drop-take zero m l = let e : 0 + m ≡ m = omega arith in ap (λ n. take n l) e
drop-take (suc k) m [] = ap (drop (suc k)) (take-nil (suc k + m)) ∙ sym (take-nil m)
drop-take (suc k) m (x ∷ l) = let e : suc k + m ≡ suc (k + m) = omega arith in rw e (drop-take k m l)

-- the points of a part
pub part-first_points : (l : List ℤ) (k n : ℕ) → k ≤ n → pair_up (take (2 * n - 2 * k) (drop (2 * k) l)) ≡ drop k (first_points n l)
part-first_points l k n h =
    let e : 2 * n - 2 * k ≡ 2 * (n - k) = omega arith in
    let d : k + (n - k) ≡ n = omega arith in
    rw e (pair_up-take (drop (2 * k) l) (n - k) ∙ ap (take (n - k)) (pair_up-drop l k) ∙ sym (drop-take k (n - k) (pair_up l)) ∙ ap (λ m. drop k (take m (pair_up l))) d)

-- ---- loops after those found
module _ {A : Type 0} where
  set_after : (l : List A) (i : ℕ) (x : A) → i < length l → set l i x ≡ take i l ++ written (x ∷ []) (drop i l)
  unfolding written
  set_after l i x h = set_split l i x h ∙ ap (λ (r : List A). take i l ++ (x ∷ r)) (ap (λ n. drop n l) (sym (add-one i)) ∙ sym (drop-drop 1 i l))

-- none, and one
pub keep_one : {A : Type 0} (P : A → Bool) (x : A) {b : Bool} → P x ≡ b → keep P (x ∷ []) ≡ cond b (x ∷ []) []
unfolding keep
keep_one P x e = ap (λ (b : Bool). cond b (x ∷ []) []) e

pub added_none : (w : LoopWriter) → Added [] w w
unfolding written coordinates flatten
added_none w = record {
  same_out = (refl, refl);
  same_lengths = (refl, refl);
  adds = record {
    loops_are = omega arith;
    points_are = omega arith;
    out_is = sym (take-append-drop (2 * w.found.points) w.out.now);
    lengths_are = sym (take-append-drop w.found.loops w.lengths.now);
  };
}

pub adds_one : (contour : List ℤ) (found : LoopTotals) (out : List ℤ) (lengths : List ℕ) (n : ℕ) → length contour % 2 ≡ 0 → found.loops < length lengths → n ≡ length contour
    → Adds (pair_up contour ∷ []) found (record { loops = found.loops + 1; points = found.points + length contour / 2 }) out lengths
    (take (2 * found.points) out ++ (contour ++ drop n (drop (2 * found.points) out))) (set lengths found.loops (length contour / 2))
unfolding flatten written
adds_one contour found out lengths n whole room e =
    let one : flatten (pair_up contour ∷ []) ≡ pair_up contour = append-nil (pair_up contour) in
    let past = drop (2 * found.points) out in
    record {
      loops_are = omega arith;
      points_are = ap (found.points +◌) (sym (length_pairs contour) ∙ sym (ap length one));
      out_is = ap (λ m. take (2 * found.points) out ++ (contour ++ drop m past)) e ∙ ap (λ (l : List ℤ). take (2 * found.points) out ++ written l past) (sym (coordinates_pairs contour whole) ∙ sym (ap coordinates one));
      lengths_are = set_after lengths found.loops (length contour / 2) room ∙ ap (λ n. take found.loops lengths ++ written (n ∷ []) (drop found.loops lengths)) (sym (length_pairs contour));
    }

-- after those found
pub totals_on : (done more : List (List Point)) {found after : LoopTotals} {out₀ out : List ℤ} {lengths₀ lengths : List ℕ} → found ≡ loop_totals done → Adds more found after out₀ lengths₀ out lengths → after ≡ loop_totals (done ++ more)
totals_on done more {found} {after} e a =
    let n : length (flatten (done ++ more)) ≡ length (flatten done) + length (flatten more) = ap length (flatten-++ done more) ∙ length-append (flatten done) (flatten more) in
    ap₂ (λ l p. record { loops = l; points = p })
    (a.loops_are ∙ ap (λ (f : LoopTotals). f.loops + length more) e ∙ sym (length-append done more))
    (a.points_are ∙ ap (λ (f : LoopTotals). f.points + length (flatten more)) e ∙ sym n)

pub writes_on : (done more : List (List Point)) {found after : LoopTotals} {out₀ out₁ out : List ℤ} {lengths₀ lengths₁ lengths : List ℕ} → found ≡ loop_totals done
    → Writes done out₀ lengths₀ out₁ lengths₁ → Adds more found after out₁ lengths₁ out lengths → Writes (done ++ more) out₀ lengths₀ out lengths
writes_on done more {out₁} {lengths₁} e w a =
    let v = writes_more w {more = more} (record { points_are = refl; lengths_are = refl }) in
    record {
      points_are = a.out_is ∙ ap (λ (f : LoopTotals). take (2 * f.points) out₁ ++ written (coordinates (flatten more)) (drop (2 * f.points) out₁)) e ∙ v.points_are;
      lengths_are = a.lengths_are ∙ ap (λ (f : LoopTotals). take f.loops lengths₁ ++ written (map length more) (drop f.loops lengths₁)) e ∙ v.lengths_are;
    }

-- ---- fresh arrays are working memory for as many points as they have room for
pub array_working : {points numbers bins : ℕ} (n : ℕ) → points ≤ 2048 → numbers ≡ 2 * points → bins ≡ points + 1 → n ≤ points
    → Working n (replicate bins 0) (replicate points 0) (replicate numbers (pos 0)) (replicate points 0) (replicate numbers (pos 0))
array_working {points} {numbers} {bins} n few e f h = record {
  heads_fit = omega (arith, length-replicate {A = ℕ} bins 0);
  nexts_fit = omega (arith, length-replicate {A = ℕ} points 0);
  seen_fit = omega (arith, length-replicate numbers (pos 0));
  numbers_fit = omega (arith, length-replicate {A = ℕ} points 0);
  buffer_fits = omega (arith, length-replicate numbers (pos 0));
  buffer_few = omega (arith, length-replicate numbers (pos 0));
}
