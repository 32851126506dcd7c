-- Loops by their points: never more of them than were taken, and in range if those are.
use mathlib.Core.Path.{◌≡◌, refl, sym, ap, ◌∙◌, subst}
use mathlib.Core.List.{List, [], ◌∷◌, ◌++◌, flatten, append-nil}
use mathlib.Core.Logic.{inl, inr}
use mathlib.Core.Bool.{Bool, true, false, cond}
use Prim.Native.Nat.{ℕ, suc, ◌+◌, ◌≤◌}
use native.Mathlib.Omega.{arith}
use lib.Dec.{ltb}
use lib.ListN.{length, take, drop, length-append, length-take, length-drop}
use borrow.Author.Tests.{ltb-true}
use Rattle.geom.specs.declared.Point.{Point}
use Rattle.geom.specs.Points.{in_range}
use Rattle.lists.specs.Members.{◌∈◌, keep}
use Rattle.lists.proofs.Members.{in_take, in_drop, cases, in-++, keep_in, length_keep}
use Rattle.lists.proofs.Entries.{flatten-++}
use Rattle.contour.proofs.Area.{near_all}
use Rattle.contour.specs.Points.{AllInRange}
use Rattle.contour.specs.Area.{is_large}
use Rattle.bin_store.specs.Sightings.{Sighting, number_of, sight}
use Rattle.split_loops.specs.Loops.{closed, Buffered, buffered, buffer_point, buffer_points, rest, all_loops, split_loops}

-- ---- how many
-- the loops' points and the buffer's are at most n, and every loop has points
pub record Fit (n : ℕ) (t : Buffered) : Type 0 where
  pub points : length (flatten t.loops) + length t.buffer ≤ n
  pub loops : length t.loops ≤ length (flatten t.loops)

closed_fit : (front tail : List Point) (p : Point) → Fit (suc (length front + length tail)) (buffered front (closed tail p))
unfolding closed flatten
closed_fit front tail p = go (ltb (length tail) 2)
  where
    go : (b : Bool) → Fit (suc (length front + length tail)) (buffered front (cond b [] ((tail ++ (p ∷ [])) ∷ [])))
    go true = record { points = omega arith; loops = omega arith }
    go false =
        let n : length ((tail ++ (p ∷ [])) ++ []) ≡ suc (length tail) = ap length (append-nil (tail ++ (p ∷ []))) ∙ length-append tail (p ∷ []) ∙ omega arith in
        record { points = omega arith; loops = omega arith }

pub buffer_fit : (number : ℕ) (buffer : List Point) (p : Point) → Fit (suc (length buffer)) (buffer_point number buffer p)
unfolding buffer_point flatten
buffer_fit number buffer p = go (ltb number (length buffer)) refl
  where
    go : (b : Bool) → ltb number (length buffer) ≡ b
        → Fit (suc (length buffer)) (cond b (buffered (take number buffer) (closed (drop number buffer) p)) (buffered (buffer ++ (p ∷ [])) []))
    go true e =
        let n : length (take number buffer) + length (drop number buffer) ≡ length buffer = omega (arith, ltb-true number (length buffer) e, length-take number buffer, length-drop number buffer) in
        subst (λ m. Fit (suc m) (buffered (take number buffer) (closed (drop number buffer) p))) n (closed_fit (take number buffer) (drop number buffer) p)
    go false e = record { points = omega (arith, length-append buffer (p ∷ [])); loops = omega arith }

-- one turn after the other
pub fit_on : {n : ℕ} (m : ℕ) {done : List (List Point)} {buffer : List Point} {t : Buffered} → Fit n (buffered buffer done) → Fit (length buffer + m) t → Fit (n + m) (buffered t.buffer (done ++ t.loops))
fit_on {n} m {done} {buffer} {t} f g =
    let e : length (flatten (done ++ t.loops)) ≡ length (flatten done) + length (flatten t.loops) = ap length (flatten-++ done t.loops) ∙ length-append (flatten done) (flatten t.loops) in
    record {
      points = omega (arith, e, f.points, g.points);
      loops = omega (arith, e, length-append done t.loops, f.loops, g.loops);
    }

pub buffers_fit : (memory : List Sighting) (buffer points : List Point) → Fit (length buffer + length points) (buffer_points memory buffer points)
unfolding buffer_points flatten
buffers_fit memory buffer [] = record { points = omega arith; loops = omega arith }
buffers_fit memory buffer (p ∷ points) =
    let after = sight memory p (suc (length buffer)) in
    let t = buffer_point (number_of after p) buffer p in
    let n : suc (length buffer) + length points ≡ length buffer + suc (length points) = omega arith in
    subst (λ m. Fit m (buffer_points memory buffer (p ∷ points))) n (fit_on (length points) {t = buffer_points after t.buffer points} (buffer_fit (number_of after p) buffer p) (buffers_fit after t.buffer points))

rest_fit : (buffer : List Point) → Fit (length buffer) (buffered [] (rest buffer))
unfolding rest flatten
rest_fit buffer = go (ltb 2 (length buffer)) refl
  where
    go : (b : Bool) → ltb 2 (length buffer) ≡ b → Fit (length buffer) (buffered [] (cond b (buffer ∷ []) []))
    go true e = record { points = omega (arith, length-append buffer []); loops = omega (arith, length-append buffer [], ltb-true 2 (length buffer) e) }
    go false e = record { points = omega arith; loops = omega arith }

-- those that pass a test have no more points
pub length_flatten_keep : {A : Type 0} (P : List A → Bool) (l : List (List A)) → length (flatten (keep P l)) ≤ length (flatten l)
unfolding keep flatten
length_flatten_keep P [] = omega arith
length_flatten_keep P (x ∷ l) = go (P x) (length_flatten_keep P l)
  where
    go : (b : Bool) → length (flatten (keep P l)) ≤ length (flatten l) → length (flatten (cond b (x ∷ keep P l) (keep P l))) ≤ length (x ++ flatten l)
    go true h = omega (arith, length-append x (flatten (keep P l)), length-append x (flatten l))
    go false h = omega (arith, length-append x (flatten l))

all_fit : (points : List Point) → Fit (length points) (buffered [] (all_loops points))
unfolding all_loops
all_fit points =
    let t = buffer_points [] [] points in
    let f : Fit (length t.buffer + 0) (buffered [] (rest t.buffer)) = subst (λ m. Fit m (buffered [] (rest t.buffer))) (omega arith) (rest_fit t.buffer) in
    subst (λ m. Fit m (buffered [] (all_loops points))) (omega arith) (fit_on 0 {done = t.loops} {buffer = t.buffer} (buffers_fit [] [] points) f)

pub loops_fit : (least : ℕ) (points : List Point) → length (flatten (split_loops least points)) ≤ length points
unfolding split_loops
loops_fit least points = omega (arith, length_flatten_keep (is_large least) (all_loops points), (all_fit points).points)

pub loops_few : (least : ℕ) (points : List Point) → length (split_loops least points) ≤ length points
unfolding split_loops
loops_few least points = let f = all_fit points in omega (arith, length_keep (is_large least) (all_loops points), f.points, f.loops)

-- ---- in range
pub near_more : (l : List Point) (p : Point) → AllInRange l → in_range p ≡ true → AllInRange (l ++ (p ∷ []))
near_more l p n h q m = cases (n q) (cases (λ e. ap in_range e ∙ h) (λ i. absurd i)) (in-++ q l (p ∷ []) m)

pub near_drop : (k : ℕ) (l : List Point) → AllInRange l → AllInRange (drop k l)
near_drop k l n q m = n q (in_drop k l q m)

pub record Within (t : Buffered) : Type 0 where
  pub buffer : AllInRange t.buffer
  pub loops : (l : List Point) → l ∈ t.loops → AllInRange l

pub buffer_near : (number : ℕ) (buffer : List Point) (p : Point) → AllInRange buffer → in_range p ≡ true → Within (buffer_point number buffer p)
unfolding buffer_point closed
buffer_near number buffer p n h = go (ltb number (length buffer))
  where
    tail : (b : Bool) (l : List Point) → l ∈ cond b [] ((drop number buffer ++ (p ∷ [])) ∷ []) → AllInRange l
    tail true l m = absurd m
    tail false l (inl e) = subst AllInRange (sym e) (near_more (drop number buffer) p (near_drop number buffer n) h)
    tail false l (inr m) = absurd m

    go : (b : Bool) → Within (cond b (buffered (take number buffer) (closed (drop number buffer) p)) (buffered (buffer ++ (p ∷ [])) []))
    go true = record { buffer = λ q m. n q (in_take number buffer q m); loops = tail (ltb (length (drop number buffer)) 2) }
    go false = record { buffer = near_more buffer p n h; loops = λ l m. absurd m }

pub buffers_near : (memory : List Sighting) (buffer points : List Point) → AllInRange buffer → AllInRange points → Within (buffer_points memory buffer points)
unfolding buffer_points
buffers_near memory buffer [] n h = record { buffer = n; loops = λ l m. absurd m }
buffers_near memory buffer (p ∷ points) n h =
    let after = sight memory p (suc (length buffer)) in
    let t = buffer_point (number_of after p) buffer p in
    let w = buffer_near (number_of after p) buffer p n (h p (inl refl)) in
    let v = buffers_near after t.buffer points w.buffer (λ q m. h q (inr m)) in
    record { buffer = v.buffer; loops = λ l m. cases (w.loops l) (v.loops l) (in-++ l t.loops (buffer_points after t.buffer points).loops m) }

all_near : (points : List Point) → AllInRange points → (l : List Point) → l ∈ all_loops points → AllInRange l
unfolding all_loops rest
all_near points n l m = let w = buffers_near [] [] points (λ q i. absurd i) n in cases (w.loops l) (last (ltb 2 (length (buffer_points [] [] points).buffer)) w.buffer) (in-++ l (buffer_points [] [] points).loops (rest (buffer_points [] [] points).buffer) m)
  where
    last : (b : Bool) → AllInRange (buffer_points [] [] points).buffer → l ∈ cond b ((buffer_points [] [] points).buffer ∷ []) [] → AllInRange l
    last true k (inl e) = subst AllInRange (sym e) k
    last true k (inr i) = absurd i
    last false k i = absurd i

pub loops_near : (least : ℕ) (points : List Point) → AllInRange points → AllInRange (flatten (split_loops least points))
unfolding split_loops
loops_near least points n = near_all (keep (is_large least) (all_loops points)) (λ l m. all_near points n l (keep_in (is_large least) l (all_loops points) m).0)
