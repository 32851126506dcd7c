-- Lists written to: at the front, a part of them, and entries put one after the other.
use mathlib.Core.Path.{◌≡◌, refl, sym, ◌∙◌, ap}
use mathlib.Core.List.{List, [], ◌∷◌, ◌++◌, map, map-append, append_assoc, append-nil}
use Prim.Native.Nat.{ℕ, suc, ◌<◌, ◌≤◌, ◌+◌, ◌-◌}
use native.Mathlib.Omega.{arith}
use lib.ListN.{length, get_or, take, drop, set, length-append, length-map, length-take, length-drop, drop_of_length-le}
use native.Mathlib.Numerals.{add-one}
use lib.Seq.{take-suc, take_at, take_all, drop_at, drop-cons, drop-drop, set_at, sets, sets-eq, take-nil}
use native.Mathlib.Nat.{add-zero}
use Rattle.lists.specs.Written.{written}

module _ {A : Type 0} where
  -- ---- lists written to: one more entry of the answer
  pub written_more : (answer old : List A) (k : ℕ) (x : A) → k ≡ length answer → k < length old → set (written answer old) k x ≡ written (answer ++ (x ∷ [])) old
  unfolding written
  written_more answer old k x e h =
      let d : length answer < length old = omega arith in
      ap (λ (l : List A). set (answer ++ l) k x) (drop-cons old (length answer) x d) ∙ set_at answer _ _ x k (sym e) ∙ sym (simp (append_assoc, length-append, add-one))

  pub length_written : (answer old : List A) → length answer ≤ length old → length (written answer old) ≡ length old
  unfolding written
  length_written answer old h = omega (arith, length-append answer (drop (length answer) old), length-drop (length answer) old)

  -- the answer, and what is past it
  pub take_written : (answer old : List A) (n : ℕ) → n ≡ length answer → take n (written answer old) ≡ answer
  unfolding written
  take_written answer old n e = take_at answer (drop (length answer) old) n (sym e)

  pub written_past : (answer old : List A) (n : ℕ) → n ≡ length answer → drop n (written answer old) ≡ drop n old
  unfolding written
  written_past answer old n e = drop_at answer (drop (length answer) old) n (sym e) ∙ ap (λ k. drop k old) (sym e)

  -- more was written to the front of what is past the answer
  pub written_after : (answer more old l : List A) (i : ℕ) → l ≡ written answer old → i ≡ length answer → take i l ++ written more (drop i l) ≡ written (answer ++ more) old
  unfolding written
  written_after answer more old l i e q =
      let r = drop (length answer) old in
      let front : take i l ≡ answer = ap (take i) e ∙ take_written answer old i q in
      let back : drop i l ≡ r = ap (drop i) e ∙ drop_at answer r i (sym q) in
      let past : drop (length more) r ≡ drop (length (answer ++ more)) old = drop-drop (length more) (length answer) old ∙ ap (λ k. drop k old) (sym (length-append answer more)) in
      rw (front, back, past) (sym (append_assoc answer more (drop (length (answer ++ more)) old)))

  -- the same, where only as much was lent
  pub written_at : (answer more old l : List A) (i j : ℕ) → l ≡ written answer old → i ≡ length answer → j ≡ length more → take i l ++ (more ++ drop j (drop i l)) ≡ written (answer ++ more) old
  unfolding written
  written_at answer more old l i j e q r = ap (λ m. take i l ++ (more ++ drop m (drop i l))) r ∙ written_after answer more old l i e q

  -- an answer over another of its length, and one that fills the whole list
  pub written_over : (a b old : List A) → length a ≡ length b → written a (written b old) ≡ written a old
  unfolding written
  written_over a b old e = ap (a ++◌) (written_past b old (length a) e)

  pub written_whole : (answer old : List A) → length old ≤ length answer → written answer old ≡ answer
  unfolding written
  written_whole answer old h = rw (drop_of_length-le old {i = length answer} h) (append-nil answer)

  -- what is past place i was lent: all of it, and nothing is past it
  lent : (l : List A) (i : ℕ) → take (length l - i) (drop i l) ≡ drop i l
  lent l i = take_all (length l - i) (drop i l) (omega (arith, length-drop i l))

  past_lent : (l : List A) (i : ℕ) → drop (length l - i) (drop i l) ≡ []
  past_lent l i = drop_of_length-le (drop i l) {i = length l - i} (omega (arith, length-drop i l))

  -- and more came back at its front
  pub part_back : (more l : List A) (i : ℕ) → take i l ++ (written more (take (length l - i) (drop i l)) ++ drop (length l - i) (drop i l)) ≡ take i l ++ written more (drop i l)
  part_back more l i = rw (lent l i, past_lent l i, append-nil (written more (drop i l)))

  pub written_part : (answer more old l : List A) (i : ℕ) → l ≡ written answer old → i ≡ length answer
      → take i l ++ (written more (take (length l - i) (drop i l)) ++ drop (length l - i) (drop i l)) ≡ written (answer ++ more) old
  written_part answer more old l i e q = part_back more l i ∙ written_after answer more old l i e q

  -- the answer is l's entries through f: one place more of it
  pub written_map : {B : Type 0} (f : B → A) (l : List B) (z : B) (old : List A) (i : ℕ) → i < length l → length l ≤ length old
      → set (written (map f (take i l)) old) i (f (get_or l i z)) ≡ written (map f (take (i + 1) l)) old
  written_map f l z old i h k =
      let n : i ≡ length (map f (take i l)) = sym (length-map (take i l) f ∙ length-take i l ∙ omega arith) in
      written_more (map f (take i l)) old i (f (get_or l i z)) n (omega arith) ∙ ap (λ (a : List A). written a old) (sym (ap (λ m. map f (take m l)) (add-one i) ∙ ap (map f) (take-suc l i z h) ∙ map-append f (take i l) (get_or l i z ∷ [])))

  -- ---- runs of stores: entries put into a list one after the other. A place past its end takes none
  pub sets_append : (l : List A) (i : ℕ) (a b : List A) → sets l i (a ++ b) ≡ sets (sets l i a) (i + length a) b
  sets_append l i [] b = rw add-zero
  sets_append l i (x ∷ a) b = let e : suc i + length a ≡ i + suc (length a) = omega arith in sets_append (set l i x) (suc i) a b ∙ rw e

  sets_nil : (i : ℕ) (zs : List A) → ◌≡◌ {A = List A} (sets [] i zs) []
  sets_nil i [] = refl
  sets_nil i (z ∷ zs) = sets_nil (suc i) zs

  sets_cons : (x : A) (l : List A) (i : ℕ) (zs : List A) → sets (x ∷ l) (suc i) zs ≡ x ∷ sets l i zs
  sets_cons x l i [] = refl
  sets_cons x l i (z ∷ zs) = sets_cons x (set l i z) (suc i) zs

  -- from the front, as many as the list holds
  pub sets_front : (zs l : List A) → sets l 0 zs ≡ written (take (length l) zs) l
  unfolding written
  sets_front [] l = rw (take-nil {A = A} (length l))
  sets_front (z ∷ zs) [] = sets_nil 1 zs
  sets_front (z ∷ zs) (x ∷ l) = sets_cons z l 0 zs ∙ ap (z ∷◌) (sets_front zs l)

  -- the whole list
  pub sets_all : (zs l : List A) → length zs ≡ length l → sets l 0 zs ≡ zs
  sets_all zs l e = sets-eq zs l 0 (omega arith) ∙ rw (drop_of_length-le l {i = 0 + length zs} (omega arith), append-nil zs)
