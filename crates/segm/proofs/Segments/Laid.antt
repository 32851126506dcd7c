-- Segments laid into a flat list, one after the other, and read back from it.
use mathlib.Core.Path.{◌≡◌, refl, sym, ◌∙◌, ap, ap₂}
use mathlib.Core.List.{List, [], ◌∷◌, ◌++◌, append_assoc, append-nil}
use Prim.Native.Nat.{ℕ, zero, suc, ◌+◌, ◌*◌, ◌/◌, ◌%◌, ◌≤◌}
use native.Mathlib.Omega.{arith}
use lib.ListN.{length, get_or, take, drop, set, length-append, length-drop, take-append-drop}
use lib.Seq.{take_at, drop_at, drop-drop, sets-eq}
use lib.IntN.{ℤ, pos}
use Rattle.segm.specs.declared.Segment.{Segment}
use Rattle.lists.specs.Written.{written}
use Rattle.segm.specs.Segments.{Drawing, width, front, segments_of, count, segments, numbers_of, laid}

length_numbers : (s : Segment) → length (numbers_of s) ≡ width
unfolding numbers_of
length_numbers s = refl

pub length-laid : (d : Drawing) → length (laid d) ≡ length d * width
unfolding laid
length-laid [] = refl
length-laid (s ∷ d) = length-append (numbers_of s) (laid d) ∙ omega (arith, length_numbers s, length-laid d)

laid_one : (s : Segment) → laid (s ∷ []) ≡ numbers_of s
unfolding laid
laid_one s = append-nil (numbers_of s)

pub laid-++ : (d e : Drawing) → laid (d ++ e) ≡ laid d ++ laid e
unfolding laid
laid-++ [] e = refl
laid-++ (s ∷ d) e = ap (λ (l : List ℤ). numbers_of s ++ l) (laid-++ d e) ∙ sym (append_assoc (numbers_of s) (laid d) (laid e))

-- read back
segments_of-laid : (d : Drawing) → segments_of (length d) (laid d) ≡ d
unfolding segments_of front laid numbers_of
segments_of-laid [] = refl
segments_of-laid (s ∷ d) = ap (λ (e : Drawing). s ∷ e) (segments_of-laid d)

pub segments-laid : (d : Drawing) → segments (laid d) ≡ d
unfolding segments count
segments-laid d = let n : length (laid d) / width ≡ length d = omega (arith, length-laid d) in ap (λ k. segments_of k (laid d)) n ∙ segments_of-laid d

pub count-laid : (d : Drawing) → count (laid d) ≡ length d
unfolding count
count-laid d = omega (arith, length-laid d)

-- ---- the numbers at the front of a list are those of its first segment
unfoldable pub entries : ℕ → (ℕ → ℤ) → List ℤ
entries zero f = []
entries (suc k) f = f 0 ∷ entries k (λ i. f (suc i))

pub first_entries : (l : List ℤ) (k : ℕ) → k ≤ length l → entries k (λ i. get_or l i (pos 0)) ≡ take k l
unfolding entries
first_entries l zero h = refl
first_entries [] (suc k) h = absurd (omega arith)
first_entries (x ∷ l) (suc k) h = ap (λ (m : List ℤ). x ∷ m) (first_entries l k (omega arith))

pub numbers_front : (l : List ℤ) → width ≤ length l → numbers_of (front l) ≡ take width l
unfolding numbers_of front entries
numbers_front l h = first_entries l width h

-- whole segments, laid out again
laid-segments_of : (n : ℕ) (l : List ℤ) → length l ≡ n * width → laid (segments_of n l) ≡ l
unfolding laid segments_of
laid-segments_of zero l e = sym (none l (omega (arith, e)))
  where
    none : (m : List ℤ) → length m ≡ 0 → m ≡ []
    none [] h = refl
    none (x ∷ m) h = absurd (omega (arith, h))
laid-segments_of (suc n) l e =
    ap₂ ◌++◌ (numbers_front l (omega (arith, e))) (laid-segments_of n (drop width l) (omega (arith, e, length-drop width l))) ∙ take-append-drop width l

pub laid-segments : (l : List ℤ) → length l % width ≡ 0 → laid (segments l) ≡ l
unfolding segments count
laid-segments l e = laid-segments_of (length l / width) l (omega (arith, e))

-- ---- written to the front of a lent list
module _ (d : Drawing) (old : List ℤ) where
  -- one segment more
  pub written_put : (t : Segment) (l : List ℤ) (i : ℕ) → l ≡ written (laid d) old → i ≡ length d
      → take (i * width) l ++ (numbers_of t ++ drop (i * width + width) l) ≡ written (laid (d ++ (t ∷ []))) old
  unfolding written
  written_put t l i e q =
      ap₂ (λ (p r : List ℤ). p ++ (numbers_of t ++ r)) (ap (take (i * width)) e ∙ take_at (laid d) rest (i * width) here) after
      ∙ sym (append_assoc (laid d) (numbers_of t) (drop (length more) old))
      ∙ ap (λ (m : List ℤ). m ++ drop (length m) old) (sym one)
    where
      rest : List ℤ
      rest = drop (length (laid d)) old

      more : List ℤ
      more = laid d ++ numbers_of t

      here : length (laid d) ≡ i * width
      here = length-laid d ∙ ap (λ k. k * width) (sym q)

      one : laid (d ++ (t ∷ [])) ≡ more
      one = laid-++ d (t ∷ []) ∙ ap (λ (m : List ℤ). laid d ++ m) (laid_one t)

      after : drop (i * width + width) l ≡ drop (length more) old
      after =
          sym (drop-drop width (i * width) l) ∙ ap (λ (m : List ℤ). drop width (drop (i * width) m)) e ∙ ap (drop width) (drop_at (laid d) rest (i * width) here)
          ∙ drop-drop width (length (laid d)) old ∙ ap (λ k. drop k old) (sym (length-append (laid d) (numbers_of t) ∙ ap (λ k. length (laid d) + k) (length_numbers t)))

-- the numbers of a segment stored one by one
pub stores : (t : Segment) (l : List ℤ) (k : ℕ) → k + width ≤ length l
    → set (set (set (set (set (set (set l k t.a.x) (k + 1) t.a.y) (k + 2) t.b.x) (k + 3) t.b.y) (k + 4) t.winding) (k + 5) t.bits) (k + 6) t.lot
    ≡ take k l ++ (numbers_of t ++ drop (k + width) l)
unfolding numbers_of
stores t l k h =
    let one : k + 1 ≡ suc k = omega arith in
    let two : k + 2 ≡ suc (suc k) = omega arith in
    let three : k + 3 ≡ suc (suc (suc k)) = omega arith in
    let four : k + 4 ≡ suc (suc (suc (suc k))) = omega arith in
    let five : k + 5 ≡ suc (suc (suc (suc (suc k)))) = omega arith in
    let six : k + 6 ≡ suc (suc (suc (suc (suc (suc k))))) = omega arith in
    rw (one, two, three, four, five, six) (sets-eq (numbers_of t) l k h ∙ append_assoc (take k l) (numbers_of t) (drop (k + width) l))
