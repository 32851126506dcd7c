-- Six numbers a segment: how many segments they are, and each by its place.
use mathlib.Core.Path.{◌≡◌, refl, sym, ap, ◌∙◌}
use mathlib.Core.List.{List}
use Prim.Native.Nat.{ℕ, zero, suc, ◌+◌, ◌*◌, ◌-◌, ◌/◌, ◌<◌}
use native.Mathlib.Omega.{arith}
use lib.ListN.{length, get_or, take, drop}
use lib.Seq.{drop-drop, get_or-take}
use lib.IntN.{ℤ, pos}
use Rattle.segm.specs.Segments.{front, with_lot, nowhere}
use Rattle.text_forms.specs.Reading.{old_segments_of, old_segments}

length_old_of : (n : ℕ) (l : List ℤ) → length (old_segments_of n l) ≡ n
unfolding old_segments_of
length_old_of zero l = refl
length_old_of (suc n) l = ap suc (length_old_of n (drop 6 l))

pub length_old : (l : List ℤ) → length (old_segments l) ≡ length l / 6
unfolding old_segments
length_old l = length_old_of (length l / 6) l

old_of_at : (n : ℕ) (l : List ℤ) (i : ℕ) → i < n → get_or (old_segments_of n l) i nowhere ≡ with_lot (pos 0) (front (drop (i * 6) l))
unfolding old_segments_of
old_of_at zero l i h = absurd (omega arith)
old_of_at (suc n) l zero h = refl
old_of_at (suc n) l (suc i) h = old_of_at n (drop 6 l) i (omega arith) ∙ ap (λ (m : List ℤ). with_lot (pos 0) (front m)) (drop-drop (i * 6) 6 l ∙ ap (λ k. drop k l) by)
  where
    by : 6 + i * 6 ≡ suc i * 6
    by = omega arith

-- only six count
front_six : (l : List ℤ) → with_lot (pos 0) (front (take 6 l)) ≡ with_lot (pos 0) (front l)
unfolding front
front_six l =
    let e : (k : ℕ) → k < 6 → get_or (take 6 l) k (pos 0) ≡ get_or l k (pos 0) = λ k h. get_or-take 6 l k (pos 0) h in
    rw (e 0 (omega arith), e 1 (omega arith), e 2 (omega arith), e 3 (omega arith), e 4 (omega arith), e 5 (omega arith))

pub old_at : (l : List ℤ) (i : ℕ) → i < length l / 6 → with_lot (pos 0) (front (take (i * 6 + 6 - i * 6) (drop (i * 6) l))) ≡ get_or (old_segments l) i nowhere
unfolding old_segments
old_at l i h =
    let six : i * 6 + 6 - i * 6 ≡ 6 = omega arith in
    rw six (front_six (drop (i * 6) l) ∙ sym (old_of_at (length l / 6) l i h))
