-- Segments by place, and what a sum of windings depends on.
use mathlib.Core.Path.{◌≡◌, refl, sym, ◌∙◌, ap, ap₂, subst}
use mathlib.Core.List.{List, ◌++◌, map}
use mathlib.Core.Bool.{Bool, true, false, ◌&&◌}
use Prim.Native.Nat.{ℕ, zero, suc, ◌+◌, ◌*◌, ◌<◌, ◌≤◌}
use native.Mathlib.Omega.{arith}
use lib.ListN.{length, get_or, drop, get_or-eq_default}
use lib.Seq.{drop-drop, get_or-drop}
use lib.IntN.{ℤ, pos, nat_abs, ◌+ℤ◌, +ℤ_comm, +ℤ_idl, +ℤ_idr}
use Rattle.segm.specs.declared.Segment.{Segment}
use Rattle.lists.specs.Members.{◌∈◌}
use Rattle.lists.specs.Sums.{only}
use Rattle.segm.specs.Segments.{Drawing, width, front, segments_of, count, segments, nowhere, segment_at, total}
use Rattle.lists.proofs.Members.{in_at, stands}
use Rattle.lists.proofs.Sums.{sum_cong, sum-zero, sum_split, sum_trade, sum-++, sum-map}
pub mod Laid

length-segments_of : (n : ℕ) (l : List ℤ) → length (segments_of n l) ≡ n
unfolding segments_of
length-segments_of zero l = refl
length-segments_of (suc n) l = ap suc (length-segments_of n (drop width l))

pub length-segments : (l : List ℤ) → length (segments l) ≡ count l
unfolding segments
length-segments l = length-segments_of (count l) l

-- a loop that counts to n, which is `count`: below n is a place, and from n on there is none
pub count_inside : (l : List ℤ) {n k : ℕ} → n ≡ count l → k < n → k < length (segments l)
count_inside l e h = omega (arith, length-segments l)

pub count_past : (l : List ℤ) {n k : ℕ} → n ≡ count l → n ≤ k → length (segments l) ≤ k
count_past l e h = omega (arith, length-segments l)

segments_of-at : (n : ℕ) (l : List ℤ) (i : ℕ) → i < n → get_or (segments_of n l) i nowhere ≡ front (drop (i * width) l)
unfolding segments_of
segments_of-at zero l i h = absurd (omega arith)
segments_of-at (suc n) l zero h = refl
segments_of-at (suc n) l (suc i) h = segments_of-at n (drop width l) i (omega arith) ∙ ap front (drop-drop (i * width) width l ∙ ap (λ k. drop k l) by)
  where
    by : width + i * width ≡ suc i * width
    by = omega arith

pub segments-at : (l : List ℤ) (i : ℕ) → i < count l → segment_at (segments l) i ≡ front (drop (i * width) l)
unfolding segments segment_at
segments-at l i h = segments_of-at (count l) l i h

-- number k of the segment at place i
pub number_at : (l : List ℤ) (i k : ℕ) → get_or (drop (i * width) l) k (pos 0) ≡ get_or l (i * width + k) (pos 0)
number_at l i k = get_or-drop (i * width) l k (pos 0)

pub first-at : (l : List ℤ) (i : ℕ) → get_or (drop (i * width) l) 0 (pos 0) ≡ get_or l (i * width) (pos 0)
first-at l i = number_at l i 0 ∙ ap (λ k. get_or l k (pos 0)) (omega arith)

-- what stands at a place is one of the drawing's
pub segment_in : (d : Drawing) (i : ℕ) {s : Segment} → s ≡ segment_at d i → i < length d → s ∈ d
unfolding segment_at
segment_in d i e h = subst (λ (t : Segment). t ∈ d) (sym e) (in_at d nowhere i h)

-- what holds of every place holds of every segment
pub everywhere : (d : Drawing) (P : Segment → Type 0) → ((i : ℕ) → i < length d → P (segment_at d i)) → (s : Segment) → s ∈ d → P s
unfolding segment_at
everywhere d P h s m = let w = stands d nowhere s m in subst P w.is (h w.place w.inside)

pub past : (d : Drawing) (i : ℕ) → length d ≤ i → segment_at d i ≡ nowhere
unfolding segment_at
past d i h = get_or-eq_default d nowhere h

-- ---- sums of windings
pub only_bound : (b : Bool) (w : ℤ) {k : ℕ} → nat_abs w ≤ k → nat_abs (only b w) ≤ k
only_bound true w h = h
only_bound false w h = omega arith

pub only_cong : {a b : Bool} (w : ℤ) → a ≡ b → only a w ≡ only b w
only_cong w e = ap (λ (c : Bool). only c w) e

-- two tests that say the same as two others, in their order or crossed
pub straight : {a b c d : Bool} (w : ℤ) → a ≡ c → b ≡ d → only a w +ℤ only b w ≡ only c w +ℤ only d w
straight w p q = ap₂ ◌+ℤ◌ (only_cong w p) (only_cong w q)

pub crossed : {a b c d : Bool} (w : ℤ) → a ≡ d → b ≡ c → only a w +ℤ only b w ≡ only c w +ℤ only d w
crossed {c = c} {d = d} w p q = straight w p q ∙ +ℤ_comm (only d w) (only c w)

-- a test that says the same as one of two, where the other does not hold
pub first-only : {a b c : Bool} (w : ℤ) → a ≡ b → c ≡ false → only a w ≡ only b w +ℤ only c w
first-only {b = b} w p q = only_cong w p ∙ sym (+ℤ_idr (only b w)) ∙ ap (λ z. only b w +ℤ z) (only_cong w (sym q))

pub second_only : {a b c : Bool} (w : ℤ) → b ≡ false → a ≡ c → only a w ≡ only b w +ℤ only c w
second_only {c = c} w p q = only_cong w q ∙ sym (+ℤ_idl (only c w)) ∙ ap (λ z. z +ℤ only c w) (only_cong w (sym p))

pub only_both : (p q : Bool) (w : ℤ) → only p (only q w) ≡ only (p && q) w
only_both true q w = refl
only_both false q w = refl

module _ (d : Drawing) where
  pub total_cong : (P Q : Segment → Bool) → ((s : Segment) → s ∈ d → P s ≡ Q s) → total P d ≡ total Q d
  unfolding total
  total_cong P Q h = sum_cong d (λ s m. only_cong s.winding (h s m))

  -- segments altered, and a test that says the same of them
  pub total-map : (g : Segment → Segment) (P Q : Segment → Bool) → ((s : Segment) → only (P (g s)) (g s).winding ≡ only (Q s) s.winding) → total P (map g d) ≡ total Q d
  unfolding total
  total-map g P Q h = sum-map (λ s. only (P s) s.winding) g d ∙ sum_cong d (λ s m. h s)

  pub total-none : (P : Segment → Bool) → ((s : Segment) → s ∈ d → P s ≡ false) → total P d ≡ pos 0
  unfolding total
  total-none P h = sum-zero d (λ s m. only_cong s.winding (h s m))

  -- a test that is one of two others
  pub total_split : (P Q R : Segment → Bool) → ((s : Segment) → s ∈ d → (w : ℤ) → only (P s) w ≡ only (Q s) w +ℤ only (R s) w) → total P d ≡ total Q d +ℤ total R d
  unfolding total
  total_split P Q R h = sum_split (λ s. only (P s) s.winding) (λ s. only (Q s) s.winding) (λ s. only (R s) s.winding) d (λ s m. h s m s.winding)

  pub total_trade : (P Q P' Q' : Segment → Bool) → ((s : Segment) → s ∈ d → (w : ℤ) → only (P s) w +ℤ only (Q s) w ≡ only (P' s) w +ℤ only (Q' s) w)
      → total Q d ≡ total Q' d → total P d ≡ total P' d
  unfolding total
  total_trade P Q P' Q' h e =
      sum_trade (λ s. only (P s) s.winding) (λ s. only (Q s) s.winding) (λ s. only (P' s) s.winding) (λ s. only (Q' s) s.winding) d (λ s m. h s m s.winding) e

pub total-++ : (P : Segment → Bool) (l r : Drawing) → total P (l ++ r) ≡ total P l +ℤ total P r
unfolding total
total-++ P l r = sum-++ (λ s. only (P s) s.winding) l r
