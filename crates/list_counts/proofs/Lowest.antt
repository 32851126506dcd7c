-- The lowest segments of a strip, as a list of places: their windings add up to the top count of the last of them.
use mathlib.Core.Path.{◌≡◌, refl, sym, ◌∙◌, ap, ap₂, subst}
use mathlib.Core.List.{List, [], ◌∷◌, ◌++◌}
use mathlib.Core.Logic.{◌⊎◌, inl, inr}
use mathlib.Core.Bool.{Bool, true, false, ◌&&◌}
use Prim.Native.Nat.{ℕ, ◌<◌, ◌≤◌}
use native.Mathlib.Omega.{arith}
use native.Mathlib.Decide.{dec_lt}
use lib.ListN.{length}
use lib.IntN.{ℤ, ◌+ℤ◌}
use Rattle.integers.proofs.Booleans.{both, both_l, both_r, not_r, clash, is_false, same_test}
use Rattle.segm.specs.declared.Segment.{Segment}
use Rattle.lists.specs.Members.{◌∈◌, Pairs}
use Rattle.lists.specs.Sums.{only}
use Rattle.segm.specs.Segments.{Drawing, segment_at, total}
use Rattle.segm.proofs.Segments.{segment_in, everywhere, first-only, second_only, total-none, total_split}
use Rattle.lists.proofs.Members.{in-++, in_left, in_right}
use Rattle.meetings.specs.Meetings.{same_ends}
use Rattle.checks.specs.Accepted.{Good}
use Rattle.strip.specs.Strip.{spans, under}
use Rattle.strip.proofs.Strip.Apart.{Apart, Over, over_wide, under_irrefl, same_ends_off, same_ends_on}
use Rattle.strip.proofs.Strip.Above.{spans_on, spans-over}
use Rattle.strip.proofs.Strip.Tiers.{Tier}
use Rattle.count_up.specs.CountUp.{OpenAt, last_of}
use Rattle.count_up.proofs.CountUp.{open_over, open_tiers, last_of_lem}
use Rattle.ray.specs.Ray.{top}
use Rattle.ray.proofs.Ray.{once, bottom_strip}
use Rattle.ray.proofs.Invariance.{one_or_apart, beneath, invariance}
use Rattle.list_counts.specs.ListCounts.{top_at}

-- ---- lists
-- every two of both parts, and one of each
pub pairs_parts : {A : Type 0} (R : A → A → Type 0) (l m : List A) → Pairs R (l ++ m) → Pairs R l × ((x y : A) → x ∈ l → y ∈ m → R x y) × Pairs R m
pairs_parts R [] m p = (tt, λ x y k n. absurd k, p)
pairs_parts {A} R (z ∷ l) m p = let (q, r, u) = pairs_parts R l m p.1 in ((λ y n. p.0 y (in_left y l m n), q), across r, u)
  where
    across : ((x y : A) → x ∈ l → y ∈ m → R x y) → (x y : A) → (x ≡ z) ⊎ (x ∈ l) → y ∈ m → R x y
    across r x y (inl e) n = subst (λ w. R w y) (sym e) (p.0 y (in_right y l m n))
    across r x y (inr k) n = r x y k n

-- a list is empty, or something and a last one
data Back {A : Type 0} : List A → Type 0 where
  none : Back []
  last : (l : List A) (x : A) → Back (l ++ (x ∷ []))

back : {A : Type 0} (l : List A) → Back l
back [] = none
back {A} (x ∷ l) = go (back l)
  where
    go : {m : List A} → Back m → Back (x ∷ m)
    go none = last [] x
    go (last m y) = last (x ∷ m) y

-- ---- in strip x
-- low: in order, those that span the strip and pass a test. The test goes down: what is lower than one that passes, passes
pub record Lowest (d : Drawing) (x : ℤ) (P : Segment → Bool) (low : List ℕ) : Type 0 where
  pub order : Pairs (λ i j. Tier x (segment_at d i) (segment_at d j)) low
  pub mine : (i : ℕ) → i ∈ low → (i < length d) × Over x (segment_at d i) × (P (segment_at d i) ≡ true)
  pub every : (i : ℕ) → i < length d → Over x (segment_at d i) → P (segment_at d i) ≡ true → i ∈ low
  pub down : (s t : Segment) → Over x s → Over x t → under x s t ≡ true → P t ≡ true → P s ≡ true

module _ {d : Drawing} (g : Good d) {x : ℤ} {P : Segment → Bool} where
  -- the last of them, and what is lower than it
  up_to : (l : List ℕ) (h : ℕ) → Lowest d x P (l ++ (h ∷ [])) → total (λ s. spans s x && P s) d ≡ top_at d h
  unfolding top beneath
  up_to l h r =
      total_split d (λ s. spans s x && P s) (λ s. spans s x && under x s t) (λ s. same_ends s t) (λ s m w. part s m w (one_or_apart g s t m known))
      ∙ ap₂ ◌+ℤ◌ (invariance g t known x is.1 ∙ sym (bottom_strip g t known (over_wide is.1))) (once g t known)
    where
      t : Segment
      t = segment_at d h

      is : (h < length d) × Over x t × (P t ≡ true)
      is = r.mine h (in_right h l (h ∷ []) (inl refl))

      known : t ∈ d
      known = segment_in d h refl is.0

      lower : (i : ℕ) → i < length d → Apart (segment_at d i) t → (spans (segment_at d i) x && P (segment_at d i)) ≡ true → (spans (segment_at d i) x && under x (segment_at d i) t) ≡ true
      lower i u k p = let o = both_l (spans (segment_at d i) x) (P (segment_at d i)) p in both o (go (in-++ i l (h ∷ []) (r.every i u (spans-over o) (both_r (spans (segment_at d i) x) (P (segment_at d i)) p))))
        where
          go : (i ∈ l) ⊎ ((i ≡ h) ⊎ ⊥) → under x (segment_at d i) t ≡ true
          go (inl m) = ((pairs_parts (λ i j. Tier x (segment_at d i) (segment_at d j)) l (h ∷ []) r.order).1 i h m (inl refl)).lower
          go (inr (inl e)) = absurd (k.same (ap (λ (n : ℕ). (segment_at d n).a) e) (ap (λ (n : ℕ). (segment_at d n).b) e))
          go (inr (inr m)) = absurd m

      part : (s : Segment) → s ∈ d → (w : ℤ) → (s ≡ t) ⊎ Apart s t → only (spans s x && P s) w ≡ only (spans s x && under x s t) w +ℤ only (same_ends s t) w
      part s m w (inl e) = subst (λ u. only (spans u x && P u) w ≡ only (spans u x && under x u t) w +ℤ only (same_ends u t) w) (sym e)
          (second_only w (not_r (spans t x) (under_irrefl t x)) (both (spans_on is.1) is.2 ∙ sym (same_ends_on t)))
      part s m w (inr k) = first-only w
          (same_test (spans s x && P s) (spans s x && under x s t) (everywhere d (λ s. Apart s t → (spans s x && P s) ≡ true → (spans s x && under x s t) ≡ true) lower s m k)
          (λ u. let o = both_l (spans s x) (under x s t) u in both o (r.down s t (spans-over o) is.1 (both_r (spans s x) (under x s t) u) is.2)))
          (same_ends_off k)

  -- THEOREM
  pub total_lowest : {low : List ℕ} → Lowest d x P low → total (λ s. spans s x && P s) d ≡ last_of (top_at d) low
  unfolding last_of
  total_lowest {low} r = go (back low) r
    where
      go : {l : List ℕ} → Back l → Lowest d x P l → total (λ s. spans s x && P s) d ≡ last_of (top_at d) l
      go none r = total-none d (λ s. spans s x && P s) (everywhere d (λ s. (spans s x && P s) ≡ false)
          (λ i u. let s = segment_at d i in is_false (spans s x && P s) (λ t. absurd (r.every i u (spans-over (both_l (spans s x) (P s) t)) (both_r (spans s x) (P s) t)))))
      go (last l h) r = up_to l h r ∙ sym (last_of_lem (top_at d) l h)

-- of a list in which m places have entered: those that pass, where none that is still to come does
pub open_lowest : {d : Drawing} {m : ℕ} {x : ℤ} (P : Segment → Bool) (low high : List ℕ) → m ≤ length d → OpenAt d m x (low ++ high)
    → ((i : ℕ) → i ∈ low → P (segment_at d i) ≡ true) → ((i : ℕ) → i ∈ high → P (segment_at d i) ≡ false)
    → ((i : ℕ) → m ≤ i → i < length d → Over x (segment_at d i) → P (segment_at d i) ≡ false)
    → ((s t : Segment) → Over x s → Over x t → under x s t ≡ true → P t ≡ true → P s ≡ true) → Lowest d x P low
open_lowest {d} {m} {x} P low high few h yes-low no-high no-later down = record {
  order = (pairs_parts (λ i j. Tier x (segment_at d i) (segment_at d j)) low high (open_tiers h)).0;
  mine = λ i n. let k = in_left i low high n in (let b = (h.mine i k).0 in omega arith, open_over h i k, yes-low i n);
  every = λ i u o p. go i o p u (dec_lt i m);
  down = down;
}
  where
    go : (i : ℕ) → Over x (segment_at d i) → P (segment_at d i) ≡ true → i < length d → Dec (i < m) → i ∈ low
    go i o p u (no k) = absurd (clash p (no-later i (omega arith) u o))
    go i o p u (yes k) = part (in-++ i low high (h.every i k (spans_on o)))
      where
        part : (i ∈ low) ⊎ (i ∈ high) → i ∈ low
        part (inl n) = n
        part (inr n) = absurd (clash p (no-high i n))
