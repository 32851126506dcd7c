-- Where each bottom count is a first count with the windings of those before it, the differences of a rule over top and bottom add up to one difference.
use mathlib.Core.Path.{◌≡◌, refl, sym, ◌∙◌, ap, ap₂}
use mathlib.Core.List.{List, [], ◌∷◌}
use mathlib.Core.Logic.{inl, inr}
use mathlib.Core.Bool.{Bool, true, false, ◌&&◌}
use lib.IntN.{ℤ, pos, ◌+ℤ◌, ◌-ℤ◌, +ℤ_idr, +ℤ_assoc}
use Rattle.integers.proofs.Booleans.{clash, is_false}
use Rattle.integers.proofs.Ring.{con, ◌⊞◌, ◌⊟◌, ◌≐◌, ring2, ring3}
use Rattle.segm.specs.declared.Segment.{Segment}
use Rattle.lists.specs.Members.{◌∈◌, Pairs, keep}
use Rattle.lists.specs.Sums.{sum, only}
use Rattle.segm.specs.Segments.{Drawing, total}
use Rattle.lists.proofs.Sums.{sum_cong, sum-zero, keep_sum}
use Rattle.lists.proofs.Members.{keep_in}
use Rattle.segm.proofs.Segments.{only_cong, only_both}
use Rattle.ray.proofs.Sorting.{sort, Ordered, Either, Chains, sorted, sort_sum, sort_in}

chain : (a b c : ℤ) → (b -ℤ a) +ℤ (c -ℤ b) ≡ c -ℤ a
chain = ring3 (λ a b c. (b ⊟ a) ⊞ (c ⊟ b) ≐ c ⊟ a) tt

gone : (a b : ℤ) → a -ℤ a ≡ pos 0
gone = ring2 (λ a b. a ⊟ a ≐ con (pos 0)) tt

-- the rule's change over s
unfoldable pub change : (ℤ → ℤ) → (Segment → ℤ) → Segment → ℤ
change f β s = f (β s +ℤ s.winding) -ℤ f (β s)

module _ (lt : Segment → Segment → Bool) (asym : (s t : Segment) → lt s t ≡ true → lt t s ≡ false) (f : ℤ → ℤ) (β : Segment → ℤ) where
  before : Segment → List Segment → ℤ
  before s v = sum (λ t. only (lt t s) t.winding) v

  in_order : (v : List Segment) (c : ℤ) → Pairs (Ordered lt) v → ((s : Segment) → s ∈ v → β s ≡ c +ℤ before s v) → sum (change f β) v ≡ f (c +ℤ sum (λ t. t.winding) v) -ℤ f c
  unfolding sum before change
  in_order [] c p h = sym (ap (λ z. f z -ℤ f c) (+ℤ_idr c) ∙ gone (f c) c)
  in_order (s ∷ v) c p h =
      ap₂ ◌+ℤ◌ (ap (λ z. f (z +ℤ s.winding) -ℤ f z) first) (in_order v (c +ℤ s.winding) p.1 others)
      ∙ chain (f c) (f (c +ℤ s.winding)) (f ((c +ℤ s.winding) +ℤ sum (λ t. t.winding) v))
      ∙ ap (λ z. f z -ℤ f c) (+ℤ_assoc c s.winding (sum (λ t. t.winding) v))
    where
      first : β s ≡ c
      first = h s (inl refl)
          ∙ ap (λ z. c +ℤ z) (ap₂ ◌+ℤ◌ (only_cong s.winding (is_false (lt s s) (λ e. clash e (asym s s e)))) (sum-zero v (λ t m. only_cong t.winding (asym s t (p.0 t m)))))
          ∙ +ℤ_idr c

      others : (u : Segment) → u ∈ v → β u ≡ (c +ℤ s.winding) +ℤ sum (λ t. only (lt t u) t.winding) v
      others u m = h u (inr m)
          ∙ ap (λ z. c +ℤ (z +ℤ sum (λ t. only (lt t u) t.winding) v)) (only_cong s.winding (p.0 u m))
          ∙ sym (+ℤ_assoc c s.winding (sum (λ t. only (lt t u) t.winding) v))

  pub telescope : (d : Drawing) (P : Segment → Bool) (c : ℤ) → Pairs (Either lt) (keep P d) → Chains lt (keep P d)
      → ((s : Segment) → s ∈ d → P s ≡ true → β s ≡ c +ℤ total (λ t. P t && lt t s) d)
      → sum (λ s. only (P s) (change f β s)) d ≡ f (c +ℤ total P d) -ℤ f c
  unfolding total before
  telescope d P c e ch h =
      sym (over (change f β)) ∙ in_order (sort lt (keep P d)) c (sorted lt (keep P d) e ch) (λ s m. let k = keep_in P s d (sort_in lt s (keep P d) m) in h s k.0 k.1 ∙ ap (λ z. c +ℤ z) (inner s))
      ∙ ap (λ z. f (c +ℤ z) -ℤ f c) (over (λ t. t.winding))
    where
      over : (k : Segment → ℤ) → sum k (sort lt (keep P d)) ≡ sum (λ s. only (P s) (k s)) d
      over k = sort_sum lt k (keep P d) ∙ keep_sum P k d

      inner : (s : Segment) → sum (λ t. only (P t && lt t s) t.winding) d ≡ sum (λ t. only (lt t s) t.winding) (sort lt (keep P d))
      inner s = sum_cong d (λ t m. sym (only_both (P t) (lt t s) t.winding)) ∙ sym (over (λ t. only (lt t s) t.winding))
