-- The ordered lists of those that span a strip, from event to event. Places are of any type.
use mathlib.Core.Path.{◌≡◌, sym, ap, ◌∙◌}
use mathlib.Core.List.{List}
use mathlib.Core.Logic.{◌⊎◌, inl, inr}
use lib.IntN.{ℤ}
use lib.Signed.{◌≤ℤ◌, ◌<ℤ◌}
use Rattle.integers.proofs.Booleans.{clash}
use Rattle.integers.proofs.Linear.{ints}
use Rattle.integers.proofs.Order.{order}
use Rattle.segm.specs.declared.Segment.{Segment}
use Rattle.lists.specs.Members.{◌∈◌, Pairs}
use Rattle.lists.proofs.Members.{pairs_map, pairs_at}
use Rattle.strip.specs.Strip.{under, LowerNeighbour}
use Rattle.strip.proofs.Strip.Apart.{Apart, Wide, Over, over_wide, under_irrefl}
use Rattle.strip.proofs.Strip.Tiers.{Tier, tier_trans, neighbour_tier, ordered_apart}
use Rattle.lists.specs.Chain.{Chain}
use Rattle.lists.proofs.Chain.{chain_pairs}

-- l: in order, those places of d that span strip x
pub record StripList {A : Type 0} (seg : A → Segment) (d : List A) (x : ℤ) (l : List A) : Type 0 where
  pub chain : Chain (λ i j. LowerNeighbour (seg i) (seg j)) l
  pub mine : (i : A) → i ∈ l → (i ∈ d) × Over x (seg i)
  pub every : (i : A) → i ∈ d → Over x (seg i) → i ∈ l

module _ {A : Type 0} (seg : A → Segment) (d : List A) where
  -- in strip x every two are ordered
  abbrev pub Fine : ℤ → Type 0
  Fine x = (i j : A) → i ∈ d → j ∈ d → (i ≡ j → ⊥) → Over x (seg i) → Over x (seg j) → Tier x (seg i) (seg j) ⊎ Tier x (seg j) (seg i)

  -- nothing starts or ends strictly between x and y
  abbrev pub Quiet : ℤ → ℤ → Type 0
  Quiet x y = (i : A) → i ∈ d → (((seg i).a.x ≤ℤ x) ⊎ (y ≤ℤ (seg i).a.x)) × (((seg i).b.x ≤ℤ x) ⊎ (y ≤ℤ (seg i).b.x))

  pub strip_tiers : {x : ℤ} {l : List A} → StripList seg d x l → Pairs (λ i j. Tier x (seg i) (seg j)) l
  strip_tiers {x} {l} h = chain_pairs (λ i j. LowerNeighbour (seg i) (seg j)) l (λ i j m n r. neighbour_tier r (over i m) (over j n))
      (λ i j k m n o. tier_trans (over_wide (over i m)) (over_wide (over j n)) (over_wide (over k o))) h.chain
    where
      over : (i : A) → i ∈ l → Over x (seg i)
      over i m = (h.mine i m).1

  -- none stands twice
  pub strip_distinct : {x : ℤ} {l : List A} → StripList seg d x l → Pairs (λ i j. i ≡ j → ⊥) l
  strip_distinct {x} {l} h = pairs_map {R = λ i j. Tier x (seg i) (seg j)} l (λ i j m n t e. clash t.lower (ap (λ k. under x (seg i) (seg k)) (sym e) ∙ under_irrefl (seg i) x)) (strip_tiers h)

  pub strip_fine : {x : ℤ} {l : List A} → StripList seg d x l → Fine x
  strip_fine {x} {l} h i j m n ne oi oj = go (pairs_at (λ i j. Tier x (seg i) (seg j)) l (strip_tiers h) i j (h.every i m oi) (h.every j n oj))
    where
      go : (i ≡ j) ⊎ (Tier x (seg i) (seg j) ⊎ Tier x (seg j) (seg i)) → Tier x (seg i) (seg j) ⊎ Tier x (seg j) (seg i)
      go (inl e) = absurd (ne e)
      go (inr r) = r

  -- THEOREM: ordered in every strip, so no two that are not vertical meet wrongly
  pub fine_apart : ((x : ℤ) → Fine x) → (i j : A) → i ∈ d → j ∈ d → (i ≡ j → ⊥) → Wide (seg i) → Wide (seg j) → Apart (seg i) (seg j)
  fine_apart f i j m n ne wi wj = ordered_apart wi wj (λ x. f x i j m n ne)

  -- the list does not change where nothing starts or ends
  pub strip_on : {x y z : ℤ} {l : List A} → Quiet x y → StripList seg d x l → x ≤ℤ z → z <ℤ y → StripList seg d z l
  strip_on {x} {y} {z} q h xz zy = record {
    chain = h.chain;
    mine = λ i m. let (n, o) = h.mine i m in (n, record { from = let f = o.from in omega ints; to = later o.to (q i n).1 });
    every = λ i m o. h.every i m (record { from = earlier o.from (q i m).0; to = let t = o.to in omega ints });
  }
    where
      later : {b : ℤ} → x <ℤ b → (b ≤ℤ x) ⊎ (y ≤ℤ b) → z <ℤ b
      later l (inl m) = absurd (omega ints)
      later l (inr m) = omega ints

      earlier : {a : ℤ} → a ≤ℤ z → (a ≤ℤ x) ⊎ (y ≤ℤ a) → a ≤ℤ x
      earlier l (inl m) = m
      earlier l (inr m) = absurd (omega ints)

  -- at the next event y: those that end there go and those that start there come. Of the neighbours only the new ones want a test: `chain_out` and `chain_in`, one by one
  pub strip_next : {x y : ℤ} {l l' : List A} → Quiet x y → StripList seg d x l → x <ℤ y → Chain (λ i j. LowerNeighbour (seg i) (seg j)) l'
      → ((i : A) → i ∈ l' → (y <ℤ (seg i).b.x) × ((i ∈ l) ⊎ ((i ∈ d) × ((seg i).a.x ≡ y))))
      → ((i : A) → y <ℤ (seg i).b.x → (i ∈ l) ⊎ ((i ∈ d) × ((seg i).a.x ≡ y)) → i ∈ l')
      → StripList seg d y l'
  strip_next {x} {y} {l} {l'} q h xy c f g = record {
    chain = c;
    mine = λ i m. let (t, o) = f i m in old i t o;
    every = λ i m o. g i o.to (new i m o (q i m).0 (order (seg i).a.x y));
  }
    where
      old : (i : A) → y <ℤ (seg i).b.x → (i ∈ l) ⊎ ((i ∈ d) × ((seg i).a.x ≡ y)) → (i ∈ d) × Over y (seg i)
      old i t (inl m) = let (n, o) = h.mine i m in (n, record { from = let u = o.from in omega ints; to = t })
      old i t (inr m) = (m.0, record { from = let u = m.1 in omega ints; to = t })

      new : (i : A) → i ∈ d → Over y (seg i) → ((seg i).a.x ≤ℤ x) ⊎ (y ≤ℤ (seg i).a.x) → ((seg i).a.x <ℤ y) ⊎ (y ≤ℤ (seg i).a.x) → (i ∈ l) ⊎ ((i ∈ d) × ((seg i).a.x ≡ y))
      new i m o (inl a) s = inl (h.every i m (record { from = a; to = let t = o.to in omega ints }))
      new i m o (inr a) s = inr (m, let u = o.from in omega ints)

  -- ---- all before strip y is fine
  pub fine_start : {y : ℤ} → ((i : A) → i ∈ d → y ≤ℤ (seg i).a.x) → (z : ℤ) → z <ℤ y → Fine z
  fine_start f z l i j m n ne oi oj = absurd (let a = f i m in let b = oi.from in omega ints)

  pub fine_onward : {x y : ℤ} {l : List A} → ((z : ℤ) → z <ℤ x → Fine z) → StripList seg d x l → Quiet x y → (z : ℤ) → z <ℤ y → Fine z
  fine_onward {x} {y} f h q z zy = go (order z x)
    where
      go : (z <ℤ x) ⊎ (x ≤ℤ z) → Fine z
      go (inl l) = f z l
      go (inr l) = strip_fine (strip_on q h l zy)

  pub fine_finish : {y : ℤ} → ((z : ℤ) → z <ℤ y → Fine z) → ((i : A) → i ∈ d → (seg i).b.x ≤ℤ y) → (z : ℤ) → Fine z
  fine_finish {y} f e z = go (order z y)
    where
      go : (z <ℤ y) ⊎ (y ≤ℤ z) → Fine z
      go (inl l) = f z l
      go (inr l) = λ i j m n ne oi oj. absurd (let a = e i m in let b = oi.to in omega ints)
