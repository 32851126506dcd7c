-- A list turned round in place, from both ends to the middle.
use mathlib.Core.Path.{◌≡◌, refl, sym, ◌∙◌, ap, ap₂, subst}
use mathlib.Core.List.{List, [], ◌∷◌, ◌++◌, reverse, append_assoc, append-nil, reverse-cons, reverse-append}
use Prim.Native.Nat.{ℕ, ◌+◌, ◌*◌, ◌/◌, ◌<◌, ◌≤◌}
use native.Mathlib.Omega.{arith}
use lib.ListN.{length, get_or, set, length-append}
use lib.Seq.{append_snoc, set_at, get_or_at}
use lib.IntN.{ℤ}
use Rattle.geom.specs.declared.Point.{Point}
use Rattle.contour.specs.Points.{pair_up, origin}
use Rattle.contour.proofs.Points.Coordinates.{length_pairs, pairs_set}

module _ {A : Type 0} where
  -- places i and j exchanged
  abbrev pub swapped : List A → A → ℕ → ℕ → List A
  swapped l d i j = set (set l i (get_or l j d)) j (get_or l i d)

  swap_ends : (e m z : List A) (x y d : A) (i j : ℕ) → length e ≡ i → length (e ++ (x ∷ m)) ≡ j
      → swapped (e ++ (x ∷ (m ++ (y ∷ z)))) d i j ≡ e ++ (y ∷ (m ++ (x ∷ z)))
  swap_ends e m z x y d i j p q =
      let cut : (a b : A) → (e ++ (a ∷ m)) ++ (b ∷ z) ≡ e ++ (a ∷ (m ++ (b ∷ z))) = λ a b. append_assoc e (a ∷ m) (b ∷ z) in
      let q' : length (e ++ (y ∷ m)) ≡ j = length-append e (y ∷ m) ∙ sym (length-append e (x ∷ m)) ∙ q in
      let last : get_or (e ++ (x ∷ (m ++ (y ∷ z)))) j d ≡ y = ap (λ (l : List A). get_or l j d) (sym (cut x y)) ∙ get_or_at (e ++ (x ∷ m)) y z d j q in
      rw (last, get_or_at e x (m ++ (y ∷ z)) d i p, set_at e x (m ++ (y ∷ z)) y i p)
      (ap (λ (l : List A). set l j x) (sym (cut y y)) ∙ set_at (e ++ (y ∷ m)) y z x j q' ∙ cut y x)

  -- its first and last apart, a list of two or more
  record Ends (l : List A) : Type 0 where
    first : A
    inner : List A
    last : A
    is : l ≡ first ∷ (inner ++ (last ∷ []))

  ends : (x y : A) (l : List A) → Ends (x ∷ y ∷ l)
  ends x y [] = record { first = x; inner = []; last = y; is = refl }
  ends x y (z ∷ l) = let r = ends y z l in record { first = x; inner = r.first ∷ r.inner; last = r.last; is = ap (x ∷◌) r.is }

  ends_of : (l : List A) → 1 < length l → Ends l
  ends_of [] h = absurd (omega arith)
  ends_of (x ∷ []) h = absurd (omega arith)
  ends_of (x ∷ y ∷ l) h = ends x y l

  reverse_ends : (x y : A) (m : List A) → reverse (x ∷ (m ++ (y ∷ []))) ≡ y ∷ (reverse m ++ (x ∷ []))
  reverse_ends x y m = reverse-cons x (m ++ (y ∷ [])) ∙ ap (λ (l : List A). l ++ (x ∷ [])) (reverse-append m (y ∷ []))

  reverse_short : (l : List A) → length l ≤ 1 → reverse l ≡ l
  reverse_short [] h = refl
  reverse_short (x ∷ []) h = refl
  reverse_short (x ∷ y ∷ l) h = absurd (omega arith)

  -- the list is the goal but for a middle, still to be turned round, i places from either end
  pub record Turned (l goal : List A) (i : ℕ) : Type 0 where
    front : List A
    middle : List A
    back : List A
    now : l ≡ front ++ (middle ++ back)
    then : goal ≡ front ++ (reverse middle ++ back)
    before : length front ≡ i
    after : length back ≡ i

  pub turned_start : (l : List A) → Turned l (reverse l) 0
  turned_start l = record { front = []; middle = l; back = []; now = sym (append-nil l); then = sym (append-nil (reverse l)); before = refl; after = refl }

  room : {l goal : List A} {i : ℕ} (t : Turned l goal i) → length l ≡ i + (length t.middle + i)
  room t = omega (arith, ap length t.now, length-append t.front (t.middle ++ t.back), length-append t.middle t.back, t.before, t.after)

  pub turned_step : {l goal : List A} {i : ℕ} (d : A) (j : ℕ) → 2 * i + 1 < length l → i + j + 1 ≡ length l → Turned l goal i → Turned (swapped l d i j) goal (i + 1)
  turned_step {l} {goal} {i} d j h k t =
      let n = room t in
      let r = ends_of t.middle (omega arith) in
      let x = r.first in
      let m = r.inner in
      let y = r.last in
      let now : l ≡ t.front ++ (x ∷ (m ++ (y ∷ t.back))) = t.now ∙ ap (λ (l : List A). t.front ++ (l ++ t.back)) r.is ∙ ap (λ (l : List A). t.front ++ (x ∷ l)) (append_assoc m (y ∷ []) t.back) in
      let at_j : length (t.front ++ (x ∷ m)) ≡ j = omega (arith, length-append t.front (x ∷ m), t.before, ap length r.is, length-append m (y ∷ [])) in
      record {
        front = t.front ++ (y ∷ []);
        middle = m;
        back = x ∷ t.back;
        now = ap (λ (l : List A). swapped l d i j) now ∙ swap_ends t.front m t.back x y d i j t.before at_j ∙ sym (append_snoc t.front y (m ++ (x ∷ t.back)));
        then = t.then ∙ ap (λ (l : List A). t.front ++ (l ++ t.back)) (ap reverse r.is ∙ reverse_ends x y m)
            ∙ ap (λ (l : List A). t.front ++ (y ∷ l)) (append_assoc (reverse m) (x ∷ []) t.back) ∙ sym (append_snoc t.front y (reverse m ++ (x ∷ t.back)));
        before = omega (arith, length-append t.front (y ∷ []), t.before);
        after = omega (arith, t.after);
      }

  pub turned_end : {l goal : List A} {i : ℕ} → length l ≤ 2 * i + 1 → Turned l goal i → l ≡ goal
  turned_end h t =
      let n = room t in
      t.now ∙ ap (λ (l : List A). t.front ++ (l ++ t.back)) (sym (reverse_short t.middle (omega arith))) ∙ sym t.then

-- points i and j exchanged, as the code stores them
pub turned_points : {goal : List Point} {i : ℕ} (l l' l'' : List ℤ) (p q : Point) (j : ℕ) → 2 * i + 1 < length l / 2 → i + j + 1 ≡ length l / 2
    → p ≡ get_or (pair_up l) i origin → q ≡ get_or (pair_up l) j origin
    → l' ≡ set (set l (2 * i) q.x) (2 * i + 1) q.y → l'' ≡ set (set l' (2 * j) p.x) (2 * j + 1) p.y
    → Turned (pair_up l) goal i → Turned (pair_up l'') goal (i + 1)
turned_points {goal} {i} l l' l'' p q j h k ep eq first second t =
    let swap : swapped (pair_up l) origin i j ≡ pair_up l'' =
    sym (ap pair_up second ∙ pairs_set l' j p ∙ ap₂ (λ (m : List Point) (r : Point). set m j r) (ap pair_up first ∙ pairs_set l i q ∙ ap (set (pair_up l) i) eq) ep) in
    subst (λ (m : List Point). Turned m goal (i + 1)) swap (turned_step origin j (omega (arith, length_pairs l)) (omega (arith, length_pairs l)) t)
