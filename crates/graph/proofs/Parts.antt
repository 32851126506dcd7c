-- In a list of ends that rises by their points P, those at one point stand together: those before it in front of them, those after it behind them.
use mathlib.Core.Path.{◌≡◌, refl, sym, ap, ap₂, subst, ◌∙◌}
use mathlib.Core.List.{List, [], ◌++◌, append-nil}
use mathlib.Core.Logic.{◌⊎◌, inl, inr}
use mathlib.Core.Bool.{Bool, true, false}
use Prim.Native.Nat.{ℕ, suc, ◌+◌, ◌-◌, ◌<◌, ◌≤◌}
use native.Mathlib.Omega.{arith}
use native.Mathlib.Decide.{dec_le}
use lib.ListN.{length, get_or, take, drop, length-take, take-append-drop, drop_of_length-le}
use lib.Seq.{take-add, drop-drop, drop-cons, get_or-take}
use Rattle.integers.proofs.Booleans.{clash, dec}
use Rattle.geom.specs.declared.Point.{Point}
use Rattle.geom.specs.Points.{lt_p, eq_p}
use Rattle.geom.proofs.Points.{eq_eq_p, ne_eq_p, lt_p_trans, lt_p_irrefl, lt_p_antisym, not_less_trans}
use Rattle.lists.specs.Members.{◌∈◌, Pairs, keep}
use Rattle.lists.proofs.Members.{in_at, in_take, in_after, pairs_places, stands, cases, in_right, keep-++, keep_all, keep_none}

-- a test that is not false
is_true : (b : Bool) → (b ≡ false → ⊥) → b ≡ true
is_true b f = cases (λ e. e) (λ e. absurd (f e)) (dec b)

not_equal : {p q : Point} → lt_p p q ≡ true → p ≡ q → ⊥
not_equal {p} {q} h e = clash h (ap (λ (r : Point). lt_p p r) (sym e) ∙ lt_p_irrefl p)

module _ (P : ℕ → Point) (E : List ℕ) where
  -- the point of the end at place i
  abbrev pub point_at : ℕ → Point
  point_at i = P (get_or E i 0)

  -- the ends before p are the first a
  pub record Begins (p : Point) (a : ℕ) : Type 0 where
    pub inside : a ≤ length E
    pub before : (x : ℕ) → x ∈ take a E → lt_p (P x) p ≡ true
    pub rest : (x : ℕ) → x ∈ drop a E → lt_p (P x) p ≡ false

  -- the ends after p are those from place b on
  pub record Stops (p : Point) (b : ℕ) : Type 0 where
    pub inside : b ≤ length E
    pub before_it : (x : ℕ) → x ∈ take b E → lt_p p (P x) ≡ false
    pub after : (x : ℕ) → x ∈ drop b E → lt_p p (P x) ≡ true

  module _ {p : Point} {a b : ℕ} (f : Begins p a) (t : Stops p b) where
    pub begins-first : a ≤ b
    begins-first = go (dec_le a b)
      where
        go : Dec (a ≤ b) → a ≤ b
        go (yes h) = h
        go (no h) =
            let short : b < length (take a E) = omega (arith, length-take a E, f.inside) in
            let front : get_or E b 0 ∈ take a E = subst (λ x. x ∈ take a E) (get_or-take a E b 0 (omega arith)) (in_at (take a E) 0 b short) in
            let back : get_or E b 0 ∈ drop b E = subst (λ (l : List ℕ). get_or E b 0 ∈ l) (sym (drop-cons E b 0 (omega (arith, f.inside)))) (inl refl) in
            absurd (clash (lt_p_trans p (point_at b) p (t.after _ back) (f.before _ front)) (lt_p_irrefl p))

    abbrev middle : List ℕ
    middle = take (b - a) (drop a E)

    up : a + (b - a) ≡ b
    up = omega (arith, begins-first)

    all : E ≡ take a E ++ (middle ++ drop b E)
    all = sym (take-append-drop a E) ∙ ap (take a E ++◌) (sym (take-append-drop (b - a) (drop a E)) ∙ ap (middle ++◌) (drop-drop (b - a) a E ∙ ap (λ k. drop k E) up))

    in_front : (x : ℕ) → x ∈ middle → x ∈ take b E
    in_front x m = subst (λ (l : List ℕ). x ∈ l) (sym (take-add a (b - a) E) ∙ ap (λ k. take k E) up) (in_right x (take a E) middle m)

    pub together : middle ≡ keep (λ x. eq_p (P x) p) E
    together =
        let T : ℕ → Bool = λ x. eq_p (P x) p in
        let none : keep T (take a E) ≡ [] = keep_none T (take a E) (λ x m. ne_eq_p (not_equal (f.before x m))) in
        let here : keep T middle ≡ middle = keep_all T middle (λ x m. eq_eq_p (lt_p_antisym (f.rest x (in_take (b - a) (drop a E) x m)) (t.before_it x (in_front x m)))) in
        let past : keep T (drop b E) ≡ [] = keep_none T (drop b E) (λ x m. ne_eq_p (λ e. not_equal (t.after x m) (sym e))) in
        sym (ap (keep T) all ∙ keep-++ T (take a E) (middle ++ drop b E) ∙ ap₂ ◌++◌ none (keep-++ T middle (drop b E) ∙ ap₂ ◌++◌ here past) ∙ append-nil middle)

  module _ (rises : Pairs (λ x y. lt_p (P y) (P x) ≡ false) E) where
    pub not_less : (q i : ℕ) → q ≤ i → i < length E → lt_p (point_at i) (point_at q) ≡ false
    not_less q i h k = go (dec_le (suc q) i)
      where
        go : Dec (suc q ≤ i) → lt_p (point_at i) (point_at q) ≡ false
        go (yes l) = pairs_places (λ x y. lt_p (P y) (P x) ≡ false) E 0 rises q (omega arith) (get_or E i 0) (in_after E 0 q i l k)
        go (no l) = let e : q ≡ i = omega arith in ap (λ j. lt_p (point_at i) (point_at j)) e ∙ lt_p_irrefl (point_at i)

    -- not less than the end at i: those from there on
    from : (i x : ℕ) → i < length E → x ∈ drop i E → lt_p (P x) (point_at i) ≡ false
    from i x h m = go (subst (λ (l : List ℕ). x ∈ l) (drop-cons E i 0 h) m)
      where
        go : (x ≡ get_or E i 0) ⊎ (x ∈ drop (suc i) E) → lt_p (P x) (point_at i) ≡ false
        go (inl e) = ap (λ y. lt_p (P y) (point_at i)) e ∙ lt_p_irrefl (point_at i)
        go (inr n) = pairs_places (λ y z. lt_p (P z) (P y) ≡ false) E 0 rises i h x n

    -- the first i, by place
    among : (i x : ℕ) → i ≤ length E → x ∈ take i E → (q : ℕ) × (q < i) × (P x ≡ point_at q)
    among i x h m =
        let s = stands (take i E) 0 x m in
        let k : s.place < i = omega (arith, s.inside, length-take i E) in
        (s.place, k, ap P (sym s.is ∙ get_or-take i E s.place 0 k))

    pub begins : (i : ℕ) → i < length E → (0 < i → lt_p (point_at (i - 1)) (point_at i) ≡ true) → Begins (point_at i) i
    begins i h cut = record { inside = omega arith; before = λ x m. less x (among i x (omega arith) m); rest = λ x m. from i x h m }
      where
        less : (x : ℕ) → (q : ℕ) × (q < i) × (P x ≡ point_at q) → lt_p (P x) (point_at i) ≡ true
        less x (q, k, e) =
            ap (λ (r : Point). lt_p r (point_at i)) e
            ∙ is_true (lt_p (point_at q) (point_at i)) (λ n. clash (cut (omega arith)) (not_less_trans (point_at i) (point_at q) (point_at (i - 1)) n (not_less q (i - 1) (omega arith) (omega arith))))

    pub stops : (i : ℕ) → 0 < i → i ≤ length E → (i < length E → lt_p (point_at (i - 1)) (point_at i) ≡ true) → Stops (point_at (i - 1)) i
    stops i h k cut = record { inside = k; before_it = λ x m. not_more x (among i x k m); after = λ x m. more x m (dec_le (suc i) (length E)) }
      where
        not_more : (x : ℕ) → (q : ℕ) × (q < i) × (P x ≡ point_at q) → lt_p (point_at (i - 1)) (P x) ≡ false
        not_more x (q, l, e) = ap (lt_p (point_at (i - 1))) e ∙ not_less q (i - 1) (omega arith) (omega arith)

        more : (x : ℕ) → x ∈ drop i E → Dec (i < length E) → lt_p (point_at (i - 1)) (P x) ≡ true
        more x m (yes l) = is_true (lt_p (point_at (i - 1)) (P x)) (λ n. clash (cut l) (not_less_trans (point_at i) (P x) (point_at (i - 1)) (from i x l m) n))
        more x m (no l) = absurd (subst (λ (r : List ℕ). x ∈ r) (drop_of_length-le E {i = i} (omega arith)) m)
