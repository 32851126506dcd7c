-- The drawn line directions: no two are the same step, the kept links split them, and a run's steps are those of its kept links.
use mathlib.Core.Path.{◌≡◌, refl, sym, ◌∙◌, ap, subst}
use mathlib.Core.List.{List, [], ◌∷◌}
use mathlib.Core.Logic.{◌⊎◌, inl, inr}
use mathlib.Core.Bool.{Bool, true, false, not, ◌&&◌, ◌||◌, cond, true≢false}
use Prim.Native.Nat.{ℕ, ◌+◌, ◌%◌}
use native.Mathlib.Omega.{arith}
use lib.Dec.{eqb}
use lib.IntN.{ℤ, pos, nat_abs}
use borrow.Author.Tests.{ne_eqb}
use Rattle.integers.proofs.Booleans.{both, both_l, both_r, clash, is_false}
use Rattle.geom.specs.Points.{eq_z, lt_p, eq_p}
use Rattle.geom.proofs.Points.{eq_p-true, eq_eq_p, lt_p_asym}
use Rattle.segm.specs.declared.Segment.{Segment}
use Rattle.lists.specs.Members.{◌∈◌, Pairs, keep}
use Rattle.lists.specs.Sums.{tally, one}
use Rattle.segm.specs.Segments.{Drawing}
use Rattle.lists.proofs.Members.{cases}
use Rattle.lists.proofs.Sums.{tally_nil}
use Rattle.meetings.specs.Meetings.{same_ends}
use Rattle.fill_rule.specs.declared.Rule.{Rule}
use Rattle.build.specs.declared.filter.Filter.{Filter}
use Rattle.build.specs.declared.filter.Filter.TheVariants.{InsideIncluded, InsideExcluded, OutsideIncluded, OutsideExcluded}
use Rattle.fill_rule.specs.FillRule.{filled}
use Rattle.ray.specs.Ray.{bottom, top, fill}
use Rattle.build.specs.Links.{sides_set, keeps_sides, keeps, filter_of, kept_links}
use Rattle.ray.proofs.Fills.{fill-top, fill-bottom, fill_lines}
use Rattle.moves.specs.Bits.{has}
use Rattle.moves.specs.Steps.{Step, as_drawn, AllRise}
use Rattle.moves.specs.Worth.{worth}
use Rattle.moves.proofs.Bits.{none-set}
use Rattle.clip_walk.specs.Walk.{line_bits}
use Rattle.clip_paths.specs.Paths.{clip_paths, steps_of}
use Rattle.clip_claim.specs.Claim.{Direction, along, put_if, drawn, travelled, same, enough, ray_keeps}
use Rattle.clip_paths.proofs.Paths.Steps.{walk_steps}
use Rattle.clip_paths.proofs.Writing.Found.{kept_proper}

-- ---- the test `same`
pub same_true : (σ τ : Step) → same σ τ ≡ true → σ ≡ τ
unfolding same
same_true σ τ e = λ i. record { start = eq_p-true (both_l (eq_p σ.start τ.start) (eq_p σ.end τ.end) e) i; end = eq_p-true (both_r (eq_p σ.start τ.start) (eq_p σ.end τ.end) e) i }

pub same_refl : (σ : Step) → same σ σ ≡ true
unfolding same
same_refl σ = both (eq_eq_p refl) (eq_eq_p refl)

-- ---- x before l if b
module _ {A : Type 0} where
  tally_put_if : (f : A → ℕ) (b : Bool) (x : A) (l : List A) → tally f (put_if b x l) ≡ cond b (f x) 0 + tally f l
  unfolding tally
  tally_put_if f true x l = refl
  tally_put_if f false x l = omega arith

  in_put_if : (b : Bool) (x y : A) (l : List A) → y ∈ put_if b x l → ((y ≡ x) × (b ≡ true)) ⊎ (y ∈ l)
  in_put_if true x y l (inl e) = inl (e, refl)
  in_put_if true x y l (inr m) = inr m
  in_put_if false x y l m = inr m

  pairs_put_if : (R : A → A → Type 0) (b : Bool) (x : A) (l : List A) → ((y : A) → y ∈ l → R x y) → Pairs R l → Pairs R (put_if b x l)
  pairs_put_if R true x l h p = (h, p)
  pairs_put_if R false x l h p = p

-- ---- no two directions are the same step
-- two with the same step go the same way over the same ends
opposite : (s t : Segment) → lt_p s.a s.b ≡ true → lt_p t.a t.b ≡ true → s.a ≡ t.b → s.b ≡ t.a → ⊥
opposite s t h k e f = clash (subst (λ p. lt_p p s.a ≡ true) (sym f) (subst (λ p. lt_p t.a p ≡ true) (sym e) k)) (lt_p_asym s.a s.b h)

steps_differ : (u v : Bool) (s t : Segment) → lt_p s.a s.b ≡ true → lt_p t.a t.b ≡ true → (u ≡ v → same_ends s t ≡ false) → as_drawn u s ≡ as_drawn v t → ⊥
unfolding as_drawn same_ends
steps_differ true true s t h k n e = clash (both (eq_eq_p (ap (λ (σ : Step). σ.start) e)) (eq_eq_p (ap (λ (σ : Step). σ.end) e))) (n refl)
steps_differ false false s t h k n e = clash (both (eq_eq_p (ap (λ (σ : Step). σ.end) e)) (eq_eq_p (ap (λ (σ : Step). σ.start) e))) (n refl)
steps_differ true false s t h k n e = opposite s t h k (ap (λ (σ : Step). σ.start) e) (ap (λ (σ : Step). σ.end) e)
steps_differ false true s t h k n e = opposite s t h k (ap (λ (σ : Step). σ.end) e) (ap (λ (σ : Step). σ.start) e)

-- a direction of d: its segment is there, and its bit is set
abbrev pub InDrawn : Drawing → Direction → Type 0
InDrawn d δ = (δ.segment ∈ d) × (has δ.forth (nat_abs δ.segment.bits) ≡ true)

pub in_drawn : (d : Drawing) (δ : Direction) → δ ∈ drawn d → InDrawn d δ
unfolding drawn
in_drawn [] δ m = absurd m
in_drawn (s ∷ d) δ m =
    cases (here true) (λ i. cases (here false) (λ j. let r = in_drawn d δ j in (inr r.0, r.1)) (in_put_if (has false (nat_abs s.bits)) (along s false) δ (drawn d) i)) (in_put_if (has true (nat_abs s.bits)) (along s true) δ _ m)
  where
    here : (forth : Bool) → (δ ≡ along s forth) × (has forth (nat_abs s.bits) ≡ true) → InDrawn (s ∷ d) δ
    here forth h = (inl (ap (λ (ε : Direction). ε.segment) h.0), subst (λ (ε : Direction). has ε.forth (nat_abs ε.segment.bits) ≡ true) (sym h.0) h.1)

-- no two places with the same two ends
abbrev pub NoSameEnds : Drawing → Type 0
NoSameEnds d = Pairs (λ s t. same_ends s t ≡ false) d

abbrev pub NoSameStep : List Direction → Type 0
NoSameStep l = Pairs (λ δ ε. travelled δ ≡ travelled ε → ⊥) l

pub drawn_apart : (d : Drawing) → AllRise d → NoSameEnds d → NoSameStep (drawn d)
unfolding drawn travelled
drawn_apart [] proper distinct = tt
drawn_apart (s ∷ d) proper distinct =
    pairs_put_if _ (has true (nat_abs s.bits)) (along s true) _ (λ ε m. cases (turned ε) (later true ε) (in_put_if (has false (nat_abs s.bits)) (along s false) ε (drawn d) m))
    (pairs_put_if _ (has false (nat_abs s.bits)) (along s false) _ (later false) (drawn_apart d (λ t m. proper t (inr m)) distinct.1))
  where
    later : (u : Bool) (ε : Direction) → ε ∈ drawn d → as_drawn u s ≡ as_drawn ε.forth ε.segment → ⊥
    later u ε m = let i = (in_drawn d ε m).0 in steps_differ u ε.forth s ε.segment (proper s (inl refl)) (proper ε.segment (inr i)) (λ q. distinct.0 ε.segment i)

    turned : (ε : Direction) → (ε ≡ along s false) × (has false (nat_abs s.bits) ≡ true) → as_drawn true s ≡ as_drawn ε.forth ε.segment → ⊥
    turned ε h e = steps_differ true false s s (proper s (inl refl)) (proper s (inl refl)) (λ q. absurd (true≢false q)) (e ∙ ap (λ (φ : Direction). as_drawn φ.forth φ.segment) h.0)

not_same : (b : Bool) (σ τ : Step) → (σ ≡ τ → ⊥) → cond b (one (same σ τ)) 0 ≡ 0
not_same true σ τ f = ap one (is_false (same σ τ) (λ e. f (same_true σ τ e)))
not_same false σ τ f = refl

-- a direction's step stands once among those that a test lets through, if it lets it through
pub once_among : (K : Direction → Bool) (l : List Direction) → NoSameStep l → (δ : Direction) → δ ∈ l → tally (λ ε. cond (K ε) (one (same (travelled δ) (travelled ε))) 0) l ≡ one (K δ)
unfolding tally
once_among K [] h δ m = absurd m
once_among K (ε ∷ l) h δ (inl e) = subst (λ φ. tally (λ χ. cond (K χ) (one (same (travelled φ) (travelled χ))) 0) (ε ∷ l) ≡ one (K φ)) (sym e)
    (rw (same_refl (travelled ε)) (omega (arith, tally_nil (λ χ. cond (K χ) (one (same (travelled ε) (travelled χ))) 0) l (λ χ m. not_same (K χ) (travelled ε) (travelled χ) (h.0 χ m)))))
once_among K (ε ∷ l) h δ (inr m) = omega (arith, not_same (K ε) (travelled δ) (travelled ε) (λ e. h.0 δ m (sym e)), once_among K l h.1 δ m)

-- ---- the kept links
tally_drawn : (g : Direction → ℕ) (s : Segment) (d : Drawing)
    → tally g (drawn (s ∷ d)) ≡ (cond (has true (nat_abs s.bits)) (g (along s true)) 0 + cond (has false (nat_abs s.bits)) (g (along s false)) 0) + tally g (drawn d)
unfolding drawn
tally_drawn g s d =
    omega (arith, tally_put_if g (has true (nat_abs s.bits)) (along s true) (put_if (has false (nat_abs s.bits)) (along s false) (drawn d)), tally_put_if g (has false (nat_abs s.bits)) (along s false) (drawn d))

worth-drawn : (f : Step → ℕ) (links : Drawing) → worth f links (line_bits links) ≡ tally (λ δ. f (travelled δ)) (drawn links)
unfolding worth travelled drawn tally
worth-drawn f [] = refl
worth-drawn f (s ∷ links) = omega (arith, tally_drawn (λ δ. f (travelled δ)) s links, worth-drawn f links)

only_if : (p q b : Bool) (m n : ℕ) → cond p (cond b m 0) 0 + cond q (cond b n 0) 0 ≡ cond b (cond p m 0 + cond q n 0) 0
only_if p q true m n = refl
only_if true true false m n = refl
only_if true false false m n = refl
only_if false true false m n = refl
only_if false false false m n = refl

drawn_keep : (g : Direction → ℕ) (P : Segment → Bool) (d : Drawing) → tally g (drawn (keep P d)) ≡ tally (λ δ. cond (P δ.segment) (g δ) 0) (drawn d)
unfolding keep drawn tally
drawn_keep g P [] = refl
drawn_keep g P (s ∷ d) = go (P s) (drawn_keep g P d) ∙ sym (omega (arith, tally_drawn h s d, only_if (has true (nat_abs s.bits)) (has false (nat_abs s.bits)) (P s) (g (along s true)) (g (along s false))))
  where
    h : Direction → ℕ
    h δ = cond (P δ.segment) (g δ) 0

    own : ℕ
    own = cond (has true (nat_abs s.bits)) (g (along s true)) 0 + cond (has false (nat_abs s.bits)) (g (along s false)) 0

    go : (b : Bool) → tally g (drawn (keep P d)) ≡ tally h (drawn d) → tally g (drawn (put_if b s (keep P d))) ≡ cond b own 0 + tally h (drawn d)
    go true e = omega (arith, tally_drawn g s (keep P d))
    go false e = omega arith

-- what the steps of a run come to, for any worth of a step
pub run_tally : (rule : Rule) (filter : Filter) (d : Drawing) → AllRise d → (f : Step → ℕ)
    → tally f (steps_of (clip_paths rule filter d)) ≡ tally (λ δ. cond (keeps filter (fill rule d δ.segment)) (f (travelled δ)) 0) (drawn d)
unfolding clip_paths kept_links
run_tally rule filter d proper f =
    let P : Segment → Bool = λ s. keeps filter (fill rule d s) in
    walk_steps (kept_links rule filter d) (kept_proper rule filter d proper) f ∙ worth-drawn f (keep P d) ∙ drawn_keep (λ δ. f (travelled δ)) P d

-- ---- inside and outside
-- by the number of sides that are filled
by_sides : (excluded t b : Bool) → (keeps_sides (cond excluded InsideExcluded InsideIncluded) (one t + one b) ≡ cond excluded (t && b) (t || b))
    × (keeps_sides (cond excluded OutsideExcluded OutsideIncluded) (one t + one b) ≡ not (cond excluded (t && b) (t || b)))
unfolding keeps_sides
by_sides true true true = (refl, refl)
by_sides true true false = (refl, refl)
by_sides true false true = (refl, refl)
by_sides true false false = (refl, refl)
by_sides false true true = (refl, refl)
by_sides false true false = (refl, refl)
by_sides false false true = (refl, refl)
by_sides false false false = (refl, refl)

inside_filter : (boundary : ℤ) → filter_of (pos 0) boundary ≡ cond (eq_z boundary (pos 0)) InsideExcluded InsideIncluded
unfolding filter_of eq_z
inside_filter boundary = refl

outside_filter : (boundary : ℤ) → filter_of (pos 1) boundary ≡ cond (eq_z boundary (pos 0)) OutsideExcluded OutsideIncluded
unfolding filter_of eq_z
outside_filter boundary = refl

pub keeps-drawn : (rule : Rule) (boundary : ℤ) (d : Drawing) (forth : Bool) (s : Segment) → has forth (nat_abs s.bits) ≡ true
    → (keeps (filter_of (pos 0) boundary) (fill rule d s) ≡ ray_keeps rule boundary d s) × (keeps (filter_of (pos 1) boundary) (fill rule d s) ≡ not (ray_keeps rule boundary d s))
unfolding keeps sides_set ray_keeps enough
keeps-drawn rule boundary d forth s h =
    let e : eqb (nat_abs s.bits) 0 ≡ false = ne_eqb (nat_abs s.bits) 0 (λ (z : nat_abs s.bits ≡ 0). clash h (none-set (nat_abs s.bits) forth (ap (◌% 4) z))) in
    let r = by_sides (eq_z boundary (pos 0)) (filled rule (top d s)) (filled rule (bottom d s)) in (
      rw (fill_lines rule d s, e, fill-top rule d s, fill-bottom rule d s, inside_filter boundary) r.0,
      rw (fill_lines rule d s, e, fill-top rule d s, fill-bottom rule d s, outside_filter boundary) r.1,
    )
