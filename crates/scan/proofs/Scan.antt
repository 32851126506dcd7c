-- The laws of the ordered list: what enters and what is taken out; and the list in place, where those from a place on have moved up or down.
use mathlib.Core.Path.{◌≡◌, refl, sym, ap, subst, ◌∙◌, ap₂}
use mathlib.Core.List.{List, [], ◌∷◌, ◌++◌, append_assoc, append-nil}
use mathlib.Core.Logic.{◌⊎◌, inl, inr}
use Prim.Native.Nat.{ℕ, zero, suc, ◌<◌, ◌+◌, ◌-◌, ◌≤◌}
use native.Mathlib.Omega.{arith}
use native.Mathlib.Numerals.{add-one}
use lib.ListN.{length, get_or, take, drop, length-append, take-append-drop, set}
use lib.Seq.{split_at, take_all, take-take, take-append-le, drop-length, set_at, set-append_left, get_or-drop, length-take-le}
use Rattle.lists.specs.Members.{◌∈◌, Pairs}
use Rattle.lists.specs.Written.{written}
use Rattle.lists.proofs.Members.{in_at, in_take, in_drop, cases, in-++, in_left, in_right}
use Rattle.lists.proofs.Written.{written_past}
use Rattle.segm.specs.Segments.{Drawing}
use Rattle.faults.specs.Faultless.{Faultless}
use Rattle.faults.proofs.Faultless.{proper_at}
use Rattle.strip.specs.Neighbours.{PlacesOf}
use Rattle.std.proofs.lemmas.Grind.{common_steps, same_number_lists}
use Rattle.scan.specs.Scan.{ProperAt, AllProper, insert_at, remove_at}

-- ---- places with proper segments
module _ {d : Drawing} (faultless : Faultless d) where
  pub proper_place : (i : ℕ) → i < length d → ProperAt d i
  proper_place i h = record { inside = h; proper = proper_at faultless i h }

  pub all_proper : (l : List ℕ) → PlacesOf d l → AllProper d l
  all_proper l places i m = proper_place i (places i m)

  pub proper_entry : (l : List ℕ) → PlacesOf d l → (k : ℕ) → k < length l → ProperAt d (get_or l k 0)
  proper_entry l places k h = all_proper l places (get_or l k 0) (in_at l 0 k h)

-- ---- what enters
pub insert_in : (k i : ℕ) (l : List ℕ) (j : ℕ) → j ∈ insert_at k i l → (j ≡ i) ⊎ (j ∈ l)
unfolding insert_at
insert_in k i l j m =
    cases
    (λ n. inr (in_take k l j n))
    (λ n. cases (λ e. inl e) (λ o. inr (subst (λ (a : List ℕ). j ∈ a) (take-append-drop k l) (in_right j (take k l) (drop k l) o))) n)
    (in-++ j (take k l) (i ∷ drop k l) m)

pub in_insert : (k i : ℕ) (l : List ℕ) (j : ℕ) → (j ≡ i) ⊎ (j ∈ l) → j ∈ insert_at k i l
unfolding insert_at
in_insert k i l j (inl e) = in_right j (take k l) (i ∷ drop k l) (inl e)
in_insert k i l j (inr m) =
    cases
    (λ n. in_left j (take k l) (i ∷ drop k l) n)
    (λ n. in_right j (take k l) (i ∷ drop k l) (inr n))
    (in-++ j (take k l) (drop k l) (subst (λ (a : List ℕ). j ∈ a) (sym (take-append-drop k l)) m))

pub length_insert : (k i : ℕ) (l : List ℕ) → length (insert_at k i l) ≡ suc (length l)
unfolding insert_at
length_insert k i l = omega (arith, length-append (take k l) (i ∷ drop k l), length-append (take k l) (drop k l), ap length (take-append-drop k l))

-- ---- what is taken out
pub remove_in : (k : ℕ) (l : List ℕ) (j : ℕ) → j ∈ remove_at k l → j ∈ l
unfolding remove_at
remove_in k l j m = cases (in_take k l j) (in_drop (suc k) l j) (in-++ j (take k l) (drop (suc k) l) m)

pub in_remove : (k : ℕ) (l : List ℕ) → k < length l → (j : ℕ) → j ∈ l → (j ∈ remove_at k l) ⊎ (j ≡ get_or l k 0)
unfolding remove_at
in_remove k l h j m =
    cases
    (λ n. inl (in_left j (take k l) (drop (suc k) l) n))
    (λ n. cases inr (λ o. inl (in_right j (take k l) (drop (suc k) l) o)) n)
    (in-++ j (take k l) (get_or l k 0 ∷ drop (suc k) l) (subst (λ (a : List ℕ). j ∈ a) (split_at l k 0 h) m))

pub length_remove : (k : ℕ) (l : List ℕ) → k < length l → suc (length (remove_at k l)) ≡ length l
unfolding remove_at
length_remove k l h = omega (arith, length-append (take k l) (drop (suc k) l), length-append (take k l) (get_or l k 0 ∷ drop (suc k) l), ap length (split_at l k 0 h))

pub pairs_remove : (R : ℕ → ℕ → Type 0) (k : ℕ) (l : List ℕ) → Pairs R l → Pairs R (remove_at k l)
unfolding remove_at
pairs_remove R zero [] p = tt
pairs_remove R zero (x ∷ l) p = p.1
pairs_remove R (suc k) [] p = tt
pairs_remove R (suc k) (x ∷ l) p = (λ y m. p.0 y (remove_in k l y m), pairs_remove R k l p.1)

-- of a list in which nothing stands twice
pub not_removed : (k : ℕ) (l : List ℕ) → k < length l → Pairs (λ i j. i ≡ j → ⊥) l → get_or l k 0 ∈ remove_at k l → ⊥
unfolding remove_at
not_removed k [] h p m = absurd (omega arith)
not_removed zero (x ∷ l) h p m = p.0 x m refl
not_removed (suc k) (x ∷ l) h p (inl e) = p.0 (get_or l k 0) (in_at l 0 k (omega arith)) (sym e)
not_removed (suc k) (x ∷ l) h p (inr m) = not_removed k l (omega arith) p.1 m

-- ---- in place, by what stands at each place
entry_below : (k i : ℕ) (l : List ℕ) (m : ℕ) → m < k → k ≤ length l → get_or (insert_at k i l) m 0 ≡ get_or l m 0
unfolding insert_at
entry_below k i l m h t = grind (arith, common_steps)

entry_here : (k i : ℕ) (l : List ℕ) (m : ℕ) → m ≡ k → k ≤ length l → get_or (insert_at k i l) m 0 ≡ i
unfolding insert_at
entry_here k i l m h t = grind (arith, common_steps)

entry_above : (k i : ℕ) (l : List ℕ) (m : ℕ) → k < m → k ≤ length l → get_or (insert_at k i l) m 0 ≡ get_or l (m - 1) 0
unfolding insert_at
entry_above k i l m h t = grind (arith, common_steps)

-- those from place k on have moved up, and i is written there
pub inserted : (old list : List ℕ) (used k i : ℕ) → k ≤ used → used < length list → used ≤ length old → ((m : ℕ) → m < k → get_or list m 0 ≡ get_or old m 0)
    → ((m : ℕ) → k < m → m ≤ used → get_or list m 0 ≡ get_or old (m - 1) 0) → take (used + 1) (set list k i) ≡ insert_at k i (take used old)
inserted old list used k i h room long same moved =
    same_number_lists _ _ (grind (arith, common_steps, length_insert)) (λ m lt. grind (arith, common_steps, entry_below, entry_here, entry_above, same m, moved m))

entry_before : (k : ℕ) (l : List ℕ) (m : ℕ) → m < k → k < length l → get_or (remove_at k l) m 0 ≡ get_or l m 0
unfolding remove_at
entry_before k l m h t = grind (arith, common_steps)

entry_after : (k : ℕ) (l : List ℕ) (m : ℕ) → k ≤ m → k < length l → get_or (remove_at k l) m 0 ≡ get_or l (m + 1) 0
unfolding remove_at
entry_after k l m h t = grind (arith, common_steps)

-- those after place k have moved down
pub removed : (old list : List ℕ) (used k : ℕ) → k < used → used ≤ length list → used ≤ length old → ((m : ℕ) → m < k → get_or list m 0 ≡ get_or old m 0)
    → ((m : ℕ) → k ≤ m → m < used - 1 → get_or list m 0 ≡ get_or old (m + 1) 0) → take (used - 1) list ≡ remove_at k (take used old)
removed old list used k h room long same moved =
    same_number_lists _ _ (grind (arith, common_steps, length_remove)) (λ m lt. grind (arith, common_steps, entry_before, entry_after, same m, moved m))

-- ---- the list in place, as entries are written to it
-- the entry between is written over
pub insert_over : (l old : List ℕ) (j z y : ℕ) → j ≤ length l → set (written (insert_at j z l) old) j y ≡ written (insert_at j y l) old
unfolding written insert_at
insert_over l old j z y h =
    let same : length (insert_at j z l) ≡ length (insert_at j y l) = length_insert j z l ∙ sym (length_insert j y l) in
    let inside : j < length (insert_at j z l) = omega (arith, length_insert j z l) in
    set-append_left (insert_at j z l) (drop (length (insert_at j z l)) old) j y inside
    ∙ ap₂ (λ (a : List ℕ) (n : ℕ). a ++ drop n old) (set_at (take j l) z (drop j l) y j (length-take-le j l h)) same

-- nothing has moved: between the first n and the rest is the entry at n
pub unmoved : (old : List ℕ) (n : ℕ) → n < length old → old ≡ written (insert_at n (get_or old n 0) (take n old)) old
unfolding written insert_at
unmoved old n h =
    let long : length (take n old) ≡ n = length-take-le n old (omega arith) in
    let whole : take n (take n old) ≡ take n old = take_all n (take n old) (omega (arith, long)) in
    let none : drop n (take n old) ≡ [] = ap (λ m. drop m (take n old)) (sym long) ∙ drop-length (take n old) in
    let all : insert_at n (get_or old n 0) (take n old) ≡ take n old ++ (get_or old n 0 ∷ []) = ap₂ (λ (a b : List ℕ). a ++ (get_or old n 0 ∷ b)) whole none in
    let many : suc n ≡ length (insert_at n (get_or old n 0) (take n old)) = sym (length_insert n (get_or old n 0) (take n old) ∙ ap suc long) in
    split_at old n 0 h
    ∙ sym (append_assoc (take n old) (get_or old n 0 ∷ []) (drop (suc n) old))
    ∙ ap₂ (λ (a : List ℕ) (m : ℕ). a ++ drop m old) (sym all) many

-- a list's own front, written to it
pub written_own : (old : List ℕ) (n : ℕ) → n ≤ length old → written (take n old) old ≡ old
unfolding written
written_own old n h = ap (λ m. take n old ++ drop m old) (length-take-le n old h) ∙ take-append-drop n old

-- what was not written over is as it was
pub unwritten : (answer old : List ℕ) (k : ℕ) → length answer ≤ k → get_or (written answer old) k 0 ≡ get_or old k 0
unfolding written
unwritten answer old k h =
    let n = length answer in
    let e : n + (k - n) ≡ k = omega arith in
    ap (λ m. get_or (written answer old) m 0) (sym e)
    ∙ sym (get_or-drop n (written answer old) (k - n) 0)
    ∙ ap (λ (a : List ℕ). get_or a (k - n) 0) (written_past answer old n refl)
    ∙ get_or-drop n old (k - n) 0
    ∙ ap (λ m. get_or old m 0) e

-- one is taken out of its own front
pub none_moved : (old : List ℕ) (k : ℕ) → k < length old → old ≡ written (remove_at k (take (suc k) old)) old
unfolding remove_at
none_moved old k h =
    let past : suc k ≡ length (take (suc k) old) = sym (length-take-le (suc k) old (omega arith)) in
    let none : drop (suc k) (take (suc k) old) ≡ [] = ap (λ n. drop n (take (suc k) old)) past ∙ drop-length (take (suc k) old) in
    sym (ap₂ (λ (a b : List ℕ). written (a ++ b) old) (take-take k (suc k) old (omega arith)) none ∙ ap (λ (a : List ℕ). written a old) (append-nil (take k old)) ∙ written_own old k (omega arith))

-- ---- what is moved past the list's end is no part of it
take_insert : (k c i : ℕ) (l : List ℕ) → k ≤ c → take (suc c) (insert_at k i l) ≡ insert_at k i (take c l)
unfolding insert_at
take_insert zero c i l h = refl
take_insert (suc k) zero i l h = absurd (omega arith)
take_insert (suc k) (suc c) i [] h = refl
take_insert (suc k) (suc c) i (x ∷ l) h = ap (x ∷◌) (take_insert k c i l (omega arith))

pub insert_within : (old : List ℕ) (k used top i : ℕ) → k ≤ used → used ≤ top → top ≤ length old
    → take (used + 1) (written (insert_at k i (take top old)) old) ≡ insert_at k i (take used old)
unfolding written
insert_within old k used top i h t l =
    let long : length (take top old) ≡ top = length-take-le top old l in
    take-append-le (used + 1) (insert_at k i (take top old)) _ (omega (arith, length_insert k i (take top old), long))
    ∙ ap (λ n. take n (insert_at k i (take top old))) (add-one used)
    ∙ take_insert k used i (take top old) h
    ∙ ap (insert_at k i) (take-take used top old t)

take_remove : (k c : ℕ) (l : List ℕ) → k ≤ c → take c (remove_at k l) ≡ remove_at k (take (suc c) l)
unfolding remove_at
take_remove zero zero [] h = refl
take_remove zero (suc c) [] h = refl
take_remove zero c (x ∷ l) h = refl
take_remove (suc k) zero l h = absurd (omega arith)
take_remove (suc k) (suc c) [] h = refl
take_remove (suc k) (suc c) (x ∷ l) h = ap (x ∷◌) (take_remove k c l (omega arith))

pub remove_within : (old : List ℕ) (k used top : ℕ) → k < used → used ≤ top → top ≤ length old
    → take (used - 1) (written (remove_at k (take top old)) old) ≡ remove_at k (take used old)
unfolding written
remove_within old k used top h t l =
    let long : length (take top old) ≡ top = length-take-le top old l in
    let whole : suc (used - 1) ≡ used = omega arith in
    take-append-le (used - 1) (remove_at k (take top old)) _ (omega (arith, length_remove k (take top old) (omega (arith, long)), long))
    ∙ take_remove k (used - 1) (take top old) (omega arith)
    ∙ ap (λ n. remove_at k (take n (take top old))) whole
    ∙ ap (remove_at k) (take-take used top old t)
