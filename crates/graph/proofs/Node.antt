-- The link and the other end of an end, and the list of a node.
use mathlib.Core.Path.{◌≡◌, refl, sym, ap, ap₂, ◌∙◌}
use mathlib.Core.List.{List, [], ◌∷◌, ◌++◌, map, map-map, map-append}
use mathlib.Core.Logic.{◌⊎◌, inl, inr}
use mathlib.Core.Bool.{Bool}
use Prim.Native.Nat.{ℕ, zero, suc, ◌+◌, ◌-◌, ◌*◌, ◌<◌, ◌≤◌}
use native.Mathlib.Omega.{arith}
use native.Mathlib.Decide.{dec_le}
use lib.ListN.{length}
use borrow.Author.Tests.{lt-ltb, le-ltb}
use Rattle.geom.specs.declared.Point.{Point}
use Rattle.geom.specs.Points.{eq_p}
use Rattle.geom.proofs.Points.{eq_p-true, eq_eq_p}
use Rattle.lists.specs.Members.{◌∈◌, keep}
use Rattle.lists.specs.UpFrom.{up_from}
use Rattle.segm.specs.Segments.{Drawing, segment_at}
use Rattle.lists.proofs.Members.{cases, in-++, in_left, in_right, keep_in, in_keep, keep-++, keep_cong, keep_map}
use Rattle.lists.proofs.UpFrom.{in_up_from, up_from_in, up_from-++}
use Rattle.ends.specs.Ends.{end_point}
use Rattle.ends.proofs.Ends.{end_a, end_b}
use Rattle.graph.specs.Nodes.{node, link_of, other_end}

-- ---- numbers in a row
-- the starting ends of m links, then the others
pub both_ends : (m : ℕ) → up_from 0 (2 * m) ≡ up_from 0 m ++ up_from m m
both_ends m =
    let e : 2 * m ≡ m + m = omega arith in
    let z : 0 + m ≡ m = omega arith in
    ap (up_from 0) e ∙ up_from-++ 0 m m ∙ ap (λ k. up_from 0 m ++ up_from k m) z

-- ---- the link of an end
module _ (m e : ℕ) where
  pub link_low : e < m → link_of m e ≡ e
  unfolding link_of
  link_low h = rw (lt-ltb e m h)

  pub link_high : m ≤ e → link_of m e ≡ e - m
  unfolding link_of
  link_high h = rw (le-ltb e m h)

  pub other_low : e < m → other_end m e ≡ m + e
  unfolding other_end
  other_low h = rw (lt-ltb e m h)

  pub other_high : m ≤ e → other_end m e ≡ e - m
  unfolding other_end
  other_high h = rw (le-ltb e m h)

  pub link_of_end : e < 2 * m → link_of m e < m
  link_of_end h = go (dec_le m e)
    where
      go : Dec (m ≤ e) → link_of m e < m
      go (yes k) = omega (arith, link_high k)
      go (no k) = omega (arith, link_low (omega arith))

  pub other_end_below : e < 2 * m → other_end m e < 2 * m
  other_end_below h = go (dec_le m e)
    where
      go : Dec (m ≤ e) → other_end m e < 2 * m
      go (yes k) = omega (arith, other_high k)
      go (no k) = omega (arith, other_low (omega arith))

-- both ends have one link
pub link_other : (m e : ℕ) → e < 2 * m → link_of m (other_end m e) ≡ link_of m e
link_other m e h = go (dec_le m e)
  where
    go : Dec (m ≤ e) → link_of m (other_end m e) ≡ link_of m e
    go (yes k) = ap (link_of m) (other_high m e k) ∙ link_low m (e - m) (omega arith) ∙ sym (link_high m e k)
    go (no k) =
        let l : e < m = omega arith in
        ap (link_of m) (other_low m e l) ∙ link_high m (m + e) (omega arith) ∙ omega arith ∙ sym (link_low m e l)

-- ---- the list of a node
module _ (links : Drawing) (p : Point) where
  abbrev m : ℕ
  m = length links

  abbrev starts : ℕ → Bool
  starts k = eq_p (segment_at links k).a p

  abbrev stops : ℕ → Bool
  stops k = eq_p (segment_at links k).b p

  pub in_node : (k : ℕ) → k ∈ node links p → (k < length links) × (((segment_at links k).a ≡ p) ⊎ ((segment_at links k).b ≡ p))
  unfolding node
  in_node k i =
      cases
      (λ j. let r = keep_in starts k (up_from 0 m) j in (omega (arith, in_up_from k 0 m r.0), inl (eq_p-true r.1)))
      (λ j. let r = keep_in stops k (up_from 0 m) j in (omega (arith, in_up_from k 0 m r.0), inr (eq_p-true r.1)))
      (in-++ k (keep starts (up_from 0 m)) (keep stops (up_from 0 m)) i)

  pub node_in : (k : ℕ) → (k < length links) × (((segment_at links k).a ≡ p) ⊎ ((segment_at links k).b ≡ p)) → k ∈ node links p
  unfolding node
  node_in k h =
      let i = up_from_in k 0 m (omega arith) (omega (arith, h.0)) in
      cases
      (λ e. in_left k (keep starts (up_from 0 m)) (keep stops (up_from 0 m)) (in_keep starts k (up_from 0 m) i (eq_eq_p e)))
      (λ e. in_right k (keep starts (up_from 0 m)) (keep stops (up_from 0 m)) (in_keep stops k (up_from 0 m) i (eq_eq_p e)))
      h.1

  abbrev here : ℕ → Bool
  here e = eq_p (end_point links e) p

  -- a function that changes no member
  same : (f : ℕ → ℕ) (l : List ℕ) → ((k : ℕ) → k ∈ l → f k ≡ k) → map f l ≡ l
  same f [] h = refl
  same f (k ∷ l) h = ap₂ ◌∷◌ (h k (inl refl)) (same f l (λ j i. h j (inr i)))

  -- the other ends, by their links
  shifted : (k n : ℕ) → up_from (m + k) n ≡ map (m +◌) (up_from k n)
  unfolding up_from
  shifted k zero = refl
  shifted k (suc n) = let e : suc (m + k) ≡ m + suc k = omega arith in ap ((m + k) ∷◌) (ap (λ j. up_from j n) e ∙ shifted (suc k) n)

  starting : map (link_of m) (keep here (up_from 0 m)) ≡ keep starts (up_from 0 m)
  starting =
      ap (map (link_of m)) (keep_cong here starts (up_from 0 m) (λ k i. ap (λ (q : Point). eq_p q p) (end_a links k (omega (arith, in_up_from k 0 m i)))))
      ∙ same (link_of m) (keep starts (up_from 0 m)) (λ k i. link_low m k (omega (arith, in_up_from k 0 m (keep_in starts k (up_from 0 m) i).0)))

  high : (k : ℕ) → end_point links (m + k) ≡ (segment_at links k).b
  high k = let e : m + k - m ≡ k = omega arith in end_b links (m + k) (omega arith) ∙ ap (λ j. (segment_at links j).b) e

  ending : map (link_of m) (keep here (up_from m m)) ≡ keep stops (up_from 0 m)
  ending =
      let e : m ≡ m + 0 = omega arith in
      ap (λ (l : List ℕ). map (link_of m) (keep here l)) (ap (λ k. up_from k m) e ∙ shifted 0 m)
      ∙ ap (map (link_of m)) (keep_map here (m +◌) (up_from 0 m))
      ∙ map-map (link_of m) (m +◌) (keep (λ k. here (m + k)) (up_from 0 m))
      ∙ same (λ k. link_of m (m + k)) (keep (λ k. here (m + k)) (up_from 0 m)) (λ k i. link_high m (m + k) (omega arith) ∙ omega arith)
      ∙ keep_cong (λ k. here (m + k)) stops (up_from 0 m) (λ k i. ap (λ (q : Point). eq_p q p) (high k))

  -- the links of the ends at p
  pub links_at : map (link_of m) (keep here (up_from 0 (2 * m))) ≡ node links p
  unfolding node
  links_at =
      ap (λ (l : List ℕ). map (link_of m) (keep here l)) (both_ends m)
      ∙ ap (map (link_of m)) (keep-++ here (up_from 0 m) (up_from m m))
      ∙ map-append (link_of m) (keep here (up_from 0 m)) (keep here (up_from m m))
      ∙ ap₂ ◌++◌ starting ending
