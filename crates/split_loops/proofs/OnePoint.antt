-- One point: the buffer after it, and the loop that it closes.
use mathlib.Core.Path.{◌≡◌, refl, sym, ap, ◌∙◌}
use mathlib.Core.List.{List, [], ◌∷◌, ◌++◌}
use mathlib.Core.Bool.{Bool, true, false, cond}
use Prim.Native.Nat.{ℕ, suc, ◌+◌, ◌<◌, ◌≤◌}
use native.Mathlib.Omega.{arith}
use lib.Dec.{ltb}
use lib.ListN.{length, take, drop, length-append, length-drop}
use lib.Seq.{length-take-le, take-append-le, drop-append-le, take-take}
use borrow.Author.Tests.{ltb-true, lt-ltb, le-ltb}
use Rattle.geom.specs.declared.Point.{Point}
use Rattle.split_loops.specs.Loops.{closed, Buffered, buffered, buffer_point, rest}

module _ (number : ℕ) (buffer : List Point) (p : Point) where
  -- by the test
  cut : number < length buffer → buffer_point number buffer p ≡ buffered (take number buffer) (closed (drop number buffer) p)
  unfolding buffer_point
  cut h = simp (lt-ltb number (length buffer) h)

  pub length-buffered : length (buffer_point number buffer p).buffer ≡ cond (ltb number (length buffer)) number (suc (length buffer))
  unfolding buffer_point
  length-buffered = go (ltb number (length buffer)) refl
    where
      go : (b : Bool) → ltb number (length buffer) ≡ b
          → length (cond b (buffered (take number buffer) (closed (drop number buffer) p)) (buffered (buffer ++ (p ∷ [])) [])).buffer ≡ cond b number (suc (length buffer))
      go true e = let h = ltb-true number (length buffer) e in length-take-le number buffer (omega arith)
      go false e = length-append buffer (p ∷ []) ∙ omega arith

  -- with the point after the buffer, the front is the buffer after it
  pub buffer_front : (l : List Point) → take (suc (length buffer)) l ≡ buffer ++ (p ∷ []) → take (length (buffer_point number buffer p).buffer) l ≡ (buffer_point number buffer p).buffer
  unfolding buffer_point
  buffer_front l f = go (ltb number (length buffer)) refl
    where
      go : (b : Bool) → ltb number (length buffer) ≡ b
          → take (length (cond b (buffered (take number buffer) (closed (drop number buffer) p)) (buffered (buffer ++ (p ∷ [])) [])).buffer) l ≡ (cond b (buffered (take number buffer) (closed (drop number buffer) p)) (buffered (buffer ++ (p ∷ [])) [])).buffer
      go true e =
          let h = ltb-true number (length buffer) e in
          ap (λ n. take n l) (length-take-le number buffer (omega arith)) ∙ sym (take-take number (suc (length buffer)) l (omega arith)) ∙ ap (take number) f ∙ take-append-le number buffer (p ∷ []) (omega arith)
      go false e = let n : length (buffer ++ (p ∷ [])) ≡ suc (length buffer) = omega (arith, length-append buffer (p ∷ [])) in ap (λ m. take m l) n ∙ f

  -- one point is dropped
  pub none-closed : length buffer < number + 2 → (buffer_point number buffer p).loops ≡ []
  unfolding buffer_point closed
  none-closed h = go (ltb number (length buffer)) refl
    where
      go : (b : Bool) → ltb number (length buffer) ≡ b → (cond b (buffered (take number buffer) (closed (drop number buffer) p)) (buffered (buffer ++ (p ∷ [])) [])).loops ≡ []
      go true e = simp (lt-ltb (length (drop number buffer)) 2 (omega (arith, length-drop number buffer)))
      go false e = refl

  -- two or more become a loop
  pub one-closed : number + 2 ≤ length buffer → (buffer_point number buffer p).loops ≡ (drop number (buffer ++ (p ∷ []))) ∷ []
  unfolding closed
  one-closed h =
      let long : closed (drop number buffer) p ≡ (drop number buffer ++ (p ∷ [])) ∷ [] = simp (le-ltb (length (drop number buffer)) 2 (omega (arith, length-drop number buffer))) in
      ap (λ (t : Buffered). t.loops) (cut (omega arith)) ∙ long ∙ ap (λ (l : List Point). l ∷ []) (sym (drop-append-le number buffer (p ∷ []) (omega arith)))

-- ---- the rest
pub no_rest : (buffer : List Point) → length buffer ≤ 2 → rest buffer ≡ []
unfolding rest
no_rest buffer h = simp (le-ltb 2 (length buffer) h)

pub one-rest : (buffer : List Point) → 2 < length buffer → rest buffer ≡ buffer ∷ []
unfolding rest
one-rest buffer h = simp (lt-ltb 2 (length buffer) h)
