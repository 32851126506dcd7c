-- The fills of a drawing: how their parts are read back, how large they are, that line bits count for their own four-fold part only, and lots not at all.
use mathlib.Core.Path.{◌≡◌, refl, sym, ap, ap₂, subst, ◌∙◌, fun_ext}
use mathlib.Core.List.{[], ◌∷◌, map, map-map}
use mathlib.Core.Logic.{inl, inr}
use mathlib.Core.Bool.{cond}
use Prim.Native.Nat.{ℕ, ◌+◌, ◌*◌, ◌/◌, ◌%◌, ◌<◌}
use native.Mathlib.Omega.{arith}
use lib.ListN.{length, length-map}
use lib.IntN.{pos, nat_abs, ◌+ℤ◌}
use Rattle.segm.specs.declared.Segment.{Segment}
use Rattle.lists.specs.Members.{◌∈◌}
use Rattle.segm.specs.Segments.{Drawing, with_bits}
use Rattle.segm.specs.Lots.{unlotted}
use Rattle.segm.proofs.Segments.{total-map}
use Rattle.meetings.specs.Meetings.{side}
use Rattle.fill_rule.specs.declared.Rule.{Rule}
use Rattle.fill_rule.specs.FillRule.{filled, fill_of}
use Rattle.fill_rule.proofs.Parts.{bits_abs, top_part, bottom-part, line-part, size}
use Rattle.checks.specs.Accepted.{Good}
use Rattle.strip.specs.Strip.{spans, above, clockwise}
use Rattle.ray.specs.Ray.{met, bottom, top, fill, fills}

-- ---- the parts of a fill
module _ (rule : Rule) (d : Drawing) (i : Segment) where
  pub fill-top : fill rule d i % 2 ≡ cond (filled rule (top d i)) 1 0
  unfolding fill fill_of
  fill-top = top_part (filled rule (top d i)) (filled rule (bottom d i)) (nat_abs i.bits)

  pub fill-bottom : fill rule d i / 2 % 2 ≡ cond (filled rule (bottom d i)) 1 0
  unfolding fill fill_of
  fill-bottom = bottom-part (filled rule (top d i)) (filled rule (bottom d i)) (nat_abs i.bits)

  pub fill_lines : fill rule d i / 4 ≡ nat_abs i.bits
  unfolding fill fill_of
  fill_lines = line-part (filled rule (top d i)) (filled rule (bottom d i)) (nat_abs i.bits)

-- ---- one entry a segment, each below 16
pub length-fills : (rule : Rule) (d : Drawing) → length (fills rule d) ≡ length d
unfolding fills
length-fills rule d = length-map d (fill rule d)

module _ (d : Drawing) (g : Good d) where
  pub fill_small : (rule : Rule) (i : Segment) → i ∈ d → fill rule d i < 16
  unfolding fill fill_of
  fill_small rule i m = size (filled rule (top d i)) (filled rule (bottom d i)) (nat_abs i.bits) (bits_abs i.bits (g.faultless.bits i m))

  pub fills_small : (rule : Rule) (f : ℕ) → f ∈ fills rule d → f < 16
  unfolding fills
  fills_small rule f = go d (λ i m. m)
    where
      go : (e : Drawing) → ((i : Segment) → i ∈ e → i ∈ d) → f ∈ map (fill rule d) e → f < 16
      go [] h m = absurd m
      go (i ∷ e) h (inl q) = subst (λ k. k < 16) (sym q) (fill_small rule i (h i (inl refl)))
      go (i ∷ e) h (inr m) = go e (λ j k. h j (inr k)) m

-- ---- line bits count for their own four-fold part only
-- a segment without its line bits
abbrev pub plain : Segment → Segment
plain = with_bits (pos 0)

module _ (d : Drawing) (i : Segment) where
  bottom_plain : bottom (map plain d) (plain i) ≡ bottom d i
  unfolding bottom met spans above clockwise side
  bottom_plain = total-map d plain (met (plain i)) (met i) (λ s. refl)

  pub fill_plain : (rule : Rule) → fill rule d i ≡ fill rule (map plain d) (plain i) + 4 * nat_abs i.bits
  unfolding fill fill_of top
  fill_plain rule = simp bottom_plain (omega arith)

-- the two side bits of a fill
abbrev pub sides : ℕ → ℕ
sides f = f % 4

pub sides_plain : (rule : Rule) (d : Drawing) → map sides (fills rule d) ≡ map sides (fills rule (map plain d))
unfolding fills
sides_plain rule d = go d ∙ sym (ap (map sides) (map-map (fill rule (map plain d)) plain d))
  where
    at : (i : Segment) → sides (fill rule d i) ≡ sides (fill rule (map plain d) (plain i))
    at i = ap sides (fill_plain d i rule) ∙ omega arith

    go : (e : Drawing) → map sides (map (fill rule d) e) ≡ map sides (map (λ i. fill rule (map plain d) (plain i)) e)
    go [] = refl
    go (i ∷ e) = ap₂ ◌∷◌ (at i) (go e)

-- two drawings that differ in line bits alone have the same sides filled
pub sides_alike : (rule : Rule) (d e : Drawing) → map plain d ≡ map plain e → map sides (fills rule d) ≡ map sides (fills rule e)
sides_alike rule d e q = sides_plain rule d ∙ ap (λ (l : Drawing). map sides (fills rule l)) q ∙ sym (sides_plain rule e)

-- ---- lots do not count
pub fill-unlotted : (rule : Rule) (d : Drawing) (i : Segment) → fill rule (map unlotted d) (unlotted i) ≡ fill rule d i
unfolding fill top bottom met spans above clockwise side
fill-unlotted rule d i = ap (λ z. fill_of rule (z +ℤ i.winding) z i.bits) (total-map d unlotted (met (unlotted i)) (met i) (λ s. refl))

pub fills-unlotted : (rule : Rule) (d : Drawing) → fills rule (map unlotted d) ≡ fills rule d
unfolding fills
fills-unlotted rule d = map-map (fill rule (map unlotted d)) unlotted d ∙ ap (λ (f : Segment → ℕ). map f d) (fun_ext (fill-unlotted rule d))
