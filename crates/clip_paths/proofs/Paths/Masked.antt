-- The segments that a run does not keep, without their line bits: a walk over the drawing by the line bits that remain finds the run's paths.
use mathlib.Core.Path.{◌≡◌, refl, sym, ◌∙◌, ap, subst}
use mathlib.Core.List.{[], ◌∷◌, map}
use mathlib.Core.Bool.{Bool, true, false, not, ◌&&◌, cond}
use Prim.Native.Nat.{ℕ, zero, suc}
use lib.Dec.{eqb}
use lib.ListN.{get_or, length-map}
use lib.IntN.{nat_abs}
use Rattle.integers.proofs.Booleans.{clash}
use Rattle.segm.specs.declared.Segment.{Segment}
use Rattle.lists.specs.Members.{◌∈◌, keep}
use Rattle.segm.specs.Segments.{Drawing, nowhere, segment_at}
use Rattle.lists.proofs.Members.{in_map}
use Rattle.fill_rule.specs.declared.Rule.{Rule}
use Rattle.build.specs.declared.filter.Filter.{Filter}
use Rattle.ray.specs.Ray.{fill}
use Rattle.ray.proofs.Fills.{fill_lines, plain}
use Rattle.build.specs.Links.{sides_set, keeps_sides, keeps, kept_links, masked, masked_bits}
use Rattle.moves.proofs.SameEnds.{EndsAlike}
use Rattle.clip_walk.specs.Walk.{line_bits, walk}
use Rattle.clip_paths.specs.Paths.{clip_paths}
use Rattle.clip_paths.specs.Writing.{bits_paths}
use Rattle.clip_paths.proofs.Paths.NoLines.{links_paths, no_lines}
use Rattle.clip_paths.proofs.Paths.SameEnds.{paths_same}

module _ (rule : Rule) (filter : Filter) (d : Drawing) where
  -- the run keeps s
  abbrev kept : Segment → Bool
  kept s = keeps filter (fill rule d s)

  -- s, without its line bits if it is not kept
  abbrev mask : Segment → Segment
  mask s = cond (kept s) s (plain s)

  -- a segment without line bits is not kept
  plain_not_kept : (s : Segment) → kept (plain s) ≡ false
  unfolding keeps
  plain_not_kept s = ap (λ n. not (eqb n 0) && keeps_sides filter (sides_set (fill rule d (plain s)))) (fill_lines rule d (plain s))

  -- so what is not kept has none
  mask_none : (s : Segment) → s ∈ map mask d → kept s ≡ false → nat_abs s.bits ≡ 0
  mask_none s m = let r = in_map mask s d m in subst (λ (t : Segment). kept t ≡ false → nat_abs t.bits ≡ 0) (sym r.2) (go r.0 (kept r.0) refl)
    where
      go : (t : Segment) (b : Bool) → kept t ≡ b → kept (cond b t (plain t)) ≡ false → nat_abs (cond b t (plain t)).bits ≡ 0
      go t true e h = absurd (clash e h)
      go t false e h = refl

  -- and what is kept is as it was
  keep_mask : (l : Drawing) → keep kept (map mask l) ≡ keep kept l
  unfolding keep
  keep_mask [] = refl
  keep_mask (s ∷ l) = go (kept s) refl (keep_mask l)
    where
      go : (b : Bool) → kept s ≡ b → keep kept (map mask l) ≡ keep kept l → cond (kept (cond b s (plain s))) (cond b s (plain s) ∷ keep kept (map mask l)) (keep kept (map mask l)) ≡ cond b (s ∷ keep kept l) (keep kept l)
      go true e ih = rw e (ap (s ∷◌) ih)
      go false e ih = rw (plain_not_kept s) ih

  -- ---- the ends are the drawing's
  mask_a : (s : Segment) → (mask s).a ≡ s.a
  mask_a s = go (kept s)
    where
      go : (b : Bool) → (cond b s (plain s)).a ≡ s.a
      go true = refl
      go false = refl

  mask_b : (s : Segment) → (mask s).b ≡ s.b
  mask_b s = go (kept s)
    where
      go : (b : Bool) → (cond b s (plain s)).b ≡ s.b
      go true = refl
      go false = refl

  a_at : (l : Drawing) (k : ℕ) → (get_or (map mask l) k nowhere).a ≡ (get_or l k nowhere).a
  a_at [] k = refl
  a_at (s ∷ l) zero = mask_a s
  a_at (s ∷ l) (suc k) = a_at l k

  b_at : (l : Drawing) (k : ℕ) → (get_or (map mask l) k nowhere).b ≡ (get_or l k nowhere).b
  b_at [] k = refl
  b_at (s ∷ l) zero = mask_b s
  b_at (s ∷ l) (suc k) = b_at l k

  ends_kept : EndsAlike d (map mask d)
  unfolding segment_at
  ends_kept = record { as_many = length-map d mask; a_same = a_at d; b_same = b_at d }

  -- so a walk over the drawing by their line bits finds the paths of the kept links
  pub masked_paths : bits_paths d (masked_bits rule filter d) ≡ clip_paths rule filter d
  unfolding masked clip_paths kept_links walk
  masked_paths = sym (paths_same ends_kept (line_bits (map mask d))) ∙ no_lines kept (map mask d) mask_none ∙ ap links_paths (keep_mask d)
