-- Document 01's mistakes near at hand: of each a worked case, as it comes out and as it would under the mistake.
use Rattle.std.specs.Prelude.{◌≡◌, List, [], ◌∷◌, ◌++◌, map, Bool, ◌&&◌, ◌||◌, ◌≢◌, ℕ, suc, ltb, length, ℤ, pos, negsuc, ◌+ℤ◌}
use Rattle.std.specs.Int.Signed.{le_z}
use Rattle.geom.specs.declared.Point.{Point}
use Rattle.geom.specs.Points.{eq_p}
use Rattle.lists.specs.Members.{keep}
use Rattle.segm.specs.declared.Segment.{Segment}
use Rattle.segm.specs.Segments.{Drawing, segments, total}
use Rattle.segm.specs.CaseA.{A}
use Rattle.fill_rule.specs.declared.Rule.{Rule}
use Rattle.fill_rule.specs.declared.Rule.TheVariants.{NonZero}
use Rattle.fill_rule.specs.FillRule.{fill_of}
use Rattle.strip.specs.Strip.{above, clockwise}
use Rattle.ray.specs.Ray.{fills}
use Rattle.build.specs.declared.filter.Filter.TheVariants.{OutsideIncluded, OutsideExcluded}
use Rattle.clip_paths.specs.Paths.{clip_paths}
use Rattle.bin_store.specs.Sightings.{Sighting, number_of, sight}
use Rattle.split_loops.specs.Loops.{Buffered, buffered, buffer_point, rest, all_loops}
use Rattle.string_clip.proofs.Cases.{edged}
use Rattle.trials.specs.Trials.{forked}

abbrev at : ℤ → ℤ → Point
at x y = record { x = x; y = y }

-- ---- sightings after a cut
-- A, B and so on
abbrev pub named : ℕ → Point
named n = at (pos n) (pos n)

-- A B C A E F B G
abbrev pub coming_back : List Point
coming_back = map named (1 ∷ 2 ∷ 3 ∷ 1 ∷ 5 ∷ 6 ∷ 2 ∷ 7 ∷ [])

-- the mistake: after each point those sightings are forgotten whose points are no longer in the buffer
unfoldable pub forgetful : List Sighting → List Point → List Point → Buffered
forgetful memory buffer [] = buffered buffer []
forgetful memory buffer (p ∷ points) =
    let after = sight memory p (suc (length buffer)) in
    let t = buffer_point (number_of after p) buffer p in
    let later = forgetful (keep (λ (s : Sighting). ltb s.number (suc (length t.buffer))) after) t.buffer points in
    buffered later.buffer (t.loops ++ later.loops)

-- ---- a segment whose b.x equals the point's x
-- the mistake: it is counted in
unfoldable pub met_too : Segment → Segment → Bool
met_too i j = le_z j.a.x i.a.x && le_z i.a.x j.b.x && (above j i.a || (eq_p j.a i.a && clockwise j i))

unfoldable pub fills_too : Rule → Drawing → List ℕ
fills_too rule d = map (λ (i : Segment). let bottom = total (met_too i) d in fill_of rule (bottom +ℤ i.winding) bottom i.bits) d

-- ---- the cases
pub record Mistakes : Type 0 where
  -- keeping edge lines outside with boundary included (a square with a line on its bottom edge): only outside excluded keeps them
  pub edge_not_kept : clip_paths NonZero OutsideIncluded (segments edged) ≡ []
  pub edge_kept : clip_paths NonZero OutsideExcluded (segments edged) ≡ (at (pos 0) (pos 0) ∷ at (pos 2) (pos 0) ∷ []) ∷ []
  -- extending a walk at its first point: the second line is no part of the first one's path
  pub not_extended : clip_paths NonZero OutsideIncluded (segments forked)
      ≡ (at (pos 0) (pos 0) ∷ at (pos 2) (negsuc 0) ∷ []) ∷ (at (pos 2) (pos 1) ∷ at (pos 0) (pos 0) ∷ []) ∷ []
  pub extended : clip_paths NonZero OutsideIncluded (segments forked) ≢ (at (pos 2) (pos 1) ∷ at (pos 0) (pos 0) ∷ at (pos 2) (negsuc 0) ∷ []) ∷ []
  -- forgetting sightings after a cut: B C A and A E G are right
  pub remembered : all_loops coming_back ≡ map named (2 ∷ 3 ∷ 1 ∷ []) ∷ map named (1 ∷ 5 ∷ 7 ∷ []) ∷ []
  pub forgotten : (let t = forgetful [] [] coming_back in t.loops ++ rest t.buffer) ≢ all_loops coming_back
  -- adding in a segment whose b.x equals the point's x
  pub left_out : fills NonZero (segments A) ≡ 4 ∷ 2 ∷ 1 ∷ 2 ∷ 7 ∷ 2 ∷ 1 ∷ 1 ∷ 4 ∷ []
  pub added_in : fills_too NonZero (segments A) ≢ fills NonZero (segments A)
