-- What a walk comes to: its steps and travel by the line bits of its links, and how many points and paths it can have.
use mathlib.Core.Path.{◌≡◌, refl, ◌∙◌, ap, ap₂}
use mathlib.Core.List.{List, [], ◌∷◌, flatten}
use mathlib.Core.Logic.{inl, inr}
use mathlib.Core.Bool.{Bool, true, false, cond}
use Prim.Native.Nat.{ℕ, suc, ◌+◌, ◌*◌, ◌≤◌}
use native.Mathlib.Omega.{arith}
use lib.ListN.{length, length-append, length-map}
use lib.IntN.{nat_abs}
use Rattle.geom.specs.declared.Point.{Point}
use Rattle.geom.specs.Points.{travel}
use Rattle.geom.proofs.Points.{travel_back}
use Rattle.segm.specs.declared.Segment.{Segment}
use Rattle.lists.specs.Members.{◌∈◌}
use Rattle.lists.specs.Sums.{tally, one}
use Rattle.segm.specs.Segments.{Drawing}
use Rattle.lists.proofs.Sums.{tally_one}
use Rattle.lists.proofs.Members.{length_keep, keep_in}
use Rattle.checks.specs.Accepted.{Good}
use Rattle.fill_rule.specs.declared.Rule.{Rule}
use Rattle.build.specs.declared.filter.Filter.{Filter}
use Rattle.ray.specs.Ray.{fill}
use Rattle.build.specs.Links.{keeps, kept_links}
use Rattle.moves.specs.Bits.{has, bits_set}
use Rattle.moves.specs.Steps.{as_drawn, AllRise}
use Rattle.moves.specs.Worth.{value, worth, ones}
use Rattle.moves.proofs.Moves.{bits_few}
use Rattle.moves.proofs.Worth.{worth-ones}
use Rattle.clip_walk.specs.Walk.{line_bits, walk}
use Rattle.clip_paths.specs.Paths.{clip_paths, steps_from, steps_of_path, steps_of, travel_of}
use Rattle.clip_paths.specs.Writing.{bits_paths, travel_over}
use Rattle.clip_paths.proofs.Paths.Steps.{Long, paths_long, bits_steps}

-- ---- the travel of a segment, either way
pub travel_either : (forth : Bool) (s : Segment) → travel_of (as_drawn forth s) ≡ travel s.a s.b
unfolding travel_of as_drawn
travel_either true s = refl
travel_either false s = travel_back s.a s.b

-- ---- steps and travel by line bits
value_travel : (s : Segment) (b : ℕ) → value travel_of s b ≡ bits_set b * travel s.a s.b
value_travel s b = go (has true b) (has false b)
  where
    go : (p q : Bool) → cond p (travel_of (as_drawn true s)) 0 + cond q (travel_of (as_drawn false s)) 0 ≡ (one p + one q) * travel s.a s.b
    go true true = omega (arith, travel_either true s, travel_either false s)
    go true false = omega (arith, travel_either true s)
    go false true = omega (arith, travel_either false s)
    go false false = omega arith

worth-travel : (links : Drawing) (bits : List ℕ) → worth travel_of links bits ≡ travel_over links bits
unfolding worth travel_over
worth-travel [] bits = refl
worth-travel (s ∷ links) [] = refl
worth-travel (s ∷ links) (b ∷ bits) = ap₂ ◌+◌ (value_travel s b) (worth-travel links bits)

-- ---- points and paths
steps_length : (p : Point) (l : List Point) → length (steps_from p l) ≡ length l
unfolding steps_from
steps_length p [] = refl
steps_length p (q ∷ l) = ap suc (steps_length q l)

path_steps_length : (path : List Point) → Long path → suc (length (steps_of_path path)) ≡ length path
unfolding steps_of_path
path_steps_length [] h = absurd (omega arith)
path_steps_length (p ∷ l) h = ap suc (steps_length p l)

-- one point more than steps in each path, and a step at least
paths_length_lem : (paths : List (List Point)) → ((p : List Point) → p ∈ paths → Long p)
    → (length (flatten paths) ≡ length (steps_of paths) + length paths) × (length paths ≤ length (steps_of paths))
unfolding flatten steps_of
paths_length_lem [] h = (refl, omega arith)
paths_length_lem (p ∷ paths) h =
    let r = paths_length_lem paths (λ q m. h q (inr m)) in
    let e = path_steps_length p (h p (inl refl)) in
    omega (arith, h p (inl refl), length-append p (flatten paths), length-append (steps_of_path p) (steps_of paths))

-- ---- the walk
-- what the paths over links come to, by their line bits
pub record Found (links : Drawing) (bits : List ℕ) (paths : List (List Point)) : Type 0 where
  pub travel : tally travel_of (steps_of paths) ≡ travel_over links bits
  pub points : length (flatten paths) ≡ length (steps_of paths) + length paths
  pub few_paths : length paths ≤ length (steps_of paths)
  pub few_steps : length (steps_of paths) ≤ 2 * length bits

pub bits_found : (links : Drawing) → AllRise links → (bits : List ℕ) → length bits ≡ length links → Found links bits (bits_paths links bits)
bits_found links rise bits e =
    let paths = bits_paths links bits in
    let l = paths_length_lem paths (paths_long links bits) in
    record {
      travel = bits_steps links rise bits e travel_of ∙ worth-travel links bits;
      points = l.0;
      few_paths = l.1;
      few_steps = omega (arith, tally_one (steps_of paths), bits_steps links rise bits e ones, worth-ones links bits e, bits_few bits);
    }

-- paths by n bytes of line bits or fewer fit in lists of 8n and 2n entries
pub found_fit : {links : Drawing} {bits : List ℕ} {paths : List (List Point)} → Found links bits paths → (n : ℕ) → length bits ≤ n → (2 * length (flatten paths) ≤ 8 * n) × (length paths ≤ 2 * n)
found_fit f n h = (omega (arith, f.points, f.few_paths, f.few_steps), omega (arith, f.few_paths, f.few_steps))

-- ---- a clip run
pub kept_proper : (rule : Rule) (filter : Filter) (d : Drawing) → AllRise d → AllRise (kept_links rule filter d)
unfolding kept_links
kept_proper rule filter d proper s m = proper s (keep_in (λ t. keeps filter (fill rule d t)) s d m).0

module _ (d : Drawing) (g : Good d) (rule : Rule) (filter : Filter) where
  pub clip_found : Found (kept_links rule filter d) (line_bits (kept_links rule filter d)) (clip_paths rule filter d)
  unfolding clip_paths walk
  clip_found = bits_found (kept_links rule filter d) (kept_proper rule filter d g.faultless.proper) (line_bits (kept_links rule filter d)) (length-map (kept_links rule filter d) (λ s. nat_abs s.bits))

  pub clip_fits : (2 * length (flatten (clip_paths rule filter d)) ≤ 8 * length d) × (length (clip_paths rule filter d) ≤ 2 * length d)
  unfolding kept_links
  clip_fits =
      let bits : Segment → ℕ = λ s. nat_abs s.bits in
      found_fit clip_found (length d) (omega (arith, length-map (kept_links rule filter d) bits, length_keep (λ s. keeps filter (fill rule d s)) d))
