-- Inside and outside together: two accepted runs with one drawing, rule and boundary, over their outputs as read from the lent lists.
use mathlib.Core.Path.{◌≡◌, refl, sym, ◌∙◌, ap, ap₂, subst}
use mathlib.Core.List.{List, [], ◌∷◌, map, flatten}
use mathlib.Core.Logic.{inl, inr, ◌↔◌}
use mathlib.Core.Bool.{Bool, true, false, not, cond}
use Prim.Native.Nat.{ℕ, ◌+◌, ◌*◌, ◌<◌, ◌≤◌}
use native.Mathlib.Omega.{arith}
use lib.ListN.{length, length-map}
use lib.IntN.{ℤ, pos}
use Rattle.integers.proofs.Booleans.{neither, nor_l, nor_r}
use Rattle.geom.specs.Points.{within}
use Rattle.lists.specs.Members.{◌∈◌, any}
use Rattle.lists.specs.Sums.{tally, one}
use Rattle.segm.specs.Segments.{Drawing, segments}
use Rattle.lists.proofs.Written.{length_written, written_past}
use Rattle.lists.proofs.Members.{cases}
use Rattle.lists.proofs.Sums.{tally_cong, tally-+, tally_one, tally_in, tally_some}
use Rattle.refusal.specs.Order.{accepted}
use Rattle.refusal.specs.Asked.{unknown_choice}
use Rattle.checks.specs.Runs.{verdict, rule_choice, flag_choice, clip_run}
use Rattle.checks.specs.Accepted.{Good, accepts}
use Rattle.checks.proofs.Runs.{passed}
use Rattle.checks.proofs.Accepted.{distinct, accepted_input, accepted_run}
use Rattle.fill_rule.specs.declared.Rule.{Rule}
use Rattle.build.specs.declared.filter.Filter.{Filter}
use Rattle.fill_rule.specs.FillRule.{rule_of}
use Rattle.ray.specs.Ray.{fill}
use Rattle.build.specs.Links.{keeps, filter_of}
use Rattle.moves.specs.Steps.{Step}
use Rattle.moves.proofs.Worth.{cond_some}
use Rattle.clip_paths.specs.Paths.{clip_paths, steps_of, travel_of, totals}
use Rattle.contour.specs.Points.{coordinates}
use Rattle.contour.proofs.Points.Coordinates.{length-coordinates}
use Rattle.string_clip.specs.Run.{Lists, run_of, Outcome, answered, clip_outcome, output, Room}
use Rattle.clip_claim.specs.Claim.{Direction, drawn, travelled, own_steps, own_travel, same, times, OneOf, ray_keeps, InsideAndOutside, Tells}
use Rattle.string_clip.proofs.Run.ReadBack.{read_back}
use Rattle.string_clip.proofs.Run.Accepted.{accepted_drawing, accepted_outcome, accepted_room, room_long}
use Rattle.clip_claim.proofs.Claim.Own.{same_true, same_refl, in_drawn, drawn_apart, once_among, run_tally, keeps-drawn}
use Rattle.clip_paths.proofs.Writing.Found.{travel_either, clip_fits}

-- ---- one run
run_tells : (d : Drawing) → Good d → (rule : Rule) (filter : Filter) (ls : Lists) → 8 * length d ≤ length ls.points → 2 * length d ≤ length ls.lengths
    → Tells d ls (answered accepted (clip_paths rule filter d) ls)
unfolding totals
run_tells d g rule filter ls h k =
    let paths = clip_paths rule filter d in
    let back : paths ≡ output (answered accepted paths ls) = sym (read_back paths ls) in
    let fits = clip_fits d g rule filter in
    let f = length-coordinates (flatten paths) in
    let m : length (map length paths) ≡ length paths = length-map paths length in
    record {
      paths = ap length back;
      points_told = ap (λ z. length (flatten z)) back;
      steps = ap (λ z. length (steps_of z)) back;
      travel-told = ap (λ z. tally travel_of (steps_of z)) back;
      few_points = fits.0;
      few_paths = fits.1;
      as_long = (length_written (coordinates (flatten paths)) ls.points (omega (arith, fits.0)), length_written (map length paths) ls.lengths (omega (arith, fits.1)));
      past = (written_past (coordinates (flatten paths)) ls.points (2 * length (flatten paths)) (sym f), written_past (map length paths) ls.lengths (length paths) (sym m));
    }

-- ---- two runs
one_side : (b : Bool) (n : ℕ) → cond b n 0 + cond (not b) n 0 ≡ n
one_side true n = omega arith
one_side false n = omega arith

counted : (σ : Step) (l : List Step) → σ ∈ l → 0 < times σ l
unfolding times
counted σ l m = omega (arith, tally_in (λ τ. one (same σ τ)) σ l m, ap one (same_refl σ))

pub count-some : (σ : Step) (l : List Step) → 0 < times σ l → σ ∈ l
unfolding times
count-some σ l h = let r = tally_some (λ τ. one (same σ τ)) l h in subst (λ τ. τ ∈ l) (sym (same_true σ r.0 (cond_some (same σ r.0) r.2).0)) r.1

module _ (d : Drawing) (g : Good d) (rule : Rule) (boundary : ℤ) where
  -- a direction's segment is kept, by its fill
  abbrev kept_by : ℤ → Direction → Bool
  kept_by invert δ = keeps (filter_of invert boundary) (fill rule d δ.segment)

  abbrev steps_by : ℤ → List Step
  steps_by invert = steps_of (clip_paths rule (filter_of invert boundary) d)

  by_ray : (δ : Direction) → δ ∈ drawn d → (kept_by (pos 0) δ ≡ ray_keeps rule boundary d δ.segment) × (kept_by (pos 1) δ ≡ not (ray_keeps rule boundary d δ.segment))
  by_ray δ m = keeps-drawn rule boundary d δ.forth δ.segment (in_drawn d δ m).1

  tally_by : (invert : ℤ) (f : Step → ℕ) → tally f (steps_by invert) ≡ tally (λ δ. cond (kept_by invert δ) (f (travelled δ)) 0) (drawn d)
  tally_by invert f = run_tally rule (filter_of invert boundary) d g.faultless.proper f

  count_by : (invert : ℤ) (δ : Direction) → δ ∈ drawn d → times (travelled δ) (steps_by invert) ≡ one (kept_by invert δ)
  unfolding times
  count_by invert δ m = tally_by invert (λ τ. one (same (travelled δ) τ)) ∙ once_among (kept_by invert) (drawn d) (drawn_apart d g.faultless.proper (distinct d g)) δ m

  once_in : (δ : Direction) → δ ∈ drawn d → OneOf (times (travelled δ) (steps_by (pos 0))) (times (travelled δ) (steps_by (pos 1)))
  once_in δ m = go (ray_keeps rule boundary d δ.segment) (by_ray δ m).0 (by_ray δ m).1
    where
      go : (b : Bool) → kept_by (pos 0) δ ≡ b → kept_by (pos 1) δ ≡ not b → OneOf (times (travelled δ) (steps_by (pos 0))) (times (travelled δ) (steps_by (pos 1)))
      go true e f = inl (count_by (pos 0) δ m ∙ ap one e, count_by (pos 1) δ m ∙ ap one f)
      go false e f = inr (count_by (pos 0) δ m ∙ ap one e, count_by (pos 1) δ m ∙ ap one f)

  drawn-step : (invert : ℤ) (σ : Step) → σ ∈ steps_by invert → (δ : Direction) × (δ ∈ drawn d) × (σ ≡ travelled δ)
  unfolding times
  drawn-step invert σ m =
      let f : Direction → ℕ = λ δ. cond (kept_by invert δ) (one (same σ (travelled δ))) 0 in
      let r = tally_some f (drawn d) (omega (arith, counted σ (steps_by invert) m, tally_by invert (λ τ. one (same σ τ)))) in
      (r.0, r.1, same_true σ (travelled r.0) (cond_some (same σ (travelled r.0)) (cond_some (kept_by invert r.0) r.2).1).0)

  inside_by_ray : (δ : Direction) → δ ∈ drawn d → (travelled δ ∈ steps_by (pos 0)) ↔ (ray_keeps rule boundary d δ.segment ≡ true)
  inside_by_ray δ m =
      let e = count_by (pos 0) δ m ∙ ap one (by_ray δ m).0 in (
        λ i. (cond_some (ray_keeps rule boundary d δ.segment) {n = 1} (omega (arith, counted (travelled δ) (steps_by (pos 0)) i, e))).0,
        λ h. count-some (travelled δ) (steps_by (pos 0)) (omega (arith, e, ap one h)),
      )

  both_tally : (f : Step → ℕ) → tally f (steps_by (pos 0)) + tally f (steps_by (pos 1)) ≡ tally (λ δ. f (travelled δ)) (drawn d)
  both_tally f =
      let by : ℤ → Direction → ℕ = λ invert δ. cond (kept_by invert δ) (f (travelled δ)) 0 in
      ap₂ ◌+◌ (tally_by (pos 0) f) (tally_by (pos 1) f) ∙ sym (tally-+ (by (pos 0)) (by (pos 1)) (drawn d))
      ∙ tally_cong (drawn d) (λ δ m. rw ((by_ray δ m).0, (by_ray δ m).1) (one_side (ray_keeps rule boundary d δ.segment) (f (travelled δ))))

  sum_steps : length (steps_by (pos 0)) + length (steps_by (pos 1)) ≡ own_steps d
  unfolding own_steps
  sum_steps = omega (arith, both_tally (λ σ. 1), tally_one (steps_by (pos 0)), tally_one (steps_by (pos 1)), tally_one (drawn d))

  sum-travel : tally travel_of (steps_by (pos 0)) + tally travel_of (steps_by (pos 1)) ≡ own_travel d
  unfolding own_travel travelled
  sum-travel = both_tally travel_of ∙ tally_cong (drawn d) (λ δ m. travel_either δ.forth δ.segment)

  module _ (ls₀ ls₁ : Lists) where
    both_good : InsideAndOutside d rule boundary (answered accepted (clip_paths rule (filter_of (pos 0) boundary) d) ls₀) (answered accepted (clip_paths rule (filter_of (pos 1) boundary) d) ls₁)
    unfolding totals
    both_good =
        let back₀ = read_back (clip_paths rule (filter_of (pos 0) boundary) d) ls₀ in
        let back₁ = read_back (clip_paths rule (filter_of (pos 1) boundary) d) ls₁ in
        record {
          once = rw (back₀, back₁) once_in;
          no_other = rw (back₀, back₁) (λ σ. cases (drawn-step (pos 0) σ) (drawn-step (pos 1) σ));
          by_the_ray = rw back₀ inside_by_ray;
          all_steps = sum_steps;
          all_travel = sum-travel;
        }

-- ---- by verdicts
module _ (numbers : List ℤ) (rule invert boundary : ℤ) (ls : Lists) (e : verdict (run_of numbers rule invert boundary ls) ≡ accepted) where
  pub accepted_tells : Tells (segments numbers) ls (clip_outcome numbers rule invert boundary ls)
  accepted_tells =
      let room = accepted_room numbers rule invert boundary ls e in
      rw (accepted_outcome numbers rule invert boundary ls e)
      (run_tells (segments numbers) (accepted_drawing numbers rule invert boundary ls e) (rule_of rule) (filter_of invert boundary) ls room.points_fit room.lengths_fit)

module _ (numbers : List ℤ) (rule boundary : ℤ) (ls₀ ls₁ : Lists) where
  abbrev inside : Outcome
  inside = clip_outcome numbers rule (pos 0) boundary ls₀

  abbrev outside : Outcome
  outside = clip_outcome numbers rule (pos 1) boundary ls₁

  pub both_accepted : verdict (run_of numbers rule (pos 0) boundary ls₀) ≡ accepted → verdict (run_of numbers rule (pos 1) boundary ls₁) ≡ accepted
      → InsideAndOutside (segments numbers) (rule_of rule) boundary inside outside × Tells (segments numbers) ls₀ inside × Tells (segments numbers) ls₁ outside
  both_accepted e₀ e₁ = (
    rw (accepted_outcome numbers rule (pos 0) boundary ls₀ e₀, accepted_outcome numbers rule (pos 1) boundary ls₁ e₁)
        (both_good (segments numbers) (accepted_drawing numbers rule (pos 0) boundary ls₀ e₀) (rule_of rule) boundary ls₀ ls₁),
    accepted_tells numbers rule (pos 0) boundary ls₀ e₀,
    accepted_tells numbers rule (pos 1) boundary ls₁ e₁,
  )

-- ---- the theorem
module _ (numbers : List ℤ) (rule boundary : ℤ) (e : accepts numbers rule (pos 0) boundary ≡ true) where
  -- inside and outside are both known
  choices_known : (invert : ℤ) → unknown_choice (flag_choice invert) ≡ false → any unknown_choice (rule_choice rule ∷ flag_choice invert ∷ flag_choice boundary ∷ []) ≡ false
  unfolding clip_run any
  choices_known invert h =
      let known = (passed _ (accepted_input numbers rule (pos 0) boundary e)).asks.known in
      neither (nor_l (unknown_choice (rule_choice rule)) _ known) (neither h (nor_r (unknown_choice (flag_choice (pos 0))) _ (nor_r (unknown_choice (rule_choice rule)) _ known)))

  room_accepted : (invert : ℤ) → unknown_choice (flag_choice invert) ≡ false → (ls : Lists) → Room numbers ls → verdict (run_of numbers rule invert boundary ls) ≡ accepted
  unfolding clip_run
  room_accepted invert h ls r = accepted_run numbers rule (pos 0) boundary e _ _ (choices_known invert h) (room_long numbers ls r)

pub inside_and_outside : (numbers : List ℤ) (rule boundary : ℤ) → accepts numbers rule (pos 0) boundary ≡ true → (ls₀ ls₁ : Lists) → Room numbers ls₀ → Room numbers ls₁
    → InsideAndOutside (segments numbers) (rule_of rule) boundary (clip_outcome numbers rule (pos 0) boundary ls₀) (clip_outcome numbers rule (pos 1) boundary ls₁)
    × Tells (segments numbers) ls₀ (clip_outcome numbers rule (pos 0) boundary ls₀)
    × Tells (segments numbers) ls₁ (clip_outcome numbers rule (pos 1) boundary ls₁)
unfolding unknown_choice within
inside_and_outside numbers rule boundary e ls₀ ls₁ r₀ r₁ =
    both_accepted numbers rule boundary ls₀ ls₁ (room_accepted numbers rule boundary e (pos 0) refl ls₀ r₀) (room_accepted numbers rule boundary e (pos 1) refl ls₁ r₁)
