-- Why no idle program passes.
use mathlib.Core.Path.{◌≡◌, refl, sym, ◌∙◌, ap}
use mathlib.Core.List.{List, [], ◌∷◌, flatten}
use mathlib.Core.Option.{some}
use mathlib.Core.Bool.{true, false}
use mathlib.Core.Logic.{◌≢◌, ◌⊎◌, inl, inr}
use Prim.Native.Nat.{ℕ}
use native.Mathlib.Omega.{arith}
use lib.IntN.{ℤ, pos, nat_abs}
use Rattle.geom.specs.declared.Point.{Point}
use Rattle.geom.specs.Points.{eq_z, within, lt_p, eq_p, coordinate, in_range, cross, between, travel}
use Rattle.lists.specs.Members.{◌∈◌, any, keep}
use Rattle.lists.specs.Sums.{sum, tally}
use Rattle.lists.specs.Written.{written}
use Rattle.lists.specs.UpFrom.{up_from}
use Rattle.segm.specs.declared.Segment.{Segment}
use Rattle.segm.specs.Segments.{front, segments_of, count, whole, segments, segment_at, total}
use Rattle.contour.specs.Points.{coordinates}
use Rattle.meetings.specs.Meetings.{side, parts, in_interior, same_ends, meets_wrongly}
use Rattle.balance.specs.Balance.{balance, balances}
use Rattle.faults.specs.Faults.{ends_in_range, rises, winding_in_range, bits_in_range, lot_in_range, fault, fault_at, faults_of}
use Rattle.std.specs.Prelude.{Ok, Err}
use Rattle.refusal.specs.declared.Kind.{Kind}
use Rattle.refusal.specs.declared.Kind.TheVariants.{StuckWalk}
use Rattle.refusal.specs.declared.Refusal.{Refusal}
use Rattle.refusal.specs.Order.{Verdict, refusal}
use Rattle.refusal.specs.Asked.{wrong_length, unknown_choice, too_short, asked_first}
use Rattle.refusal.specs.Order.{first_from, first}
use Rattle.drawing_check.specs.Drawing.{meeting_at, unbalanced_at, meetings_of, unbalanced_of, drawing_verdict}
use Rattle.checks.specs.Runs.{Run, asked, verdict, clip_run}
use Rattle.checks.specs.Accepted.{accepts, Fits, wrong_length_lem, coordinate_out, not_rising, winding_out, bits_out, lot_out, start_falls, wrong_meeting, a_unbalanced, b_unbalanced, unknown_choice_lem, too_short_lem}
use Rattle.checks.proofs.Runs.Listed.{refused_fits}
use Rattle.fill_rule.specs.FillRule.{filled, rule_of, fill_of}
use Rattle.strip.specs.Strip.{spans, above, clockwise}
use Rattle.ray.specs.Ray.{met, bottom, top, fill}
use Rattle.build.specs.Links.{sides_set, keeps_sides, keeps, filter_of, kept_links}
use Rattle.graph.specs.Nodes.{node}
use Rattle.moves.specs.Bits.{has, clear}
use Rattle.moves.specs.Steps.{Step, step, as_drawn, way, other, fitting}
use Rattle.moves.specs.Moves.{Move, remains, taken, taken_all, bits_remaining, over}
use Rattle.moves.specs.Begins.{first_remaining, both_moves, begins}
use Rattle.clip_walk.specs.Walk.{goes_on, follow, path_from, paths_from, walk}
use Rattle.clip_paths.specs.Paths.{through, finished, path_points, clip_paths, steps_from, steps_of_path, steps_of, travel_of, totals}
use Rattle.string_clip.specs.Run.{lists, Room, Outcome, output, clip_outcome}
use Rattle.clip_claim.specs.Claim.{Direction, along, drawn, travelled, own_steps, own_travel, times, enough, ray_keeps, InsideAndOutside}
use Rattle.clip_claim.proofs.Claim.Together.{count-some, inside_and_outside}
use Rattle.slice_walk.specs.Walk.{walks}
use Rattle.string_slice.specs.Contours.{side_bits, slice_contours}
use Rattle.string_slice.specs.Run as slice
use Rattle.trials.specs.Trials.{held, held_numbers}
use Rattle.trials.specs.Idle.{bare, upright, line_path, Holds, Idle}

-- ---- the bare line
the_segment : Segment
the_segment = record { a = record { x = pos 0; y = pos 0 }; b = record { x = pos 2; y = pos 0 }; winding = pos 0; bits = pos 1; lot = pos 0 }

-- its one drawn line direction, and its step
abbrev the_line : Direction
the_line = along the_segment true

abbrev its_step : Step
its_step = step the_segment.a the_segment.b

is_drawn : the_line ∈ drawn (segments bare)
unfolding drawn segments segments_of front count whole has the_segment
is_drawn = inl refl

only-drawn : (δ : Direction) → δ ∈ drawn (segments bare) → travelled δ ≡ its_step
unfolding drawn segments segments_of front count whole has travelled as_drawn the_segment
only-drawn δ (inl e) = ap travelled e
only-drawn δ (inr x') = elim x' [ ]

-- no step, so none counted
none_counted : (paths : List (List Point)) → paths ≡ [] → (σ : Step) → times σ (steps_of paths) ≡ 0
unfolding steps_of times tally
none_counted paths e σ = rw e

no_clash : {A : Type 0} {m : ℕ} → m ≡ 0 → m ≡ 1 → A
no_clash e f = absurd (omega arith)

not_kept : ray_keeps (rule_of (pos 1)) (pos 1) (segments bare) the_segment ≡ false
unfolding ray_keeps enough filled rule_of eq_z top bottom total met spans above clockwise side cross eq_p segments segments_of front count whole sum the_segment
not_kept = refl

-- the line is in neither output if the outside one holds nothing: the ray keeps it out of the inside one
none_outside : (inside outside : Outcome) → output outside ≡ [] → ¬ Holds inside outside
none_outside inside outside e h = go (h.once the_line is_drawn)
  where
    σ : Step
    σ = travelled the_line

    go : ((times σ (steps_of (output inside)) ≡ 1) × (times σ (steps_of (output outside)) ≡ 0)) ⊎ ((times σ (steps_of (output inside)) ≡ 0) × (times σ (steps_of (output outside)) ≡ 1)) → ⊥
    go (inl (m, n)) = let z : true ≡ false = sym ((h.by_the_ray the_line is_drawn).0 (count-some σ (steps_of (output inside)) (omega arith))) ∙ not_kept in let y : ◌≡◌ {A = ℕ} 0 1 = cc in omega arith
    go (inr (m, n)) = no_clash (none_counted (output outside) e σ) n

-- ---- the runs themselves
bare_accepted : accepts bare (pos 1) (pos 0) (pos 1) ≡ true
unfolding accepts eq_z within lt_p eq_p coordinate in_range cross between any sum front segments_of count whole segments segment_at total side parts in_interior same_ends meets_wrongly ends_in_range rises winding_in_range bits_in_range lot_in_range fault fault_at meeting_at balance balances unbalanced_at wrong_length unknown_choice too_short first_from first asked asked_first drawing_verdict faults_of meetings_of unbalanced_of verdict clip_run
bare_accepted = refl

bare_room : Room bare (lists (held_numbers 8) (held 2))
unfolding segments segments_of front count whole up_from
bare_room = record { points_fit = omega arith; lengths_fit = omega arith }

-- ---- a canned path
-- a path of which each step is the line's, and one is, is the line
its_own : (path : List Point) → ((σ : Step) → σ ∈ steps_of (path ∷ []) → σ ≡ its_step) → times its_step (steps_of (path ∷ [])) ≡ 1 → path ≡ line_path
unfolding steps_of steps_of_path steps_from times tally the_segment
its_own [] own n = absurd (omega arith)
its_own (p ∷ []) own n = absurd (omega arith)
its_own (p ∷ q ∷ []) own n = let e = own (step p q) (inl refl) in let f = ap (λ σ. σ.start) e in let g = ap (λ σ. σ.end) e in cc
its_own (p ∷ q ∷ r ∷ l) own n =
    let e = own (step p q) (inl refl) in
    let f = own (step q r) (inr (inl refl)) in
    absurd (omega (arith, ap (λ (σ : Step). nat_abs σ.end.x) e, ap (λ (σ : Step). nat_abs σ.start.x) f))

canned : (path : List Point) → path ≢ line_path → (inside outside : Outcome) → output inside ≡ [] → output outside ≡ path ∷ [] → ¬ Holds inside outside
canned path differs inside outside e f h = go (h.once the_line is_drawn)
  where
    σ : Step
    σ = travelled the_line

    own : (τ : Step) → τ ∈ steps_of (path ∷ []) → τ ≡ its_step
    own τ m = let r = h.no_other τ (inr (rw f m)) in r.2 ∙ only-drawn r.0 r.1

    go : ((times σ (steps_of (output inside)) ≡ 1) × (times σ (steps_of (output outside)) ≡ 0)) ⊎ ((times σ (steps_of (output inside)) ≡ 0) × (times σ (steps_of (output outside)) ≡ 1)) → ⊥
    go (inl (m, n)) = no_clash (none_counted (output inside) e σ) m
    go (inr (m, n)) = differs (its_own path own (rw (f, only-drawn the_line is_drawn) at n))

-- ---- another line
upright-step : (δ : Direction) → δ ∈ drawn (segments upright) → (travelled δ).end.x ≡ pos 0
unfolding drawn segments segments_of front count whole has travelled as_drawn
upright-step δ (inl e) = ap (λ (ε : Direction). (travelled ε).end.x) e
upright-step δ (inr x') = elim x' [ ]

other-line : (inside outside : Outcome) → Holds inside outside → ¬ InsideAndOutside (segments upright) (rule_of (pos 1)) (pos 1) inside outside
unfolding travelled as_drawn the_segment
other-line inside outside h g = go (h.once the_line is_drawn)
  where
    σ : Step
    σ = travelled the_line

    clash : (σ ∈ steps_of (output inside)) ⊎ (σ ∈ steps_of (output outside)) → ⊥
    clash m = let r = g.no_other σ m in omega (arith, ap nat_abs (ap (λ (τ : Step). τ.end.x) r.2 ∙ upright-step r.0 r.1))

    go : ((times σ (steps_of (output inside)) ≡ 1) × (times σ (steps_of (output outside)) ≡ 0)) ⊎ ((times σ (steps_of (output inside)) ≡ 0) × (times σ (steps_of (output outside)) ≡ 1)) → ⊥
    go (inl (m, n)) = clash (inl (count-some σ (steps_of (output inside)) (omega arith)))
    go (inr (m, n)) = clash (inr (count-some σ (steps_of (output outside)) (omega arith)))

-- ---- 12
-- no refusal from the input is 12
not_stuck : (r : Run) (kind : Kind) (place : ℕ) → Fits r kind place → kind ≢ StuckWalk
not_stuck r kind place f e = go f e
  where
    go : {kind : Kind} {place : ℕ} → Fits r kind place → kind ≡ StuckWalk → ⊥
    go (wrong_length_lem h) e = cc
    go (coordinate_out i m h) e = cc
    go (not_rising i m h) e = cc
    go (winding_out i m h) e = cc
    go (bits_out i m h) e = cc
    go (lot_out i m h) e = cc
    go (start_falls i m h) e = cc
    go (wrong_meeting i j m n h) e = cc
    go (a_unbalanced i m h) e = cc
    go (b_unbalanced i m h) e = cc
    go (unknown_choice_lem c m h) e = cc
    go (too_short_lem l m h) e = cc

moves_found : (numbers : List ℤ) (rule direction : ℤ) (least : ℕ) (ls : slice.Lists) (found : List (List Move))
    → walks (segments numbers) (side_bits (rule_of rule) (segments numbers)) ≡ some found → (place : ℕ)
    → (slice.slice_outcome numbers rule direction least ls).answer ≢ Err (refusal StuckWalk place)
unfolding slice.slice_outcome slice_contours
moves_found numbers rule direction least ls found e place f = go (verdict r) refl f
  where
    r : Run
    r = slice.run_of numbers rule direction ls

    go : (v : Verdict) → verdict r ≡ v → (slice.answered v (slice_contours (rule_of rule) (eq_z direction (pos 1)) least (segments numbers)) ls).answer ≡ Err (refusal StuckWalk place) → ⊥
    go (Ok _) v f = let g = rw e at f in cc
    go (Err x) v f = not_stuck r x.kind x.place (refused_fits r x.kind x.place v) (cc)

-- ---- the list
pub idle : Idle
unfolding accepts eq_z within lt_p eq_p coordinate in_range cross between any sum tally keep written up_from front segments_of count whole segments segment_at total coordinates side parts in_interior same_ends meets_wrongly ends_in_range rises winding_in_range bits_in_range lot_in_range fault fault_at meeting_at balance balances unbalanced_at wrong_length unknown_choice too_short first_from first asked asked_first drawing_verdict faults_of meetings_of unbalanced_of verdict clip_run spans above clockwise met bottom top filled rule_of fill_of fill sides_set keeps_sides keeps filter_of kept_links node has clear as_drawn remains taken taken_all bits_remaining first_remaining both_moves begins way over other fitting goes_on follow path_from paths_from walk through finished path_points clip_paths steps_from steps_of_path steps_of travel_of travel totals clip_outcome flatten drawn own_steps own_travel
idle = record {
  accepted = bare_accepted;
  runs_hold = (inside_and_outside bare (pos 1) (pos 1) bare_accepted _ _ bare_room bare_room).0;
  no_cuts = λ inside outside e f. none_outside inside outside f;
  canned = other-line;
  canned_inside = λ path n inside outside e f. none_outside inside outside f;
  canned_outside = canned;
  each_alone = λ e. omega (arith, ap (λ o. o.numbers.totals.paths) e);
  all_inside = none_outside;
  all_refused = λ r e. cc;
  steps_altered = λ inside outside n h. n h.all_steps;
  travel_altered = λ inside outside n h. n h.all_travel;
  no_move = moves_found;
}
