-- Inside and outside together: the one claim about two clip runs with one drawing, rule and boundary, over their outputs as read from the lent lists.
use Rattle.std.specs.Prelude.{◌≡◌, ◌⊎◌, ◌↔◌, Bool, true, false, ◌&&◌, ◌||◌, cond, ℕ, ◌+◌, ◌*◌, ◌≤◌, length, drop, ℤ, pos, nat_abs}
use mathlib.Core.List.{List, [], ◌∷◌, flatten}
use Rattle.geom.specs.Points.{eq_z, eq_p, travel}
use Rattle.segm.specs.declared.Segment.{Segment}
use Rattle.lists.specs.Members.{◌∈◌}
use Rattle.lists.specs.Sums.{tally, one}
use Rattle.segm.specs.Segments.{Drawing}
use Rattle.fill_rule.specs.declared.Rule.{Rule}
use Rattle.fill_rule.specs.FillRule.{filled}
use Rattle.ray.specs.Ray.{bottom, top}
use Rattle.moves.specs.Bits.{has}
use Rattle.moves.specs.Steps.{Step, as_drawn}
use Rattle.clip_paths.specs.Paths.{steps_of, travel_of}
use Rattle.string_clip.specs.Run.{Lists, Outcome, output}

-- ---- the drawing's own
-- a drawn line direction: one line bit set in one segment
pub record Direction : Type 0 where
  pub segment : Segment
  pub forth : Bool

abbrev pub along : Segment → Bool → Direction
along s forth = record { segment = s; forth = forth }

-- x before l if b
abbrev pub put_if : {A : Type 0} → Bool → A → List A → List A
put_if b x l = cond b (x ∷ l) l

-- the drawn line directions of a drawing, segment by segment, bit 1 before bit 2
unfoldable pub drawn : Drawing → List Direction
drawn [] = []
drawn (s ∷ d) = put_if (has true (nat_abs s.bits)) (along s true) (put_if (has false (nat_abs s.bits)) (along s false) (drawn d))

-- travelled as drawn, it is the step from a to b for bit 1 and from b to a for bit 2
unfoldable pub travelled : Direction → Step
travelled δ = as_drawn δ.forth δ.segment

-- the number of line bits set in all segments
unfoldable pub own_steps : Drawing → ℕ
own_steps d = length (drawn d)

-- the sum of |dx| + |dy| of the segment over each such bit
unfoldable pub own_travel : Drawing → ℕ
own_travel d = tally (λ (δ : Direction). travel δ.segment.a δ.segment.b) (drawn d)

-- ---- counting
-- the two are one step
unfoldable pub same : Step → Step → Bool
same σ τ = eq_p σ.start τ.start && eq_p σ.end τ.end

-- how often a step stands in a list
unfoldable pub times : Step → List Step → ℕ
times σ l = tally (λ τ. one (same σ τ)) l

-- one of two counts is 1 and the other 0
abbrev pub OneOf : ℕ → ℕ → Type 0
OneOf m n = ((m ≡ 1) × (n ≡ 0)) ⊎ ((m ≡ 0) × (n ≡ 1))

-- ---- the ray
-- both sides (boundary excluded), or at least one (included)
unfoldable pub enough : ℤ → Bool → Bool → Bool
enough boundary t b = cond (eq_z boundary (pos 0)) (t && b) (t || b)

-- the ray fills as many sides of s as the boundary asks for
unfoldable pub ray_keeps : Rule → ℤ → Drawing → Segment → Bool
ray_keeps rule boundary d s = enough boundary (filled rule (top d s)) (filled rule (bottom d s))

-- ---- the claim
-- what holds of the outcomes of an inside and an outside run
pub record InsideAndOutside (d : Drawing) (rule : Rule) (boundary : ℤ) (inside outside : Outcome) : Type 0 where
  -- every drawn line direction is a step of exactly one of the two outputs, once in it, travelled as drawn
  pub once : (δ : Direction) → δ ∈ drawn d → OneOf (times (travelled δ) (steps_of (output inside))) (times (travelled δ) (steps_of (output outside)))
  -- the two outputs hold no other step
  pub no_other : (σ : Step) → (σ ∈ steps_of (output inside)) ⊎ (σ ∈ steps_of (output outside)) → (δ : Direction) × (δ ∈ drawn d) × (σ ≡ travelled δ)
  -- it is in the inside output exactly when the ray fills at least one side of its segment (boundary included) or both (excluded)
  pub by_the_ray : (δ : Direction) → δ ∈ drawn d → (travelled δ ∈ steps_of (output inside)) ↔ (ray_keeps rule boundary d δ.segment ≡ true)
  -- reported steps and travel add up to the drawing's own
  pub all_steps : inside.numbers.totals.steps + outside.numbers.totals.steps ≡ own_steps d
  pub all_travel : inside.numbers.totals.travel + outside.numbers.totals.travel ≡ own_travel d

-- a run's own numbers are what its output holds; its lists are as long as they were, and past the answer as they were
pub record Tells (d : Drawing) (ls : Lists) (o : Outcome) : Type 0 where
  pub paths : o.numbers.totals.paths ≡ length (output o)
  pub points_told : o.numbers.totals.points ≡ length (flatten (output o))
  pub steps : o.numbers.totals.steps ≡ length (steps_of (output o))
  pub travel-told : o.numbers.totals.travel ≡ tally travel_of (steps_of (output o))
  pub few_points : 2 * o.numbers.totals.points ≤ 8 * length d
  pub few_paths : o.numbers.totals.paths ≤ 2 * length d
  pub as_long : (length o.lists.points ≡ length ls.points) × (length o.lists.lengths ≡ length ls.lengths)
  pub past : (drop (2 * o.numbers.totals.points) o.lists.points ≡ drop (2 * o.numbers.totals.points) ls.points)
      × (drop o.numbers.totals.paths o.lists.lengths ≡ drop o.numbers.totals.paths ls.lengths)
