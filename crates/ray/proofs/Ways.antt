-- At every point a rule changes as much over the segments that start there as over those that end there.
use mathlib.Core.Path.{◌≡◌, refl, sym, ◌∙◌, ap, ap₂}
use mathlib.Core.Bool.{Bool, true, false, cond}
use Prim.Native.Nat.{ℕ, ◌+◌}
use lib.IntN.{ℤ, pos, ◌+ℤ◌, ◌-ℤ◌}
use Rattle.integers.proofs.Linear.{ints, of--, of_pos}
use Rattle.geom.specs.declared.Point.{Point}
use Rattle.geom.specs.Points.{eq_p}
use Rattle.segm.specs.declared.Segment.{Segment}
use Rattle.lists.specs.Sums.{sum, tally, only}
use Rattle.segm.specs.Segments.{Drawing}
use Rattle.lists.proofs.Sums.{sum_cong, sum--, sum_tally}
use Rattle.checks.specs.Accepted.{Good}
use Rattle.ray.specs.Ray.{bottom, top}
use Rattle.ray.proofs.Invariance.{beneath_point}
use Rattle.ray.proofs.Ends.{ends}
use Rattle.ray.proofs.Starts.{starts}
use Rattle.ray.proofs.Flow.{as_many}
use Rattle.ray.proofs.Telescope.{change}

-- f of a count, as a rule is: what it changes over the segments that start at p is what it changes over those that end there
pub ways : {d : Drawing} → Good d → (f : ℤ → ℤ) (p : Point)
    → sum (λ s. only (eq_p s.a p) (f (top d s) -ℤ f (bottom d s))) d ≡ sum (λ s. only (eq_p s.b p) (f (top d s) -ℤ f (bottom d s))) d
unfolding change top
ways {d} g f p = starts g f p ∙ ap (λ z. f (beneath_point d p +ℤ z) -ℤ f (beneath_point d p)) (as_many d g.balanced p) ∙ sym (ends g f p)

-- ---- the same in ℕ: for a rule of 0 and 1, as many ways lead out of p as into it.
-- A filled top is a way from a to b, a filled bottom a way from b to a; or both the other way round
abbrev pub out : Drawing → (ℤ → ℕ) → Point → ℕ
out d f p = tally (λ s. cond (eq_p s.a p) (f (top d s)) 0) d + tally (λ s. cond (eq_p s.b p) (f (bottom d s)) 0) d

abbrev pub into : Drawing → (ℤ → ℕ) → Point → ℕ
into d f p = tally (λ s. cond (eq_p s.b p) (f (top d s)) 0) d + tally (λ s. cond (eq_p s.a p) (f (bottom d s)) 0) d

-- a sum of differences, where a test holds
halves : (d : Drawing) (P : Segment → Bool) (t b : Segment → ℕ)
    → sum (λ s. only (P s) (pos (t s) -ℤ pos (b s))) d ≡ pos (tally (λ s. cond (P s) (t s) 0) d) -ℤ pos (tally (λ s. cond (P s) (b s) 0) d)
halves d P t b =
    sum_cong d (λ s m. split (P s) (t s) (b s)) ∙ sum-- (λ s. pos (cond (P s) (t s) 0)) (λ s. pos (cond (P s) (b s) 0)) d
    ∙ ap₂ ◌-ℤ◌ (sum_tally (λ s. cond (P s) (t s) 0) d) (sum_tally (λ s. cond (P s) (b s) 0) d)
  where
    split : (e : Bool) (m n : ℕ) → only e (pos m -ℤ pos n) ≡ pos (cond e m 0) -ℤ pos (cond e n 0)
    split true m n = refl
    split false m n = refl

apart : (a b c e : ℕ) → pos a -ℤ pos b ≡ pos c -ℤ pos e → a + e ≡ c + b
apart a b c e h = omega (ints, of-- (pos a) (pos b), of-- (pos c) (pos e), of_pos a, of_pos b, of_pos c, of_pos e)

pub as_many_ways : {d : Drawing} → Good d → (f : ℤ → ℕ) (p : Point) → out d f p ≡ into d f p
as_many_ways {d} g f p =
    apart (tally (λ s. cond (eq_p s.a p) (f (top d s)) 0) d) (tally (λ s. cond (eq_p s.a p) (f (bottom d s)) 0) d)
    (tally (λ s. cond (eq_p s.b p) (f (top d s)) 0) d) (tally (λ s. cond (eq_p s.b p) (f (bottom d s)) 0) d)
    (sym (halves d (λ s. eq_p s.a p) (λ s. f (top d s)) (λ s. f (bottom d s))) ∙ ways g (λ z. pos (f z)) p ∙ halves d (λ s. eq_p s.b p) (λ s. f (top d s)) (λ s. f (bottom d s)))
