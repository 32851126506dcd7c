-- What an accepted drawing has, in the forms that later layers use.
use mathlib.Core.Path.{◌≡◌, refl, ap, subst, ◌∙◌}
use mathlib.Core.List.{List, [], ◌∷◌}
use mathlib.Core.Logic.{◌⊎◌, inl, inr}
use mathlib.Core.Bool.{true, false}
use Prim.Native.Nat.{ℕ, ◌<◌, ◌≤◌}
use native.Mathlib.Omega.{arith}
use lib.Dec.{ltb}
use lib.ListN.{length}
use lib.IntN.{ℤ, pos, ◌-ℤ◌}
use borrow.Author.Tests.{ltb-true, ltb-false}
use Rattle.integers.proofs.Booleans.{dec, clash}
use Rattle.lists.specs.Members.{◌∈◌, Pairs, any}
use Rattle.lists.proofs.Members.{pairs_map, pairs_places, in_after}
use Rattle.geom.specs.declared.Point.{Point}
use Rattle.geom.specs.Points.{eq_p}
use Rattle.geom.proofs.Points.{eq_z-true, eq_p-true}
use Rattle.refusal.specs.Order.{accepted}
use Rattle.refusal.specs.Asked.{Choice, unknown_choice, Lent, too_short}
use Rattle.refusal.proofs.Order.{accepted_then, is_accepted_lem}
use Rattle.segm.specs.declared.Segment.{Segment}
use Rattle.segm.specs.Segments.{Drawing, count, segments, nowhere, segment_at}
use Rattle.segm.proofs.Segments.{everywhere, total-none}
use Rattle.faults.proofs.Faultless.{faultless}
use Rattle.meetings.specs.Meetings.{same_ends}
use Rattle.meetings.proofs.Meetings.Apart.{apart_ends, same_ends_sym}
use Rattle.balance.specs.Balance.{balance, balances}
use Rattle.drawing_check.specs.Drawing.{drawing_verdict}
use Rattle.checks.specs.Runs.{Run, clip_input, asked, verdict}
use Rattle.checks.specs.Accepted.{Good, accepts}
use Rattle.drawing_check.proofs.Drawing.{no_meeting, balanced_at, drawing_passed}
use Rattle.checks.proofs.Runs.{asked_few, passed, passes}

-- ---- balance: a point is an end, or nothing starts or ends there
data End (d : Drawing) (p : Point) : Type 0 where
  a_of : (s : Segment) → s ∈ d → s.a ≡ p → End d p
  b_of : (s : Segment) → s ∈ d → s.b ≡ p → End d p
  free : ((s : Segment) → s ∈ d → (eq_p s.a p ≡ false) × (eq_p s.b p ≡ false)) → End d p

end : (d : Drawing) (p : Point) → End d p
end [] p = free (λ s m. absurd m)
end (s ∷ d) p = go (dec (eq_p s.a p)) (dec (eq_p s.b p)) (end d p)
  where
    go : (eq_p s.a p ≡ true) ⊎ (eq_p s.a p ≡ false) → (eq_p s.b p ≡ true) ⊎ (eq_p s.b p ≡ false) → End d p → End (s ∷ d) p
    go (inl e) f r = a_of s (inl refl) (eq_p-true e)
    go (inr e) (inl f) r = b_of s (inl refl) (eq_p-true f)
    go (inr e) (inr f) (a_of t m q) = a_of t (inr m) q
    go (inr e) (inr f) (b_of t m q) = b_of t (inr m) q
    go (inr e) (inr f) (free h) = free by
      where
        by : (t : Segment) → (t ≡ s) ⊎ (t ∈ d) → (eq_p t.a p ≡ false) × (eq_p t.b p ≡ false)
        by t (inl q) = (ap (λ (i : Segment). eq_p i.a p) q ∙ e, ap (λ (i : Segment). eq_p i.b p) q ∙ f)
        by t (inr m) = h t m

balance_free : (d : Drawing) (p : Point) → ((s : Segment) → s ∈ d → (eq_p s.a p ≡ false) × (eq_p s.b p ≡ false)) → balance d p ≡ pos 0
unfolding balance
balance_free d p h = (λ i. total-none d (λ s. eq_p s.a p) (λ s m. (h s m).0) i -ℤ total-none d (λ s. eq_p s.b p) (λ s m. (h s m).1) i)

balanced_all : (d : Drawing) → ((s : Segment) → s ∈ d → (balances d s.a ≡ true) × (balances d s.b ≡ true)) → (p : Point) → balance d p ≡ pos 0
unfolding balances
balanced_all d ends p = go (end d p)
  where
    go : End d p → balance d p ≡ pos 0
    go (a_of s m q) = subst (λ (r : Point). balance d r ≡ pos 0) q (eq_z-true (ends s m).0)
    go (b_of s m q) = subst (λ (r : Point). balance d r ≡ pos 0) q (eq_z-true (ends s m).1)
    go (free h) = balance_free d p h

-- ---- the law
pub drawing_good : (d : Drawing) → length d ≤ 1024 → drawing_verdict d ≡ accepted → Good d
unfolding segment_at
drawing_good d few e =
    let c = drawing_passed d e in
    record {
      faultless = faultless d few c.faultless;
      apart = (no_meeting d).0 c.apart;
      balanced = balanced_all d (everywhere d (λ s. (balances d s.a ≡ true) × (balances d s.b ≡ true)) (balanced_at d c.balanced));
    }

pub verdict_good : (r : Run) → verdict r ≡ accepted → Good (segments r.numbers)
unfolding verdict
verdict_good r e = let both = accepted_then (asked r) _ e in drawing_good (segments r.numbers) (asked_few r both.0) both.1

-- an accepted drawing: what a run was lent does not count
module _ (numbers : List ℤ) (rule invert boundary : ℤ) (e : accepts numbers rule invert boundary ≡ true) where
  pub accepted_input : verdict (clip_input numbers rule invert boundary) ≡ accepted
  unfolding accepts
  accepted_input = is_accepted_lem _ e

  pub accepted_good : Good (segments numbers)
  accepted_good = verdict_good _ accepted_input

  -- any run on it is accepted, if its choices are known and its lists long enough
  pub accepted_run : (choices : List Choice) (lists : List Lent) → any unknown_choice choices ≡ false → any (too_short (count numbers)) lists ≡ false → verdict (record { numbers = numbers; choices = choices; lists = lists }) ≡ accepted
  accepted_run choices lists known long =
      let p = passed _ accepted_input in
      passes _ (record { asks = record { right_length = p.asks.right_length; known = known; long = long }; drawing = p.drawing })

-- ---- in a good drawing two different places never have both ends equal
module _ (d : Drawing) (g : Good d) where
  pub distinct : Pairs (λ s t. same_ends s t ≡ false) d
  distinct = pairs_map d (λ s t m n e. apart_ends s t e) g.apart

  pub distinct_places : (i j : ℕ) → i < length d → j < length d → same_ends (segment_at d i) (segment_at d j) ≡ true → i ≡ j
  unfolding segment_at
  distinct_places i j hi hj e = go (dec (ltb i j)) (dec (ltb j i))
    where
      -- the earlier place first
      never : (i j : ℕ) → i < j → j < length d → same_ends (segment_at d i) (segment_at d j) ≡ true → ⊥
      never i j l h e = clash e (pairs_places (λ s t. same_ends s t ≡ false) d nowhere distinct i (omega arith) (segment_at d j) (in_after d nowhere i j l h))

      go : (ltb i j ≡ true) ⊎ (ltb i j ≡ false) → (ltb j i ≡ true) ⊎ (ltb j i ≡ false) → i ≡ j
      go (inl l) m = absurd (never i j (ltb-true i j l) hj e)
      go (inr l) (inl m) = absurd (never j i (ltb-true j i m) hi (same_ends_sym (segment_at d i) (segment_at d j) e))
      go (inr l) (inr m) = omega (arith, ltb-false i j l, ltb-false j i m)
