-- The gaps of a list: what the tests at a place tell, and one place more.
use mathlib.Core.Path.{◌≡◌, ap, subst, ◌∙◌, sym}
use mathlib.Core.List.{List}
use mathlib.Core.Bool.{true, false}
use mathlib.Core.Logic.{inl, inr}
use Prim.Native.Nat.{ℕ, suc, ◌+◌, ◌-◌, ◌<◌, ◌≤◌}
use native.Mathlib.Omega.{arith}
use native.Mathlib.Decide.{dec_le}
use lib.ListN.{length, get_or, take, set}
use lib.Seq.{get_or-set_same, get_or-set_other}
use lib.IntN.{ℤ, pos, ◌+ℤ◌}
use lib.Signed.{lt_z, ◌<ℤ◌}
use Rattle.integers.proofs.Booleans.{clash, one_of}
use Rattle.integers.proofs.Order.{lt_z_true, lt_le}
use Rattle.integers.proofs.Linear.{ints}
use Rattle.lists.specs.Members.{◌∈◌}
use Rattle.lists.proofs.Members.{in_at, in_take, cases}
use Rattle.geom.specs.declared.Point.{Point}
use Rattle.geom.specs.Points.{eq_p}
use Rattle.geom.proofs.Points.{eq_p-true}
use Rattle.segm.specs.declared.Segment.{Segment}
use Rattle.segm.specs.Segments.{Drawing, segment_at}
use Rattle.meetings.specs.Meetings.{side}
use Rattle.strip.specs.Strip.{is_vertical, above}
use Rattle.strip.specs.Neighbours.{LiesUnder, LiesAbove}
use Rattle.strip.proofs.Strip.Above.{above_yes, above_on, above_off, above_own_a}
use Rattle.strip.proofs.Strip.Gap.{side_own_a}
use Rattle.strip.proofs.Strip.Apart.{Over, over_wide, side_less}
use Rattle.strip.proofs.Neighbours.Upright.{Upright}
use Rattle.scan.specs.declared.Sought.TheVariants.{At}
use Rattle.scan.specs.Scan.{is_below, below_at, Changes}
use Rattle.count_up.specs.CountUp.{last_in}
use Rattle.count_up.proofs.CountUp.{last_cong}
use Rattle.verticals.specs.Verticals.{lies_under, lies_above, InGapAt, StandsInGap, ClearIn, Stood, AllStand}

-- ---- the tests
module _ (p : Point) (t : Segment) where
  pub under-true : lies_under p t ≡ true → LiesUnder (λ s. s.a) p t
  unfolding lies_under
  under-true e = cases (λ h. inl (above_yes t p h)) (λ h. inr (eq_p-true h)) (one_of (above t p) (eq_p t.a p) e)

  pub above-true : lies_above p t ≡ true → LiesAbove (λ s. s.a) p t
  unfolding lies_above
  above-true e = cases (λ h. inl (lt_z_true h)) (λ h. inr (eq_p-true h)) (one_of (lt_z (side t p) (pos 0)) (eq_p t.a p) e)

-- where the tests at a place are passed, v stands in the gap there
pub stands_in_gap : (d : Drawing) (v : Segment) (l : List ℕ) (k : ℕ) → InGapAt d v k l → StandsInGap d v l
stands_in_gap d v l k c =
    record {
      place = k;
      till = c.till;
      below = λ j e.
          let last : k - 1 ≡ j = omega arith in
          under-true v.a (segment_at d (get_or l j 0)) (subst (λ (n : ℕ). lies_under v.a (segment_at d (get_or l n 0)) ≡ true) last (c.under (omega arith)));
      above = λ m. above-true v.b (segment_at d (get_or l k 0)) (c.over m);
    }

-- where all are clear of v, they are passed at any place where the list changes from below to above v's head
pub clear_in_gap : (d : Drawing) (v : Segment) (l : List ℕ) (k : ℕ) → Changes (below_at d (At v.b) l) 0 (length l) k → ClearIn d v l → InGapAt d v k l
unfolding is_below
clear_in_gap d v l k c f = record {
  till = c.till;
  under = λ h. (f (get_or l (k - 1) 0) (in_at l 0 (k - 1) (omega (arith, c.till)))).under (c.before h);
  over = λ h. (f (get_or l k 0) (in_at l 0 k h)).over (c.after h);
}

-- v's gap: there the list goes from those that have v's head above them to the others
pub in_gap_changes : (d : Drawing) {v : Segment} {l : List ℕ} → Upright v → ((i : ℕ) → i ∈ l → Over v.a.x (segment_at d i)) → (k : ℕ) → InGapAt d v k l → Changes (below_at d (At v.b) l) 0 (length l) k
unfolding is_below
in_gap_changes d {v} {l} u over k c = record {
  from = omega arith;
  till = c.till;
  before = λ h. foot (get_or l (k - 1) 0) (over (get_or l (k - 1) 0) (in_at l 0 (k - 1) (omega (arith, c.till)))) (under-true v.a (segment_at d (get_or l (k - 1) 0)) (c.under h));
  after = λ h. head (get_or l k 0) (above-true v.b (segment_at d (get_or l k 0)) (c.over h));
}
  where
    foot : (i : ℕ) → Over v.a.x (segment_at d i) → LiesUnder (λ s. s.a) v.a (segment_at d i) → above (segment_at d i) v.b ≡ true
    foot i o k = let r = side_less (segment_at d i) v.a v.b (over_wide o) (sym u.plumb) u.rises in above_on (segment_at d i) v.b (go k r)
      where
        go : LiesUnder (λ s. s.a) v.a (segment_at d i) → side (segment_at d i) v.a <ℤ side (segment_at d i) v.b → pos 0 <ℤ side (segment_at d i) v.b
        go (inl a) r = omega ints
        go (inr a) r = let z = subst (λ (p : Point). side (segment_at d i) p ≡ pos 0) a (side_own_a (segment_at d i)) in omega ints

    head : (i : ℕ) → LiesAbove (λ s. s.a) v.b (segment_at d i) → above (segment_at d i) v.b ≡ false
    head i (inl a) = above_off (segment_at d i) v.b (lt_le a)
    head i (inr a) = subst (λ (p : Point). above (segment_at d i) p ≡ false) a (above_own_a (segment_at d i))

-- ---- places: what holds from one up to i, and at i, holds up to i + 1
pub one_place_more : (P : ℕ → Type 0) (from i : ℕ) → ((v : ℕ) → from ≤ v → v < i → P v) → P i → (v : ℕ) → from ≤ v → v < i + 1 → P v
one_place_more P from i f h v l m = go (dec_le (suc v) i)
  where
    go : Dec (suc v ≤ i) → P v
    go (yes k) = f v l k
    go (no k) = let e : i ≡ v = omega arith in subst P e h

-- ---- those that stand, and one more
module _ {d : Drawing} {from i : ℕ} {l : List ℕ} {old tops : List ℤ} (a : AllStand d from i l old tops) where
  -- it is not vertical
  pub stand_by : is_vertical (segment_at d i) ≡ false → AllStand d from (i + 1) l old tops
  stand_by e = record {
    each = one_place_more (λ v. is_vertical (segment_at d v) ≡ true → Stood d l old tops v) from i a.each (λ f. absurd (clash f e));
    others = λ j f. a.others j (λ h m. f h (omega arith));
  }

  -- it is, and its count is written
  pub stand_on : from ≤ i → i < length tops → is_vertical (segment_at d i) ≡ true → (k : ℕ) → InGapAt d (segment_at d i) k l
      → AllStand d from (i + 1) l old (set tops i (last_in tops (take k l) +ℤ (segment_at d i).winding))
  stand_on since room e k c = record {
    each = one_place_more (λ v. is_vertical (segment_at d v) ≡ true → Stood d l old (set tops i t) v) from i (λ v h m f. before v m (a.each v h m f)) (λ f. here);
    others = λ j f. get_or-set_other tops i j t (pos 0) (λ q. f (omega arith) (omega arith) (ap (λ (n : ℕ). is_vertical (segment_at d n)) q ∙ e)) ∙ a.others j (λ h m. f h (omega arith));
  }
    where
      t : ℤ
      t = last_in tops (take k l) +ℤ (segment_at d i).winding

      here : Stood d l old (set tops i t) i
      here = record {
        place = k;
        in_gap = c;
        top = λ slanted. get_or-set_same tops i t (pos 0) room
            ∙ ap (λ z. z +ℤ (segment_at d i).winding) (last_cong (λ j. get_or tops j (pos 0)) (λ j. get_or old j (pos 0)) (take k l) (λ j m. a.others j (λ _ _ f. clash f (slanted j (in_take k l j m)))));
      }

      before : (v : ℕ) → v < i → Stood d l old tops v → Stood d l old (set tops i t) v
      before v m s = record { place = s.place; in_gap = s.in_gap; top = λ slanted. get_or-set_other tops i v t (pos 0) (λ q. omega arith) ∙ s.top slanted }
