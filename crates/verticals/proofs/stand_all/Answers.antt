-- Those from the first place up to i stand in gaps and have their counts.
use mathlib.Core.Path.{◌≡◌, refl, sym, ap, subst, ◌∙◌}
use mathlib.Core.List.{List}
use mathlib.Core.Bool.{true, false}
use native.Mathlib.Omega.{arith}
use Prim.Native.Nat.{ℕ, ◌+◌, ◌-◌, ◌*◌, ◌≤◌, ◌<◌}
use lib.ListN.{length, get_or, take, set}
use lib.IntN.{ℤ, pos, nat_abs, ◌+ℤ◌}
use Rattle.integers.proofs.Booleans.{clash}
use Rattle.integers.proofs.Order.{abs-+}
use Rattle.segm.specs.declared.Segment.{Segment}
use Rattle.segm.specs.Segments.{Drawing, segments, segment_at}
use Rattle.strip.specs.Strip.{is_vertical}
use Rattle.faults.specs.Faultless.{Faultless}
use Rattle.faults.proofs.Faultless.{winding_at}
use Rattle.count_up.specs.CountUp.{last_in}
use Rattle.count_up.proofs.CountUp.{last_within, set-within}
use Rattle.verticals.specs.Verticals.{InGapAt, ClearIn}
use Rattle.verticals.proofs.Verticals.Gaps.{stand_by, stand_on}
use Rattle.verticals.proofs.stand_all.Invariants.{Standing}
use Rattle.verticals.proofs.stand_all.Goals as goal
use Rattle.verticals.proofs.stand_all.Goals.{then-is_vertical+in-Some, else-is_vertical}

module _ {d : Drawing} {from to i : ℕ} {l : List ℕ} {old tops : List ℤ} (since : from ≤ i) (inside : i < to) (a : Standing d from to i l old tops) where
  standing_by : is_vertical (segment_at d i) ≡ false → Standing d from to (i + 1) l old tops
  standing_by e = record {
    span = omega arith;
    stand = stand_by a.stand e;
    within = λ b w j. let h = a.within b w j in omega arith;
  }

  standing_on : Faultless d → i < length d → i < length tops → is_vertical (segment_at d i) ≡ true → (k : ℕ) → InGapAt d (segment_at d i) k l
      → Standing d from to (i + 1) l old (set tops i (last_in tops (take k l) +ℤ (segment_at d i).winding))
  standing_on r known room e k c = record {
    span = omega arith;
    stand = stand_on a.stand since room e k c;
    within = λ b w.
        let small = last_within tops (take k l) (a.within b w) in
        set-within tops i (last_in tops (take k l) +ℤ (segment_at d i).winding)
        (omega (arith, abs-+ (last_in tops (take k l)) (segment_at d i).winding, small, winding_at r i known))
        (λ j. let h = a.within b w j in omega arith);
  }

pub stand_one-requires : goal.stand_one-requires
stand_one-requires c = (
  c.requires.0,
  c.segment_in-v.ensures,
  omega (arith, c.requires.1),
  c.requires.2,
  omega (arith, c.requires.3),
  (λ j. let h = c.loop-i.invariant.within 2100000000 c.requires.4 j in omega (arith, h, c.requires.1, c.requires.0.few)),
)

pub returns-in_default : goal.returns-in_default
returns-in_default c =
    let i = c.loop-i.i in
    let v = c.segment_in-v in
    let since : c.args.from ≤ i = omega arith in
    let upright = ap is_vertical (sym v.ensures) ∙ sym c.is_vertical.ensures ∙ c.if-is_vertical.true in (
      (λ t. absurd (clash t refl)),
      (λ b w j. let h = c.loop-i.invariant.within b w j in subst (λ (l : List ℤ). nat_abs (get_or l j (pos 0)) ≤ b + 1000 * (c.args.to - c.args.from)) (sym c.in_default.ensures.stands) (omega (arith, h, c.loop-i.invariant.span))),
      (λ f. c.in_default.ensures.can (subst (λ (u : Segment). ClearIn (segments c.args.s.now) u c.args.list.now) (sym v.ensures) (f i since (omega arith) upright))),
    )

pub loop-i-preserved : goal.loop-i-preserved
loop-i-preserved c =
    let d = segments c.args.s.now in
    let i = c.loop-i.i in
    let inv = c.loop-i.invariant in
    let since : c.args.from ≤ i = omega arith in
    let inside : i < c.args.to = omega arith in
    let is : is_vertical (segment_at d i) ≡ c.is_vertical.result = ap is_vertical (sym c.segment_in-v.ensures) ∙ sym c.is_vertical.ensures in
    elim c.if-is_vertical.branch [
      | then-is_vertical+in-Some w ↦
          let r = w.in-Some.ensures.stands in
          let k = w.in-Some.place in
          let now = w.tops-is ∙ r.1 ∙ ap (λ (u : Segment). set c.loop-i.tops i (last_in c.loop-i.tops (take k c.args.list.now) +ℤ u.winding)) c.segment_in-v.ensures in
          subst (Standing d c.args.from c.args.to (i + 1) c.args.list.now c.args.tops.now) (sym now)
          (standing_on since inside inv c.requires.0 (omega (arith, c.requires.1)) (omega (arith, c.requires.1, c.requires.3)) (is ∙ w.if-is_vertical.true) k (subst (λ (u : Segment). InGapAt d u k c.args.list.now) c.segment_in-v.ensures r.0))
      | else-is_vertical w ↦ subst (Standing d c.args.from c.args.to (i + 1) c.args.list.now c.args.tops.now) (sym w.tops-is) (standing_by since inside inv (is ∙ w.if-is_vertical.false))
    ]

pub returns : goal.returns
returns c =
    let inv = c.loop-i.invariant in (
      (λ t. record {
        each = λ v h m. inv.stand.each v h (omega arith);
        others = λ j f. inv.stand.others j (λ h m. f h (omega (arith, inv.span)));
      }),
      (λ b w j. let h = inv.within b w j in omega (arith, h, inv.span)),
      (λ f. refl),
    )
