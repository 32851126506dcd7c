-- What is left of the stretch, counted up from the sum.
use mathlib.Core.Path.{◌≡◌, refl, sym, ap, subst, ◌∙◌}
use native.Mathlib.Omega.{arith}
use Prim.Native.Nat.{ℕ, ◌+◌, ◌*◌, ◌≤◌, ◌<◌}
use lib.ListN.{length, get_or, drop, set, length-drop}
use lib.IntN.{ℤ, nat_abs, ◌+ℤ◌}
use mir.Syntax.{w32}
use mir.Val.{to_z}
use Rattle.integers.proofs.Machine.{Is, add, ret, read, got}
use Rattle.segm.specs.declared.Segment.{Segment}
use Rattle.segm.specs.Segments.{Drawing, segments, segment_at}
use Rattle.lists.proofs.Members.{in_at}
use Rattle.faults.proofs.Faultless.{winding_at}
use Rattle.count_up.specs.CountUp.{count_up}
use Rattle.count_up.proofs.CountUp.{count_more, count_none}
use Rattle.count_up.proofs.count_up.Goals as goal
use Rattle.faults.specs.Faultless.{Faultless}

-- the sum at the place looked at
summed : (d : Drawing) (i k : ℕ) (sum : ℤ) {x w : ℤ} → Faultless d → i < length d → x ≡ sum → nat_abs sum ≤ 2100000000 + 1000 * k → w ≡ (segment_at d i).winding → k < 1024 → Is w32 (2100000000 + 1000 * k + 1000) (x +ℤ w) (sum +ℤ (segment_at d i).winding)
summed d i k sum f known xs small ws few = add (record { is = xs; bound = small }) (record { is = ws; bound = winding_at f i known }) (omega arith)

pub segment_in-t-requires : goal.segment_in-t-requires
segment_in-t-requires c = c.requires.1 _ (in_at c.args.stretch.now 0 c.loop-place.place-index (omega arith))

pub overflow_add-sum : goal.overflow_add-sum
overflow_add-sum c =
    let k = c.loop-place.place-index in
    let known = c.requires.1 _ (in_at c.args.stretch.now 0 k (omega arith)) in
    let winding = got w32 c.segment_in-t.result.winding (omega arith) (ap (λ (t : Segment). t.winding) c.segment_in-t.ensures) in
    (summed (segments c.args.s.now) (get_or c.args.stretch.now k 0) k (to_z w32 c.loop-place.sum-bits) c.requires.0 known refl c.loop-place.invariant.small winding (omega arith)).fits

pub bounds-tops-i : goal.bounds-tops-i
bounds-tops-i c =
    let known = c.requires.1 _ (in_at c.args.stretch.now 0 c.loop-place.place-index (omega arith)) in
    omega (arith, known, c.requires.4)

pub loop-place-preserved : goal.loop-place-preserved
loop-place-preserved c =
    let d = segments c.args.s.now in
    let k = c.loop-place.place-index in
    let v = c.loop-place.invariant in
    let stretch = c.args.stretch.now in
    let i = get_or stretch k 0 in
    let known = c.requires.1 _ (in_at stretch 0 k (omega arith)) in
    let winding = got w32 c.segment_in-t.result.winding (omega arith) (ap (λ (t : Segment). t.winding) c.segment_in-t.ensures) in
    let s = summed d i k (to_z w32 c.loop-place.sum-bits) c.requires.0 known refl v.small winding (omega arith) in
    let now = ret s in
    record {
      small = subst (λ z. nat_abs z ≤ 2100000000 + 1000 * (k + 1)) (sym now) (omega (arith, s.val.bound));
      rest =
          ap (λ z. count_up d z (drop (k + 1) stretch) (set c.loop-place.tops i z)) now
          ∙ sym (count_more d (to_z w32 c.loop-place.sum-bits) stretch k c.loop-place.tops (omega arith))
          ∙ v.rest;
    }

pub returns : goal.returns
returns c =
    let k = c.loop-place.place-index in
    let stretch = c.args.stretch.now in
    sym (count_none (segments c.args.s.now) (to_z w32 c.loop-place.sum-bits) (drop k stretch) c.loop-place.tops (omega (arith, length-drop k stretch)))
    ∙ c.loop-place.invariant.rest
    ∙ ap (λ z. count_up (segments c.args.s.now) z stretch c.args.tops.now) (read w32 c.args.under (omega arith))
