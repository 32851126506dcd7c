-- At a start and at the end of a vertical segment nothing leaves; at another end its segment is taken out.
use mathlib.Core.Path.{◌≡◌, sym, ap, subst, ◌∙◌}
use mathlib.Core.List.{[], ◌∷◌}
use mathlib.Core.Logic.{inl}
use mathlib.Core.Bool.{true, false}
use native.Mathlib.Omega.{arith}
use Prim.Native.Nat.{ℕ, ◌+◌, ◌-◌, ◌≤◌}
use Rattle.std.specs.Option.{IfSome}
use lib.ListN.{length, take}
use Rattle.integers.proofs.Booleans.{clash}
use Rattle.segm.specs.Segments.{segments, segment_at}
use Rattle.segm.proofs.Segments.{length-segments}
use Rattle.strip.specs.Strip.{is_vertical}
use Rattle.open_list.specs.OpenList.{HasLeft}
use Rattle.open_list.proofs.OpenList.{none_leaves}
use Rattle.open_list.proofs.leave_one.Goals as goal

pub returns-then-end-n-clause-passed : goal.returns-then-end-n-clause-passed
returns-then-end-n-clause-passed c =
    (omega arith, none_leaves c.args.e c.requires.4 c.requires.5 (λ i q v. omega (arith, c.count-n.ensures, length-segments c.args.s.now)))

pub segment_in-t-requires : goal.segment_in-t-requires
segment_in-t-requires c = omega (arith, c.requires.1, c.count-n.ensures, length-segments c.args.s.now)

pub returns-then-is_vertical-clause-passed : goal.returns-then-is_vertical-clause-passed
returns-then-is_vertical-clause-passed c =
    let d = segments c.args.s.now in
    let n = c.count-n.result in
    let many : n ≡ length d = c.count-n.ensures ∙ sym (length-segments c.args.s.now) in
    let upright : is_vertical (segment_at d (c.args.e - n)) ≡ true = ap is_vertical (sym c.segment_in-t.ensures) ∙ sym c.is_vertical.ensures ∙ c.if-is_vertical.true in
    (omega arith, none_leaves c.args.e c.requires.4 c.requires.5 (λ i q v. let same : i ≡ c.args.e - n = omega arith in clash (ap (λ (z : ℕ). is_vertical (segment_at d z)) same ∙ upright) v))

pub take_out-requires : goal.take_out-requires
take_out-requires c =
    (c.requires.0, c.segment_in-t.ensures, omega (arith, c.requires.1, c.count-n.ensures, length-segments c.args.s.now), c.requires.2, c.requires.3, c.requires.4, c.requires.5)

pub returns-clause-passed : goal.returns-clause-passed
returns-clause-passed c =
    let d = segments c.args.s.now in
    let l = take c.args.status.used c.args.list.now in
    let n = c.count-n.result in
    let many : n ≡ length d = c.count-n.ensures ∙ sym (length-segments c.args.s.now) in
    let there : length d + (c.args.e - n) ≡ c.args.e = omega arith in
    subst (λ (e : ℕ). IfSome c.take_out.result (λ left. (left.used ≤ c.args.status.used) × HasLeft d (e ∷ []) l (take left.used c.take_out.new.list))) there c.take_out.ensures.passed

pub returns-clause-can : goal.returns-clause-can
returns-clause-can c =
    let d = segments c.args.s.now in
    let n = c.count-n.result in
    let many : n ≡ length d = c.count-n.ensures ∙ sym (length-segments c.args.s.now) in
    let there : length d + (c.args.e - n) ≡ c.args.e = omega arith in
    let slanted : is_vertical (segment_at d (c.args.e - n)) ≡ false = ap is_vertical (sym c.segment_in-t.ensures) ∙ sym c.is_vertical.ensures ∙ c.if-is_vertical.false in
    λ w. c.take_out.ensures.can w.x w.spanning (w.in_list (c.args.e - n) (inl there) slanted)
