-- The segments passed are written.
use mathlib.Core.Path.{◌≡◌, refl, sym, ap, ◌∙◌}
use mathlib.Core.List.{List, [], ◌∷◌, ◌++◌}
use Prim.Native.Nat.{ℕ, ◌+◌, ◌*◌, ◌/◌, ◌<◌, ◌≤◌}
use native.Mathlib.Numerals.{add-one}
use native.Mathlib.Omega.{arith}
use lib.ListN.{length, get_or, take, drop, length-take}
use lib.Seq.{take-suc, take_all}
use lib.IntN.{ℤ}
use Rattle.lists.specs.Written.{written}
use Rattle.lists.proofs.Written.{length_written}
use Rattle.segm.specs.declared.Segment.{Segment}
use Rattle.segm.specs.Segments.{Drawing, width, numbers_of, laid, nowhere}
use Rattle.segm.proofs.Segments.Laid.{length-laid, written_put}
use Rattle.text_forms.specs.Reading.{old_segments}
use Rattle.text_forms.proofs.Old.{length_old, old_at}
use Rattle.text_forms.proofs.add_lots.Goals as goal

pub loop-i-init : goal.loop-i-init
unfolding laid written
loop-i-init c = (refl, omega arith)

-- one segment more
module _ (old numbers now : List ℤ) (i : ℕ) (t : Segment) (h : i < length old / 6) (read : t ≡ get_or (old_segments old) i nowhere) (v : (now ≡ written (laid (take i (old_segments old))) numbers) × (i ≤ length (old_segments old))) (q : length (old_segments old) * width ≤ length numbers) where
  place : i < length (old_segments old)
  place = omega (arith, h, length_old old)

  passed : length (laid (take i (old_segments old))) ≡ i * width
  passed = omega (arith, length-laid (take i (old_segments old)), length-take i (old_segments old), place)

  room : length now ≡ length numbers
  room = ap length v.0 ∙ length_written (laid (take i (old_segments old))) numbers (omega (arith, passed, place, q))

  more : take (i * width) now ++ (numbers_of t ++ drop (i * width + width) now) ≡ written (laid (take (i + 1) (old_segments old))) numbers
  more =
      let d = old_segments old in
      let all : take (i + 1) d ≡ take i d ++ (t ∷ []) = ap (λ k. take k d) (add-one i) ∙ take-suc d i nowhere place ∙ ap (λ (u : Segment). take i d ++ (u ∷ [])) (sym read) in
      written_put (take i d) numbers t now i v.0 (omega (arith, length-take i d, place))
      ∙ ap (λ (e : Drawing). written (laid e) numbers) (sym all)

pub put-requires : goal.put-requires
put-requires c =
    let h : c.loop-i.i < length c.args.old.now / 6 = c.loop-i-test.true in
    let is = c.old_segment.ensures ∙ old_at c.args.old.now c.loop-i.i h in
    omega (arith, room c.args.old.now c.args.numbers.now c.loop-i.numbers c.loop-i.i c.old_segment.result h is c.loop-i.invariant c.requires, place c.args.old.now c.args.numbers.now c.loop-i.numbers c.loop-i.i c.old_segment.result h is c.loop-i.invariant c.requires, c.requires)

pub loop-i-preserved : goal.loop-i-preserved
loop-i-preserved c =
    let h : c.loop-i.i < length c.args.old.now / 6 = c.loop-i-test.true in
    let is = c.old_segment.ensures ∙ old_at c.args.old.now c.loop-i.i h in
    (c.put.ensures ∙ more c.args.old.now c.args.numbers.now c.loop-i.numbers c.loop-i.i c.old_segment.result h is c.loop-i.invariant c.requires, omega (arith, place c.args.old.now c.args.numbers.now c.loop-i.numbers c.loop-i.i c.old_segment.result h is c.loop-i.invariant c.requires))

pub returns : goal.returns
returns c =
    let d = old_segments c.args.old.now in
    c.loop-i.invariant.0 ∙ ap (λ (e : Drawing). written (laid e) c.args.numbers.now) (take_all c.loop-i.i d (omega (arith, c.loop-i-test.false, length_old c.args.old.now)))
