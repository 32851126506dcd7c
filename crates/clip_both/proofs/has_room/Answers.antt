-- Neither list is too short.
use mathlib.Core.Path.{◌≡◌, refl, sym, ap, ◌∙◌}
use mathlib.Core.Bool.{Bool, true, false, not, ◌||◌, true≢false}
use native.Mathlib.Omega.{arith}
use Prim.Native.Nat.{◌*◌}
use lib.ListN.{length}
use borrow.Author.Tests.{ltb-false, le-ltb}
use Rattle.integers.proofs.Booleans.{nor_l, nor_r, neither}
use Rattle.refusal.specs.Asked.{too_short}
use Rattle.segm.proofs.Segments.{length-segments}
use Rattle.clip_both.proofs.has_room.Goals as goal

flipped : (b : Bool) → not b ≡ true → b ≡ false
flipped false e = refl
flipped true e = absurd (true≢false (sym e))

pub returns : goal.returns
unfolding too_short
returns c =
    let xs = length c.args.points.now in
    let ns = length c.args.lengths.now in
    let number = length-segments c.args.s.now in
    let first = c.is_short.result in
    let second = c.is_short-2.result in (
      λ e. let none = flipped (first || second) e in record {
        points_fit = omega (arith, number, c.count-n.ensures, ltb-false xs (8 * c.count-n.result) (sym c.is_short.ensures ∙ nor_l first second none));
        lengths_fit = omega (arith, number, c.count-n.ensures, ltb-false ns (2 * c.count-n.result) (sym c.is_short-2.ensures ∙ nor_r first second none));
      },
      λ r. ap not (neither
          (c.is_short.ensures ∙ le-ltb xs (8 * c.count-n.result) (omega (arith, number, c.count-n.ensures, r.points_fit)))
          (c.is_short-2.ensures ∙ le-ltb ns (2 * c.count-n.result) (omega (arith, number, c.count-n.ensures, r.lengths_fit)))),
    )
