-- Which end it is decides; the opposite of at most 1,000 fits.
use mathlib.Core.Path.{◌≡◌, sym, ap, ◌∙◌}
use native.Mathlib.Omega.{arith}
use Prim.Native.Nat.{ℕ, ◌-◌, ◌≤◌}
use lib.Dec.{lit<}
use lib.ListN.{length}
use lib.IntN.{pos, ◌-ℤ◌}
use mir.Syntax.{w32}
use mir.Val.{to_z, of_z}
use Rattle.integers.proofs.Machine.{Is, read, lit, sub, ret}
use Rattle.segm.specs.declared.Segment.{Segment}
use Rattle.segm.specs.Segments.{Drawing, segments, segment_at}
use Rattle.segm.proofs.Segments.{count_inside, count_past, length-segments}
use Rattle.faults.proofs.Faultless.{winding_at}
use Rattle.balance.proofs.Sums.{share_a, share_b}
use Rattle.balance.proofs.share.Goals as goal
use Rattle.balance.proofs.share.Lts
use Rattle.balance.proofs.share.Reads
use Rattle.balance.proofs.share.Tie

abbrev After-segment_at-t-2 : Type 0
After-segment_at-t-2 = Lts.After-segment_at2 Tie.the-claims Reads.Pre Reads.Post

abbrev After-count-n : Type 0
After-count-n = Lts.After-count Tie.the-claims Reads.Pre Reads.Post

abbrev Start : Type 0
Start = Lts.Start Tie.the-claims Reads.Pre Reads.Post

pub returns-then-e-n : goal.returns-then-e-n
returns-then-e-n c =
    let t = c.before in
    let n = c in
    let s = c in
    let d = segments s.args.s.now in
    read w32 t.segment_at-t.result.winding (omega arith) ∙ ap (λ (t : Segment). t.winding) t.segment_at-t.ensures
    ∙ sym (share_a d s.args.e (count_inside s.args.s.now n.count-n.ensures t.if-e-n.true))

-- the opposite of the winding
module _ (c : After-segment_at-t-2) where
  abbrev n : After-count-n
  n = c.before.before

  abbrev s : Start
  s = n.before

  abbrev d : Drawing
  d = segments s.args.s.now

  abbrev e : ℕ
  e = s.args.e

  past-starts : length d ≤ e
  past-starts = count_past s.args.s.now n.count-n.ensures c.if-e-n.false

  place_is : e - n.count-n.result ≡ e - length d
  place_is = omega (arith, n.count-n.ensures, length-segments s.args.s.now)

  winding-is : c.segment_at-t-2.result.winding ≡ (segment_at d (e - length d)).winding
  winding-is = ap (λ (t : Segment). t.winding) c.segment_at-t-2.ensures ∙ ap (λ k. (segment_at d k).winding) place_is

  less : Is w32 1000 (pos 0 -ℤ to_z w32 (of_z w32 c.segment_at-t-2.result.winding)) (pos 0 -ℤ (segment_at d (e - length d)).winding)
  less =
      let fits = read w32 c.segment_at-t-2.result.winding (omega arith) in
      sub {w = w32} {m = 0} {n = 1000} (lit (pos 0)) (record { is = fits ∙ winding-is; bound = winding_at s.requires.0 (e - length d) (omega (arith, s.requires.1, past-starts)) }) (lit< tt)

pub overflow_sub-result : goal.overflow_sub-result
overflow_sub-result c = (less c.before.before).fits

pub returns : goal.returns
returns c = let t = c.before.before in ret (less t) ∙ sym (share_b (d t) (e t) (past-starts t))
