-- The top count less the winding is the bottom count, and fits.
use mathlib.Core.Path.{◌≡◌, refl, sym, ap, ap₂, subst, ◌∙◌}
use lib.Dec.{lit<}
use lib.ListN.{get_or}
use lib.IntN.{ℤ, pos, ◌-ℤ◌}
use lib.Signed.{◌≤ℤ◌}
use native.Mathlib.Omega.{arith}
use mir.Syntax.{w32}
use mir.Val.{to_z, of_z}
use Rattle.integers.proofs.Machine.{Val, Is, read, ret, sub}
use Rattle.segm.specs.declared.Segment.{Segment}
use Rattle.lists.specs.Members.{◌∈◌}
use Rattle.segm.specs.Segments.{Drawing, segments, segment_at}
use Rattle.segm.proofs.Segments.{segment_in}
use Rattle.fill_rule.specs.FillRule.{fill_of}
use Rattle.ray.specs.Ray.{top}
use Rattle.list_counts.specs.ListCounts.{top_at}
use Rattle.list_counts.proofs.Counts.{good_counts}
use Rattle.list_counts.proofs.Fills.{fill_by_top, top_bound}
use Rattle.top_fills.proofs.fill_at.Goals as goal
use Rattle.top_fills.proofs.fill_at.Lts
use Rattle.top_fills.proofs.fill_at.Reads
use Rattle.top_fills.proofs.fill_at.Tie

abbrev After-struct_told-1 : Type 0
After-struct_told-1 = Lts.After-struct_told Tie.the-claims Reads.Pre Reads.Post

abbrev After-segment_at-t : Type 0
After-segment_at-t = Lts.After-segment_at Tie.the-claims Reads.Pre Reads.Post

abbrev Start : Type 0
Start = Lts.Start Tie.the-claims Reads.Pre Reads.Post

-- the segment and its numbers
module _ (c : After-struct_told-1) where
  abbrev t : After-segment_at-t
  t = c.before.before.before

  abbrev s : Start
  s = t.before

  abbrev d : Drawing
  d = segments s.args.s.now

  abbrev u : Segment
  u = segment_at d s.args.i

  known : u ∈ d
  known = segment_in d s.args.i refl s.requires.3

  top_read : Val 1025000 (to_z w32 (of_z w32 (get_or s.args.tops.now s.args.i (pos 0)))) (top d u)
  top_read = record {
    is = read w32 _ c.top-1.given ∙ s.requires.1 (top_at d) (good_counts s.requires.0) s.args.i s.requires.3;
    bound = top_bound d u s.requires.0 known;
  }

  winding-read : Val 1000 (to_z w32 (of_z w32 t.segment_at-t.result.winding)) u.winding
  winding-read = record {
    is = read w32 t.segment_at-t.result.winding (omega arith) ∙ ap (λ (v : Segment). v.winding) t.segment_at-t.ensures;
    bound = s.requires.0.faultless.winding u known;
  }

  bits-read : to_z w32 (of_z w32 t.segment_at-t.result.bits) ≡ u.bits
  bits-read = read w32 t.segment_at-t.result.bits (omega arith) ∙ ap (λ (v : Segment). v.bits) t.segment_at-t.ensures

  less : Is w32 1026000 (to_z w32 (of_z w32 (get_or s.args.tops.now s.args.i (pos 0))) -ℤ to_z w32 (of_z w32 t.segment_at-t.result.winding)) (top d u -ℤ u.winding)
  less = sub top_read winding-read (lit< tt)

pub overflow_sub-top : goal.overflow_sub-top
overflow_sub-top c = (less c.before).fits

pub fill_of-requires : goal.fill_of-requires
fill_of-requires c = let a = c in subst (λ (z : ℤ). (pos 0 ≤ℤ z) × (z ≤ℤ pos 3)) (sym (bits-read a.before.before)) ((s a.before.before).requires.0.faultless.bits (u a.before.before) (known a.before.before))

pub returns : goal.returns
returns c =
    let a = c in
    let rule = (s a.before.before).args.rule in
    c.fill_of.ensures
    ∙ ap₂ (λ (x y : ℤ). fill_of rule x y (to_z w32 (of_z w32 (t a.before.before).segment_at-t.result.bits))) (top_read a.before.before).is (ret (less a.before.before))
    ∙ ap (fill_of rule (top (d a.before.before) (u a.before.before)) (top (d a.before.before) (u a.before.before) -ℤ (u a.before.before).winding)) (bits-read a.before.before)
    ∙ fill_by_top (d a.before.before) (u a.before.before) rule
