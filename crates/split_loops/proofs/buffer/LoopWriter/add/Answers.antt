-- Written after those found if it is large enough.
use mathlib.Core.Path.{◌≡◌, refl, sym, subst, ◌∙◌}
use mathlib.Core.List.{List, [], ◌∷◌, ◌++◌}
use native.Mathlib.Omega.{arith}
use Prim.Native.Nat.{◌+◌, ◌*◌, ◌/◌, ◌-◌}
use lib.ListN.{length, take, drop, set, length-append, length-take, length-drop, length-set}
use lib.IntN.{ℤ}
use Rattle.geom.specs.declared.Point.{Point}
use Rattle.lists.specs.Members.{keep}
use Rattle.lists.proofs.Written.{written_whole}
use Rattle.contour.specs.Points.{pair_up}
use Rattle.contour.specs.Area.{is_large}
use Rattle.split_loops.specs.declared.buffer.LoopTotals.{LoopTotals}
use Rattle.split_loops.specs.Splitting.{Adds, Added}
use Rattle.split_loops.proofs.Splitting.{keep_one, added_none, adds_one}
use Rattle.split_loops.proofs.buffer.LoopWriter.add.Goals as goal

pub returns-then-not-is_large : goal.returns-then-not-is_large
returns-then-not-is_large c =
    let w = c.args.self.now in
    let kept : [] ≡ keep (is_large c.args.min_area) (pair_up c.args.contour.now ∷ []) =
    sym (keep_one (is_large c.args.min_area) (pair_up c.args.contour.now) (sym c.is_large.ensures ∙ c.if-not-is_large.true)) in
    subst (λ (l : List (List Point)). Added l w w) kept (added_none w)

pub returns : goal.returns
returns c =
    let w = c.args.self.now in
    let contour = c.args.contour.now in
    let kept : (pair_up contour ∷ []) ≡ keep (is_large c.args.min_area) (pair_up contour ∷ []) =
    sym (keep_one (is_large c.args.min_area) (pair_up contour) (sym c.is_large.ensures ∙ c.if-not-is_large.false)) in
    let d = 2 * w.found.points in
    let m = d + length contour - d in
    let n = length contour / 2 in
    let after : LoopTotals = record { loops = w.found.loops + 1; points = w.found.points + n } in
    let out : List ℤ → List ℤ = λ (l : List ℤ). take d w.out.now ++ (l ++ drop m (drop d w.out.now)) in
    let lengths = set w.lengths.now w.found.loops n in
    record {
      same_out = (refl, omega (arith, length-append {A = ℤ}, length-take d w.out.now, length-drop d w.out.now, length-drop m (drop d w.out.now), c.copy.auto.out, c.requires.2.points_fit));
      same_lengths = (refl, length-set w.lengths.now w.found.loops n);
      adds =
          subst (λ (l : List (List Point)). Adds l w.found after w.out.now w.lengths.now (out c.copy.new.out) lengths) kept
          (subst (λ (l : List ℤ). Adds (pair_up contour ∷ []) w.found after w.out.now w.lengths.now (out l) lengths) (sym (c.copy.ensures ∙ written_whole contour _ (omega (arith, length-take {A = ℤ}, length-drop d w.out.now, c.requires.2.points_fit))))
          (adds_one contour w.found w.out.now w.lengths.now m c.requires.0.whole (omega arith) (omega arith)));
    }
