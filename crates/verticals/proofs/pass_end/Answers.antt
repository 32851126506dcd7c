-- The height of the end beside foot and top; where a vertical segment starts, beside the top.
use mathlib.Core.Path.{◌≡◌, refl, sym, ap, ap₂, ◌∙◌}
use mathlib.Core.Logic.{◌⊎◌, inl, inr}
use mathlib.Core.Bool.{Bool, true, false, ◌&&◌}
use native.Mathlib.Omega.{arith}
use lib.IntN.{ℤ}
use lib.Signed.{lt_z, ◌≤ℤ◌, ◌<ℤ◌}
use mir.Syntax.{w32}
use Rattle.integers.proofs.Booleans.{clash}
use Rattle.integers.proofs.Machine.{read, got}
use Rattle.integers.proofs.Order.{order, lt_z_true, lt_z_false, lt_lt_z}
use Rattle.geom.specs.declared.Point.{Point}
use Rattle.segm.specs.declared.Segment.{Segment}
use Rattle.segm.specs.Segments.{Drawing, segment_at}
use Prim.Native.Nat.{ℕ, ◌<◌}
use lib.ListN.{length}
use Rattle.segm.proofs.Segments.{length-segments}
use Rattle.strip.specs.Strip.{is_vertical}
use Rattle.verticals.specs.Verticals.{VerticalStart}
use Rattle.verticals.proofs.pass_end.Goals as goal

-- the three heights, as the machine has them
module _ {y foot top y' foot' top' : ℤ} (foot-is : foot' ≡ foot) (top-is : top' ≡ top) (y-is : y' ≡ y) where
  low-is : lt_z y' top' ≡ lt_z y top
  low-is = ap₂ lt_z y-is top-is

  between_is : (lt_z foot' y' && lt_z y' top') ≡ (lt_z foot y && lt_z y top)
  between_is = ap₂ ◌&&◌ (ap₂ lt_z foot-is y-is) low-is

  outer : (lt_z foot' y' && lt_z y' top') ≡ false → (y ≤ℤ foot) ⊎ (top ≤ℤ y)
  outer e = go (order foot y) (order y top)
    where
      go : (foot <ℤ y) ⊎ (y ≤ℤ foot) → (y <ℤ top) ⊎ (top ≤ℤ y) → (y ≤ℤ foot) ⊎ (top ≤ℤ y)
      go (inr a) b = inl a
      go (inl a) (inr b) = inr b
      go (inl a) (inl b) = absurd (clash (between_is ∙ ap₂ ◌&&◌ (lt_lt_z a) (lt_lt_z b)) e)

pub segment_in-t-requires : goal.segment_in-t-requires
segment_in-t-requires c = omega (arith, length-segments c.args.s.now, c.count.ensures)

-- a vertical segment starts at the end looked at
starts_here : {d : Drawing} {e n : ℕ} {t : Segment} {r : Bool} → e < n → n ≡ length d → t ≡ segment_at d e → r ≡ is_vertical t → r ≡ true → VerticalStart d e
starts_here h many is upright taken = record { inside = omega arith; vertical = ap is_vertical (sym is) ∙ sym upright ∙ taken }

pub returns-then-y-last-clause-can : goal.returns-then-y-last-clause-can
returns-then-y-last-clause-can c =
    let y-is = got w32 c.end_point-p.result.y (omega arith) (ap (λ (p : Point). p.y) c.end_point-p.ensures) in
    let here = starts_here c.if-e-count.true (c.count.ensures ∙ sym (length-segments c.args.s.now)) c.segment_in-t.ensures c.is_vertical.ensures c.if-is_vertical.true in
    λ f g. absurd (g here (lt_z_true (sym (ap₂ lt_z y-is (read w32 c.args.last.top (omega arith))) ∙ c.if-y-last.true)))

pub returns-then-is_vertical-clause-beyond : goal.returns-then-is_vertical-clause-beyond
returns-then-is_vertical-clause-beyond c =
    let foot-is = read w32 c.args.last.foot (omega arith) in
    let top-is = read w32 c.args.last.top (omega arith) in
    let y-is = got w32 c.end_point-p.result.y (omega arith) (ap (λ (p : Point). p.y) c.end_point-p.ensures) in
    let here = starts_here c.if-e-count.true (c.count.ensures ∙ sym (length-segments c.args.s.now)) c.segment_in-t.ensures c.is_vertical.ensures c.if-is_vertical.true in
    record {
      out = outer foot-is top-is y-is c.if-last-y.false;
      on = λ _. (lt_z_false (sym (ap₂ lt_z y-is top-is) ∙ c.if-y-last.false), y-is, got w32 c.segment_in-t.result.b.y (omega arith) (ap (λ (u : Segment). u.b.y) c.segment_in-t.ensures));
      by = λ f. absurd (f here);
    }

pub returns-else-is_vertical-clause-beyond : goal.returns-else-is_vertical-clause-beyond
returns-else-is_vertical-clause-beyond c =
    let y-is = got w32 c.end_point-p.result.y (omega arith) (ap (λ (p : Point). p.y) c.end_point-p.ensures) in
    record {
      out = outer (read w32 c.args.last.foot (omega arith)) (read w32 c.args.last.top (omega arith)) y-is c.if-last-y.false;
      on = λ h. absurd (clash (ap is_vertical c.segment_in-t.ensures ∙ h.vertical) (sym c.is_vertical.ensures ∙ c.if-is_vertical.false));
      by = λ f. (refl, refl);
    }

pub returns-else-e-count-clause-beyond : goal.returns-else-e-count-clause-beyond
returns-else-e-count-clause-beyond c =
    let y-is = got w32 c.end_point-p.result.y (omega arith) (ap (λ (p : Point). p.y) c.end_point-p.ensures) in
    record {
      out = outer (read w32 c.args.last.foot (omega arith)) (read w32 c.args.last.top (omega arith)) y-is c.if-last-y.false;
      on = λ h. absurd (omega (arith, length-segments c.args.s.now, c.count.ensures, c.if-e-count.false, h.inside));
      by = λ f. (refl, refl);
    }
