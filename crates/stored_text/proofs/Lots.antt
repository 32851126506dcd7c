-- 14: which drawings it leaves.
use mathlib.Core.Path.{◌≡◌, refl, sym, ap, ◌∙◌}
use mathlib.Core.Bool.{Bool, true, false, cond}
use mathlib.Core.List.{List}
use Prim.Native.Nat.{ℕ, ◌+◌, ◌-◌, ◌<◌}
use lib.ListN.{length}
use lib.IntN.{ℤ, pos}
use mir.Syntax.{w32}
use mir.Val.{to_z, of_z}
use Rattle.std.specs.Prelude.{Option, Some, None, FitsSigned}
use mir.Facts.{to_z-of_z}
use Rattle.geom.proofs.Points.{eq_eq_z, ne_eq_z}
use Rattle.std.proofs.lemmas.Option.{none-some}
use Rattle.refusal.specs.declared.Kind.{Kind}
use Rattle.refusal.specs.declared.Kind.TheVariants.{LotLost}
use Rattle.refusal.specs.Order.{accepted, refused, first_from}
use Rattle.refusal.proofs.Order.{first-none, all_none, step-some, step-none}
use Rattle.segm.specs.Segments.{Drawing, segments, segment_at}
use Rattle.segm.proofs.Segments.{everywhere, segment_in}
use Rattle.text_forms.specs.declared.Form.{Form}
use Rattle.text_forms.specs.declared.Form.TheVariants.{Old, New}
use Rattle.text_forms.specs.Forms.{takes_lot}
use Rattle.text_forms.proofs.Forms.{Kept}
use Rattle.stored_text.specs.Outcome.{lot_at, lots_of}

-- ---- at a place
module _ (d : Drawing) (i : ℕ) where
  pub lot_kept : (segment_at d i).lot ≡ pos 0 → lot_at Old d i ≡ None
  unfolding lot_at
  lot_kept e = rw (eq_eq_z e)

  pub lot_lost : ((segment_at d i).lot ≡ pos 0 → ⊥) → lot_at Old d i ≡ Some LotLost
  unfolding lot_at
  lot_lost f = rw (ne_eq_z f)

-- ---- where the code stands
module _ (numbers : List ℤ) (n i : ℕ) (h : i < n) where
  abbrev lot_here : ℤ
  lot_here = (segment_at (segments numbers) i).lot

  pub lost_here : (of_z w32 lot_here ≡ 0 → ⊥) → first_from (lot_at Old (segments numbers)) (n - i) i ≡ refused LotLost i
  lost_here f = step-some (lot_at Old (segments numbers)) n i LotLost h (lot_lost (segments numbers) i (λ o. f (ap (of_z w32) o)))

  pub kept_here : of_z w32 lot_here ≡ 0 → FitsSigned w32 lot_here → first_from (lot_at Old (segments numbers)) (n - i) i ≡ first_from (lot_at Old (segments numbers)) (n - (i + 1)) (i + 1)
  kept_here e fits = step-none (lot_at Old (segments numbers)) n i h (lot_kept (segments numbers) i (sym (to_z-of_z fits) ∙ ap (to_z w32) e))

-- ---- a drawing
at_kept : (form : Form) (d : Drawing) (i : ℕ) → lot_at form d i ≡ None → takes_lot form (segment_at d i).lot ≡ true
unfolding lot_at
at_kept form d i e = go (takes_lot form (segment_at d i).lot) e
  where
    go : (b : Bool) → ◌≡◌ {A = Option Kind} (cond b None (Some LotLost)) None → b ≡ true
    go true e = refl
    go false e = absurd (none-some LotLost (sym e))

kept_at : (form : Form) (d : Drawing) (i : ℕ) → takes_lot form (segment_at d i).lot ≡ true → lot_at form d i ≡ None
unfolding lot_at
kept_at form d i e = rw e

-- every lot has room exactly where none is refused
pub lots_kept : (form : Form) (d : Drawing) → lots_of form d ≡ accepted → Kept form d
unfolding lots_of
lots_kept form d e = everywhere d (λ s. takes_lot form s.lot ≡ true) (λ i h. at_kept form d i (first-none (lot_at form d) (length d) e i h))

pub kept_lots : (form : Form) (d : Drawing) → Kept form d → lots_of form d ≡ accepted
unfolding lots_of
kept_lots form d k = all_none (lot_at form d) (length d) (λ i h. kept_at form d i (k (segment_at d i) (segment_in d i refl h)))

-- the new form has room for all of them
pub none_lost : (d : Drawing) → accepted ≡ lots_of New d
none_lost d = sym (kept_lots New d (λ s m. refl))
