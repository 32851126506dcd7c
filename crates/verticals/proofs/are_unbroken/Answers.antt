-- Those passed so far are unbroken.
use native.Mathlib.Omega.{arith}
use mathlib.Core.Bool.{Bool, true}
use mathlib.Core.Path.{◌≡◌, refl, sym, ap, subst, ◌∙◌}
use mathlib.Core.List.{List}
use Prim.Native.Nat.{ℕ, ◌+◌, ◌<◌}
use native.Mathlib.Numerals.{add-one}
use lib.ListN.{length, get_or, take}
use lib.Seq.{take-suc}
use lib.IntN.{ℤ, pos, neg_ℤ}
use lib.Signed.{◌≤ℤ◌, ◌<ℤ◌}
use Rattle.integers.proofs.Booleans.{clash}
use Rattle.integers.proofs.Linear.{ints, of_pos, of_neg, of_abs}
use Rattle.integers.proofs.Order.{lt_le}
use Rattle.geom.proofs.Points.{near_y, lt_p-true}
use Rattle.lists.specs.Members.{◌∈◌}
use Rattle.lists.proofs.Members.{in_at, in_take, pairs_before}
use Rattle.faults.proofs.Faultless.{proper_at}
use Rattle.ends.specs.Ends.{end_point}
use Rattle.ends.proofs.Ends.{end_near}
use Rattle.strip.proofs.Neighbours.Upright.{vertical_upright}
use Rattle.verticals.specs.Verticals.{VerticalStart, Beyond, Unbroken}
use Rattle.segm.specs.Segments.{Drawing, segment_at}
use Rattle.verticals.proofs.Verticals.Columns.{ColumnPassed, column_passes, not_between, not_below, vertical-start?}
use Rattle.verticals.proofs.are_unbroken.Goals as goal
use Rattle.faults.specs.Faultless.{Faultless}
use Rattle.verticals.specs.Verticals.{Column}

pub pass_end-requires : goal.pass_end-requires
pass_end-requires c = c.requires.1.known _ (in_at c.args.ends.now 0 c.loop-e.e-index (omega arith))

-- the end looked at
module _ {d : Drawing} {l : List ℕ} {k : ℕ} {foot top : ℤ} (sound : Faultless d) (column : Column d l) (inside : k < length l) (passed : ColumnPassed d (take k l) foot top) where
  abbrev e : ℕ
  e = get_or l k 0

  here : e ∈ l
  here = in_at l 0 k inside

  within : (f : ℕ) → f ∈ take k l → f ∈ l
  within f m = in_take k l f m

  rises : (f : ℕ) → f ∈ take k l → (end_point d f).y ≤ℤ (end_point d e).y
  rises f m = pairs_before (λ e f. (end_point d e).y ≤ℤ (end_point d f).y) l 0 column.rise k inside f m

  new : e ∈ take k l → ⊥
  new m = pairs_before (λ e f. e ≡ f → ⊥) l 0 column.distinct k inside e m refl

  least : neg_ℤ (pos 2147483648) ≤ℤ (end_point d e).y
  least = let n = near_y (end_point d e) (end_near d sound e (column.known e here)) in omega (ints, n, of_abs (end_point d e).y, of_neg (pos 2147483648), of_pos 2147483648)

  up : VerticalStart d e → (segment_at d e).a.y <ℤ (segment_at d e).b.y
  up h = (vertical_upright (lt_p-true (proper_at sound e h.inside).rises) h.vertical).rises

  -- where all are unbroken it passes
  passes : {clear : Bool} → ((foot <ℤ (end_point d e).y → (end_point d e).y <ℤ top → ⊥) → (VerticalStart d e → (end_point d e).y <ℤ top → ⊥) → clear ≡ true) → Unbroken d l → clear ≡ true
  passes t u = t (not_between d passed e rises least u within here new) (λ h. not_below d passed e rises least u within here new h (up h))

  -- and what is known once it has
  then : {foot' top' : ℤ} → Beyond d e foot top foot' top' → ColumnPassed d (take (k + 1) l) foot' top'
  then {foot'} {top'} b =
      subst (λ (seen : List ℕ). ColumnPassed d seen foot' top') (sym (ap (λ (n : ℕ). take n l) (add-one k) ∙ take-suc l k 0 inside))
      (column_passes d passed e rises least b (λ h. lt_le (up h)) (vertical-start? d e))

pub returns-in_default : goal.returns-in_default
returns-in_default c =
    (λ t. absurd (clash t refl), passes c.requires.0 c.requires.1 (omega arith) c.loop-e.invariant c.in_default.ensures.can)

pub loop-e-preserved : goal.loop-e-preserved
loop-e-preserved c = then c.requires.0 c.requires.1 (omega arith) c.loop-e.invariant c.in-Some.ensures.beyond
