-- What an accepted run is given.
use mathlib.Core.Path.{◌≡◌, refl, sym, ap, ap₂, ◌∙◌}
use mathlib.Core.List.{List, [], ◌∷◌}
use mathlib.Core.Logic.{inl, inr}
use mathlib.Core.Bool.{Bool, true, false, cond, ◌||◌}
use Prim.Native.Nat.{ℕ, ◌/◌, ◌≤◌}
use native.Mathlib.Omega.{arith}
use lib.ListN.{length, get_or}
use lib.IntN.{ℤ}
use Rattle.integers.proofs.Booleans.{or_false}
use Rattle.geom.specs.declared.Point.{Point}
use Rattle.geom.specs.Points.{in_range}
use Rattle.lists.specs.Members.{any}
use Rattle.lists.proofs.Members.{stands}
use Rattle.contour.specs.Points.{pair_up, origin, AllInRange}
use Rattle.contour.proofs.Points.Coordinates.{length_pairs}
use Rattle.std.specs.Prelude.{Option, Some, None}
use Rattle.refusal.specs.declared.Kind.{Kind}
use Rattle.refusal.specs.declared.Kind.TheVariants.{WrongLength, OutOfRange, TooShort}
use Rattle.refusal.specs.Order.{Verdict, accepted, refuse_if, first, ◌then◌}
use Rattle.refusal.specs.Asked.{wrong_length, Lent, lent, too_short, asked_first}
use Rattle.refusal.proofs.Order.{first-none, accepted_then, accepted_if}
use Rattle.refusal.proofs.Asked.{few_entries, whole_entries, all_long}
use Rattle.string_split.specs.Run.{out_of_range_at, split_verdict}
use Rattle.split_loops.specs.Splitting.{Splittable}

-- no refusal by place: all are in range
in_range_lem : (b : Bool) → ◌≡◌ {A = Option Kind} (cond b None (Some OutOfRange)) None → b ≡ true
in_range_lem true e = refl
in_range_lem false e = let bad : ⊥ = cc in absurd bad

near : (points : List Point) → first (out_of_range_at points) (length points) ≡ accepted → AllInRange points
unfolding out_of_range_at
near points e p m =
    let s = stands points origin p m in
    ap in_range (sym s.is) ∙ in_range_lem (in_range (get_or points s.place origin)) (first-none (out_of_range_at points) (length points) e s.place s.inside)

-- whole, few and in range, and lists long enough
pub record AcceptedSplit (points : List ℤ) (out lengths : ℕ) : Type 0 where
  pub splittable : Splittable points
  pub out_fits : length points ≤ out
  pub lengths_fit : length (pair_up points) ≤ lengths

pub accepted_split : (points : List ℤ) (out lengths : ℕ) → split_verdict points out lengths ≡ accepted → AcceptedSplit points out lengths
unfolding split_verdict
accepted_split points out lengths e =
    let n = length points / 2 in
    let room : List Lent = lent out 2 ∷ lent lengths 1 ∷ [] in
    let e₂ = accepted_then (refuse_if WrongLength (wrong_length 2 2048 (length points))) _ e in
    let e₁₁ = accepted_then (refuse_if TooShort (any (too_short n) room)) _ e₂.1 in
    let right = accepted_if WrongLength _ e₂.0 in
    let long = all_long n room (accepted_if TooShort _ e₁₁.0) in
    let whole = whole_entries 2 2048 (length points) right in
    record {
      splittable = record { whole = whole; few = omega (arith, whole, few_entries 2 2048 (length points) right); near = near (pair_up points) e₁₁.1 };
      out_fits = omega (arith, whole, long (lent out 2) (inl refl));
      lengths_fit = omega (arith, length_pairs points, long (lent lengths 1) (inr (inl refl)));
    }

-- the verdict by what is asked first, and then the points
by_asked : (wrong short : Bool) (rest : Verdict) → (refuse_if WrongLength wrong then refuse_if TooShort short then rest) ≡ (asked_first wrong false short then rest)
unfolding asked_first
by_asked true short rest = refl
by_asked false true rest = refl
by_asked false false rest = refl

module _ (points : List ℤ) (out lengths : ℕ) {wrong short₁ short₂ : Bool} (w : wrong ≡ wrong_length 2 2048 (length points))
    (s₁ : short₁ ≡ too_short (length points / 2) (lent out 2)) (s₂ : short₂ ≡ too_short (length points / 2) (lent lengths 1)) where
  pub verdict_asked : {v : Verdict} → v ≡ asked_first wrong false (short₁ || short₂) → split_verdict points out lengths ≡ (v then first (out_of_range_at (pair_up points)) (length (pair_up points)))
  unfolding split_verdict any
  verdict_asked {v} e =
      let rest = first (out_of_range_at (pair_up points)) (length (pair_up points)) in
      let short : any (too_short (length points / 2)) (lent out 2 ∷ lent lengths 1 ∷ []) ≡ (short₁ || short₂) = sym (ap₂ ◌||◌ s₁ (s₂ ∙ sym (or_false _))) in
      ap₂ (λ w s. refuse_if WrongLength w then refuse_if TooShort s then rest) (sym w) short ∙ by_asked wrong (short₁ || short₂) rest ∙ ap (λ (u : Verdict). u then rest) (sym e)
