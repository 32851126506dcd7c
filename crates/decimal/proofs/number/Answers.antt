-- After a minus.
use mathlib.Core.Path.{◌≡◌, refl, sym, ap, ◌∙◌}
use mathlib.Core.List.{List}
use Prim.Native.Nat.{ℕ, ◌-◌, ◌^◌, ◌<◌}
use native.Mathlib.Omega.{arith}
use lib.IntN.{ℤ, pos, neg_ℤ, ◌-ℤ◌}
use lib.ListN.{length, get_or, drop, take}
use mir.Syntax.{w32}
use mir.Val.{to_z, of_z}
use Rattle.std.specs.Prelude.{Option, Some, None}
use Rattle.std.specs.Option.{option_map}
use Rattle.std.proofs.lemmas.Int.{ints}
use Rattle.std.proofs.lemmas.Option.{none-some}
use Rattle.decimal.specs.Decimal.{positive, field_of}
use Rattle.decimal.proofs.Decimal.{nine_positive}
use Rattle.decimal.proofs.Reading.{field_minus}
use Rattle.decimal.proofs.number.Goals as goal

-- none, or a number of nine digits, whose negative fits
none_after : (s : List ℕ) → get_or s 0 0 ≡ 45 → (o : Option ℕ) → positive (take (length s - 1) (drop 1 s)) ≡ o → None ≡ option_map pos o → field_of s ≡ None
none_after s m None p e = field_minus s m ∙ ap (option_map (λ n. neg_ℤ (pos n))) p
none_after s m (Some n) p e = absurd (none-some (pos n) e)

some_after : (s : List ℕ) → get_or s 0 0 ≡ 45 → (o : Option ℕ) → positive (take (length s - 1) (drop 1 s)) ≡ o → (z : ℤ) → Some z ≡ option_map pos o
    → Some (to_z w32 (of_z w32 (pos 0 -ℤ to_z w32 (of_z w32 z)))) ≡ field_of s
some_after s m None p z e = absurd (none-some z (sym e))
some_after s m (Some n) p z e =
    let q : z ≡ pos n = cc in
    let small : n < 10 ^ 9 = (nine_positive _ n p).small in
    ap (λ (z : ℤ). Some z) (omega (arith, ints, q, small)) ∙ sym (field_minus s m ∙ ap (option_map (λ n. neg_ℤ (pos n))) p)

pub returns-in_err-positive-in-45 : goal.returns-in_err-positive-in-45
returns-in_err-positive-in-45 c = c.from_residual.ensures ∙ sym (none_after c.args.field.now (grind arith) _ refl c.in_err-positive-in-45.ensures)

pub returns-in_ok-positive-in-45 : goal.returns-in_ok-positive-in-45
returns-in_ok-positive-in-45 c = some_after c.args.field.now (grind arith) _ refl _ c.in_ok-positive-in-45.ensures
