-- What is asked first: what acceptance says of the length, the choices and the lent lists.
use mathlib.Core.Path.{◌≡◌}
use mathlib.Core.List.{List}
use mathlib.Core.Bool.{Bool, true, false, not}
use Prim.Native.Nat.{ℕ, ◌*◌, ◌/◌, ◌%◌, ◌≤◌}
use lib.Dec.{eqb, ltb}
use lib.IntN.{pos}
use borrow.Author.Tests.{eqb-true, ltb-false, not-false}
use Rattle.integers.proofs.Booleans.{nor_l, nor_r}
use Rattle.lists.specs.Members.{◌∈◌, any}
use Rattle.lists.proofs.Members.{any_false}
use Rattle.geom.specs.Points.{within}
use Rattle.refusal.specs.declared.Kind.TheVariants.{WrongLength, UnknownChoice, TooShort}
use Rattle.refusal.specs.Order.{accepted, refuse_if}
use Rattle.refusal.specs.Asked.{wrong_length, Choice, unknown_choice, Lent, too_short, asked_first}
use Rattle.refusal.proofs.Order.{accepted_then, accepted_if}

-- nothing was refused
pub record AskedPasses (wrong unknown short : Bool) : Type 0 where
  pub right_length : wrong ≡ false
  pub known : unknown ≡ false
  pub long : short ≡ false

pub asked_passes : (wrong unknown short : Bool) → asked_first wrong unknown short ≡ accepted → AskedPasses wrong unknown short
unfolding asked_first
asked_passes wrong unknown short e =
    let e₂ = accepted_then (refuse_if WrongLength wrong) _ e in
    let e₁₀ = accepted_then (refuse_if UnknownChoice unknown) _ e₂.1 in
    record { right_length = accepted_if WrongLength wrong e₂.0; known = accepted_if UnknownChoice unknown e₁₀.0; long = accepted_if TooShort short e₁₀.1 }

pub passes_asked : (wrong unknown short : Bool) → AskedPasses wrong unknown short → asked_first wrong unknown short ≡ accepted
unfolding asked_first
passes_asked wrong unknown short p = simp (p.right_length, p.known, p.long)

pub same_asked : {wrong wrong' unknown unknown' short short' : Bool} → wrong ≡ wrong' → unknown ≡ unknown' → short ≡ short' → asked_first wrong unknown short ≡ asked_first wrong' unknown' short'
same_asked {wrong} {wrong'} {unknown} {unknown'} {short} {short'} w u s = rw (w, u, s)

-- a length that is right
pub few_entries : (each most numbers : ℕ) → wrong_length each most numbers ≡ false → numbers / each ≤ most
unfolding wrong_length
few_entries each most numbers e = ltb-false most (numbers / each) (nor_r (not (eqb (numbers % each) 0)) (ltb most (numbers / each)) e)

pub whole_entries : (each most numbers : ℕ) → wrong_length each most numbers ≡ false → numbers % each ≡ 0
unfolding wrong_length
whole_entries each most numbers e = eqb-true (numbers % each) 0 (not-false _ (nor_l (not (eqb (numbers % each) 0)) (ltb most (numbers / each)) e))

-- choices that are known, and lists that are long enough
pub all_known : (choices : List Choice) → any unknown_choice choices ≡ false → (c : Choice) → c ∈ choices → within (pos 0) c.greatest c.value ≡ true
unfolding unknown_choice
all_known choices e c m = not-false _ (any_false unknown_choice choices e c m)

pub all_long : (n : ℕ) (lists : List Lent) → any (too_short n) lists ≡ false → (l : Lent) → l ∈ lists → l.each * n ≤ l.entries
unfolding too_short
all_long n lists e l m = ltb-false l.entries (l.each * n) (any_false (too_short n) lists e l m)
