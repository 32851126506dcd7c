-- Laws of the kit's own lists that it does not have: entries through a function, and lists of lists.
use mathlib.Core.Path.{◌≡◌, refl, sym, ◌∙◌, ap, ap₂}
use mathlib.Core.List.{List, [], ◌∷◌, ◌++◌, map, flatten, append_assoc, append-nil}
use mathlib.Core.Logic.{inl, inr}
use Prim.Native.Nat.{ℕ, zero, suc, ◌<◌}
use native.Mathlib.Omega.{arith}
use lib.ListN.{length, get_or}
use Rattle.lists.specs.Members.{◌∈◌}

pub get_d_map : {A B : Type 0} (f : A → B) (l : List A) (i : ℕ) (z : A) (w : B) → i < length l → get_or (map f l) i w ≡ f (get_or l i z)
get_d_map f [] i z w h = absurd (omega arith)
get_d_map f (x ∷ l) zero z w h = refl
get_d_map f (x ∷ l) (suc i) z w h = get_d_map f l i z w (omega arith)

pub map_cong : {A B : Type 0} (f g : A → B) (l : List A) → ((x : A) → x ∈ l → f x ≡ g x) → map f l ≡ map g l
map_cong f g [] h = refl
map_cong f g (x ∷ l) h = ap₂ ◌∷◌ (h x (inl refl)) (map_cong f g l (λ y m. h y (inr m)))

pub flatten-++ : {A : Type 0} (l m : List (List A)) → flatten (l ++ m) ≡ flatten l ++ flatten m
unfolding flatten
flatten-++ [] m = refl
flatten-++ (x ∷ l) m = ap (x ++◌) (flatten-++ l m) ∙ sym (append_assoc x (flatten l) (flatten m))

pub flatten_one : {A : Type 0} (done : List (List A)) (l : List A) → flatten (done ++ (l ∷ [])) ≡ flatten done ++ l
unfolding flatten
flatten_one done l = flatten-++ done (l ∷ []) ∙ ap (flatten done ++◌) (append-nil l)
