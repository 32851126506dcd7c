-- The last of the list is a place with a top count.
use Rattle.std.proofs.Common.{◌≡◌, ℕ, ◌-◌, List, [], ◌∷◌, length, get_or, refl, ap, sym, subst, ◌∙◌, arith, pos, ℤ, Some, None}
use borrow.Author.Rules.{rules}
use Rattle.std.proofs.lemmas.Option.{slice_get_within, get_or_from_slice_get, slice_get-get_or}
use Rattle.std.specs.List.{slice_get}
use mir.Syntax.{w32}
use Rattle.integers.proofs.Machine.{read}
use Rattle.lists.specs.Members.{◌∈◌}
use Rattle.lists.proofs.Members.{in_at}
use Rattle.count_up.specs.CountUp.{last_in}
use Rattle.count_up.proofs.CountUp.{last_at, last_none}
use Rattle.count_up.proofs.count_below.Goals as goal

last_in_list : (l : List ℕ) (i : ℕ) → Some i ≡ slice_get l (length l - 1) → i ∈ l
last_in_list l i e = subst (λ (n : ℕ). n ∈ l) (get_or_from_slice_get l (length l - 1) i 0 (sym e)) (in_at l 0 (length l - 1) (slice_get_within l (length l - 1) i (sym e)))

entry_of_last : (tops : List ℤ) (l : List ℕ) (i : ℕ) → Some i ≡ slice_get l (length l - 1) → get_or tops i (pos 0) ≡ last_in tops l
entry_of_last tops l i e =
    let inside = slice_get_within l (length l - 1) i (sym e) in
    ap (λ n. get_or tops n (pos 0)) (sym (get_or_from_slice_get l (length l - 1) i 0 (sym e))) ∙ sym (last_at (λ n. get_or tops n (pos 0)) l (omega arith))

none_last : (l : List ℕ) → None ≡ slice_get l (length l - 1) → length l ≡ 0
none_last [] e = refl
none_last (x ∷ l) e = let some = slice_get-get_or (x ∷ l) (length (x ∷ l) - 1) 0 (omega arith) in absurd (cc)

pub bounds-tops-i : goal.bounds-tops-i
bounds-tops-i c = c.requires _ (last_in_list c.args.list.now _ c.in-Some.ensures.value)

pub returns-in-Some : goal.returns-in-Some
returns-in-Some c = read w32 _ (search rules) ∙ entry_of_last c.args.tops.now c.args.list.now _ c.in-Some.ensures.value

pub returns-in-None : goal.returns-in-None
returns-in-None c = sym (last_none (λ i. get_or c.args.tops.now i (pos 0)) c.args.list.now (none_last c.args.list.now c.in-None.ensures.value))
