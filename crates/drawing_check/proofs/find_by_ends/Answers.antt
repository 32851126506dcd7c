-- The parts of the lists that the ends need are looked at.
use Rattle.std.proofs.Common.{◌≡◌, refl, sym, ap, subst, ◌∙◌, List, ℕ, ◌*◌, ◌≤◌, length, take, ℤ, Err, arith}
use Rattle.std.proofs.lemmas.Result.{err_from_is_err_and}
use lib.Seq.{length-take-le}
use Rattle.refusal.specs.Order.{Verdict, ◌then◌}
use Rattle.refusal.proofs.Order.{not_both, passed_on}
use Rattle.segm.specs.Segments.{count, segments}
use Rattle.segm.proofs.Segments.{length-segments}
use Rattle.balance.specs.Balance.{NodesByPoint}
use Rattle.drawing_check.specs.Drawing.{meetings_of, unbalanced_of}
use Rattle.drawing_check.proofs.find_by_ends.Goals as goal

-- the front of a list, by how many segments there are
front : (numbers : List ℤ) {n : ℕ} (l : List ℕ) → n ≡ count numbers → take (2 * length (segments numbers)) l ≡ take (2 * n) l
front numbers l e = ap (λ m. take (2 * m) l) (length-segments numbers ∙ sym e)

front_length : (numbers : List ℤ) {n : ℕ} (l : List ℕ) → n ≡ count numbers → 2 * length (segments numbers) ≤ length l → 2 * n ≡ length (take (2 * n) l)
front_length numbers {n} l e room = sym (length-take-le (2 * n) l (omega (arith, e, length-segments numbers)))

pub overflow_mul-e : goal.overflow_mul-e
overflow_mul-e c = record { fits = omega (arith, c.count-e.ensures, length-segments c.args.s.now, c.requires.0.few) }

pub slice_bounds-find_meeting-end : goal.slice_bounds-find_meeting-end
slice_bounds-find_meeting-end c = front_length c.args.s.now c.args.flat.now c.count-e.ensures c.requires.1.all_ends

pub find_meeting-requires : goal.find_meeting-requires
find_meeting-requires c = (c.requires.0, sym (front c.args.s.now c.args.flat.now c.count-e.ensures) ∙ c.requires.1.order, c.requires.5, c.requires.6)

pub returns-in_err-find_meeting : goal.returns-in_err-find_meeting
returns-in_err-find_meeting c =
    let d = segments c.args.s.now in
    let p = err_from_is_err_and c.from_residual.result c.from_residual.ensures.1 in
    let e = p.1 ∙ ap Err p.2 in
    (passed_on (meetings_of d) (unbalanced_of d) e (sym c.in_err-find_meeting.ensures.0), λ t. not_both (sym e ∙ t))

pub slice_bounds-find_unbalanced-end : goal.slice_bounds-find_unbalanced-end
slice_bounds-find_unbalanced-end c = front_length c.args.s.now c.args.nodes.now c.count-e.ensures c.requires.2.each_end

pub find_unbalanced-requires : goal.find_unbalanced-requires
find_unbalanced-requires c =
    (c.requires.0, subst (NodesByPoint (segments c.args.s.now)) (front c.args.s.now c.args.nodes.now c.count-e.ensures) c.requires.2.numbered, c.requires.3, c.requires.4)

pub returns : goal.returns
returns c =
    (c.find_unbalanced.ensures ∙ ap (λ (v : Verdict). v then unbalanced_of (segments c.args.s.now)) c.in_ok-find_meeting.ensures.0, λ _. c.in_ok-find_meeting.ensures.1 refl)
