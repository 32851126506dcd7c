-- What is asked first, then the points.
use mathlib.Core.Path.{sym, ap, ◌∙◌}
use lib.ListN.{length}
use Rattle.std.proofs.lemmas.Result.{err_from_is_err_and}
use Rattle.contour.specs.Points.{pair_up}
use Rattle.contour.proofs.Points.Coordinates.{length_pairs}
use Rattle.refusal.specs.Order.{Verdict, first, ◌then◌}
use Rattle.string_split.specs.Run.{out_of_range_at}
use Rattle.string_split.proofs.Run.{verdict_asked}
use Rattle.string_split.proofs.check_split.Goals as goal

pub returns-in_err-asked_first : goal.returns-in_err-asked_first
returns-in_err-asked_first c =
    let a = c.args in
    let rest : Verdict = first (out_of_range_at (pair_up a.points.now)) (length (pair_up a.points.now)) in
    let p = err_from_is_err_and c.from_residual.result c.from_residual.ensures.1 in
    rw (p.1, p.2)
    (sym (verdict_asked a.points.now a.out a.lengths c.is_wrong_length-wrong.ensures c.is_short.ensures c.is_short-2.ensures c.asked_first.ensures ∙ ap (λ (v : Verdict). v then rest) c.in_err-asked_first.was))

pub returns : goal.returns
returns c =
    let a = c.args in
    let l = a.points.now in
    let rest : Verdict = first (out_of_range_at (pair_up l)) (length (pair_up l)) in
    c.find_first.ensures ∙ ap (first (out_of_range_at (pair_up l))) (sym (length_pairs l))
    ∙ sym (verdict_asked l a.out a.lengths c.is_wrong_length-wrong.ensures c.is_short.ensures c.is_short-2.ensures c.asked_first.ensures ∙ ap (λ (v : Verdict). v then rest) c.in_ok-asked_first.was)
