-- The walks are made, then cut; what refuses before writes nothing.
use Rattle.std.proofs.Common.{refl, ap, ◌∙◌, ◌*◌, ◌≤◌, length, Ok, Err, ℤ, pos, arith}
use Rattle.std.proofs.lemmas.Result.{err_from_is_err_and}
use Rattle.std.proofs.lemmas.List.{length-replicate}
use mir.Facts.{to_z-of_z}
use Rattle.segm.specs.Segments.{segments}
use Rattle.string_slice.specs.Run.{lists, outcome}
use Rattle.string_slice.proofs.Run.{is_one, staged, refused_outcome, numbers_fit, stands, points_fit, lengths_fit, roles_fit, cut-outcome}
use Rattle.string_slice.proofs.slice_in.Goals as goal

pub returns-in_err-n : goal.returns-in_err-n
returns-in_err-n g c =
    let ls = lists c.args.points.now c.args.lengths.now c.args.roles.now in
    let p = err_from_is_err_and c.from_residual.result c.from_residual.ensures.1 in
    let w = rw (to_z-of_z c.ranges.rule) at c.in_err-n.ensures in
    ap (λ a. outcome a ls) (p.1 ∙ ap Err p.2)
    ∙ refused_outcome c.args.s.now c.args.rule c.args.direction ls c.requires.asked_first (Err c.in_err-n.field-0.0) _ _ _ w c.args.min_area refl

pub cut_walks-requires : goal.cut_walks-requires
cut_walks-requires g c =
    let ls = lists c.args.points.now c.args.lengths.now c.args.roles.now in
    let w = rw (to_z-of_z c.ranges.rule) at c.in_ok-n.ensures in
    let room : 4 * length (segments c.args.s.now) ≤ length c.make_walks.new.walks = omega (arith, c.requires.few, c.requires.sizes.0.0.1, c.requires.sizes.1, c.make_walks.auto.walks, length-replicate {A = ℤ} g.row.NUMBERS (pos 0)) in
    let made = staged c.args.s.now c.args.rule c.args.direction ls c.requires.asked_first (Ok c.in_ok-n.n) _ _ _ w refl room in
    (stands made, numbers_fit made, points_fit made, lengths_fit made, roles_fit made)

pub returns : goal.returns
returns g c =
    let ls = lists c.args.points.now c.args.lengths.now c.args.roles.now in
    let w = rw (to_z-of_z c.ranges.rule) at c.in_ok-n.ensures in
    let room : 4 * length (segments c.args.s.now) ≤ length c.make_walks.new.walks = omega (arith, c.requires.few, c.requires.sizes.0.0.1, c.requires.sizes.1, c.make_walks.auto.walks, length-replicate {A = ℤ} g.row.NUMBERS (pos 0)) in
    let made = staged c.args.s.now c.args.rule c.args.direction ls c.requires.asked_first (Ok c.in_ok-n.n) _ _ _ w refl room in
    cut-outcome made _ c.args.min_area (is_one c.ranges.direction) c.cut_walks.ensures.0 c.cut_walks.ensures.1
