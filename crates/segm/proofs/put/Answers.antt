-- The numbers of t take the places of those that stood there.
use Rattle.std.proofs.Common.{◌≡◌, ◌+◌, ◌-◌, ◌*◌, refl, arith}
use Rattle.std.proofs.lemmas.List.{drop-drop}
use mir.Syntax.{w32}
use Rattle.integers.proofs.Machine.{read}
use Rattle.segm.specs.Segments.{numbers_of}
use Rattle.segm.proofs.put.Goals as goal

pub returns : goal.returns
unfolding numbers_of
returns c =
    let t = c.args.t in
    let seven : c.args.i * 7 + 7 - c.args.i * 7 ≡ 7 = omega arith in
    let ax = read w32 t.a.x (omega arith) in
    let ay = read w32 t.a.y (omega arith) in
    let bx = read w32 t.b.x (omega arith) in
    let by = read w32 t.b.y (omega arith) in
    let winding = read w32 t.winding (omega arith) in
    let bits = read w32 t.bits (omega arith) in
    let lot = read w32 t.lot (omega arith) in
    let e : c.copy_from_slice.new.self ≡ numbers_of t = simp (ax, ay, bx, by, winding, bits, lot) at c.copy_from_slice.ensures.after in
    rw (seven, e) (simp drop-drop refl)
