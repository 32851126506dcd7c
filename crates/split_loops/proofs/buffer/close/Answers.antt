-- The point is put after the buffer, so what is cut off and the point stand in one part.
use mathlib.Core.Path.{◌≡◌, sym, subst, ap, ◌∙◌}
use mathlib.Core.Bool.{true}
use mathlib.Core.List.{List, [], ◌∷◌, ◌++◌}
use native.Mathlib.Omega.{arith}
use native.Mathlib.Numerals.{add-one}
use Prim.Native.Nat.{ℕ, suc, ◌+◌, ◌*◌, ◌-◌, ◌≤◌, ◌<◌}
use lib.ListN.{length, take, drop, set, length-take, length-drop, length-set}
use lib.IntN.{ℤ}
use Rattle.geom.specs.declared.Point.{Point}
use Rattle.geom.specs.Points.{in_range}
use Rattle.lists.specs.Members.{keep}
use Rattle.contour.specs.Points.{pair_up, AllInRange}
use Rattle.contour.specs.Area.{is_large}
use Rattle.split_loops.specs.Loops.{buffer_point}
use Rattle.split_loops.specs.Splitting.{first_points, Added, Splittable}
use Rattle.split_loops.proofs.Splitting.{added_none, length-first_points, put_first_points, part-first_points}
use Rattle.split_loops.proofs.Fits.{near_more, near_drop}
use Rattle.split_loops.proofs.OnePoint.{buffer_front, none-closed, one-closed}
use Rattle.split_loops.proofs.buffer.close.Goals as goal

-- the point p put after the first `len` of the list l
module _ (p : Point) (number len : ℕ) (l put : List ℤ) (room : 2 * suc len ≤ length l) (is : put ≡ set (set l (2 * len) p.x) (2 * len + 1) p.y) where
  abbrev before : List Point
  before = first_points len l

  as_many : length before ≡ len
  as_many = length-first_points len l (omega (arith, room))

  put_is : first_points (suc len) put ≡ before ++ (p ∷ [])
  put_is = ap (first_points (suc len)) is ∙ put_first_points l len p room

  after : first_points (length (buffer_point number before p).buffer) put ≡ (buffer_point number before p).buffer
  after = buffer_front number before p (pair_up put) (ap (λ n. first_points (suc n) put) as_many ∙ put_is)

  -- what the number cuts off, with the point
  module _ (cuts : number + 2 ≤ len) where
    abbrev part : List ℤ
    part = take (2 * (len + 1) - 2 * number) (drop (2 * number) put)

    part_is : pair_up part ≡ drop number (before ++ (p ∷ []))
    part_is = part-first_points put number (len + 1) (omega arith) ∙ ap (λ n. drop number (first_points n put)) (add-one len) ∙ ap (drop number) put_is

    part_length : length part ≡ 2 * (len + 1 - number)
    part_length =
        omega (
          arith,
          length-take (2 * (len + 1) - 2 * number) (drop (2 * number) put),
          length-drop (2 * number) put,
          ap length is,
          length-set (set l (2 * len) p.x) (2 * len + 1) p.y,
          length-set l (2 * len) p.x,
          room,
        )

    splittable : len < 2048 → AllInRange before → in_range p ≡ true → Splittable part
    splittable few near q = record {
      whole = omega (arith, part_length);
      few = omega (arith, part_length, few);
      near = subst AllInRange (sym part_is) (near_drop number (before ++ (p ∷ [])) (near_more before p near q));
    }

    loop_is : pair_up part ∷ [] ≡ (buffer_point number before p).loops
    loop_is = ap (λ (l : List Point). l ∷ []) part_is ∙ sym (one-closed number before p (omega (arith, as_many, cuts)))

pub returns-then-len-from : goal.returns-then-len-from
unfolding keep
returns-then-len-from c =
    let a = c.args in
    let put = c.put_point in
    let w = a.writer.now in
    let b = first_points a.len a.buffer.now in
    let n = as_many a.p a.number a.len a.buffer.now put.new.points c.requires.2 put.ensures in (
      after a.p a.number a.len a.buffer.now put.new.points c.requires.2 put.ensures,
      subst (λ (l : List (List Point)). Added (keep (is_large a.min_area) l) w w)
          (sym (none-closed a.number b a.p (omega (arith, n, c.if-len-from.true)))) (added_none w),
    )

pub add-requires : goal.add-requires
add-requires c =
    let a = c.args in
    let put = c.put_point in
    let r = c.requires in
    let n = part_length a.p a.number a.len a.buffer.now put.new.points r.2 put.ensures c.if-len-from.false in (
      splittable a.p a.number a.len a.buffer.now put.new.points r.2 put.ensures c.if-len-from.false r.1 r.4 r.0,
      omega (arith, n),
      record { points_fit = omega (arith, n, r.5.points_fit); loops_fit = omega (arith, n, r.5.loops_fit); few = r.5.few },
    )

pub returns : goal.returns
returns c =
    let a = c.args in
    let put = c.put_point in
    let add = c.add in (
      after a.p a.number a.len a.buffer.now put.new.points c.requires.2 put.ensures,
      subst (λ (l : List (List Point)). Added (keep (is_large a.min_area) l) a.writer.now add.new.self)
          (loop_is a.p a.number a.len a.buffer.now put.new.points c.requires.2 put.ensures c.if-len-from.false) add.ensures,
    )
