-- The seven numbers are those at the front of what is left after i segments.
use borrow.Author.Rules.{rules}
use native.Mathlib.Omega.{arith}
use Prim.Native.Nat.{◌+◌, ◌*◌, ◌/◌, ◌<◌}
use lib.ListN.{length, get_or}
use lib.IntN.{pos}
use mir.Syntax.{w32}
use Rattle.integers.proofs.Machine.{read}
use Rattle.segm.specs.Segments.{width, front, count}
use Rattle.segm.proofs.Segments.{length-segments, segments-at, first-at, number_at}
use Rattle.segm.proofs.segment_in.Goals as goal

-- i is below the number of whole segments
room : (s : goal.Start) → s.args.i < length s.args.s.now / width
unfolding count
room s = omega (arith, length-segments s.args.s.now, s.requires)

pub overflow_mul-k : goal.overflow_mul-k
overflow_mul-k c = let h = room c in search rules

pub offset_bounds-s-k : goal.offset_bounds-s-k
offset_bounds-s-k c = let h = room c in search rules

pub bounds-s-k : goal.bounds-s-k
bounds-s-k c = let h = room c in search rules

pub overflow_add-a : goal.overflow_add-a
overflow_add-a c = let h = room c.before in search rules

pub offset_bounds-s-k-2 : goal.offset_bounds-s-k-2
offset_bounds-s-k-2 c = let h = room c.before in search rules

pub bounds-s-k-2 : goal.bounds-s-k-2
bounds-s-k-2 c = let h = room c.before in search rules

pub overflow_add-b : goal.overflow_add-b
overflow_add-b c = let h = room c.before.before in search rules

pub offset_bounds-s-k-3 : goal.offset_bounds-s-k-3
offset_bounds-s-k-3 c = let h = room c.before.before in search rules

pub bounds-s-k-3 : goal.bounds-s-k-3
bounds-s-k-3 c = let h = room c.before.before in search rules

pub overflow_add-b-2 : goal.overflow_add-b-2
overflow_add-b-2 c = let h = room c.before.before.before in search rules

pub offset_bounds-s-k-4 : goal.offset_bounds-s-k-4
offset_bounds-s-k-4 c = let h = room c.before.before.before in search rules

pub bounds-s-k-4 : goal.bounds-s-k-4
bounds-s-k-4 c = let h = room c.before.before.before in search rules

pub overflow_add-result : goal.overflow_add-result
overflow_add-result c = let h = room c.before.before.before.before in search rules

pub offset_bounds-s-k-5 : goal.offset_bounds-s-k-5
offset_bounds-s-k-5 c = let h = room c.before.before.before.before in search rules

pub bounds-s-k-5 : goal.bounds-s-k-5
bounds-s-k-5 c = let h = room c.before.before.before.before in search rules

pub overflow_add-result-2 : goal.overflow_add-result-2
overflow_add-result-2 c = let h = room c.before.before.before.before.before in search rules

pub offset_bounds-s-k-6 : goal.offset_bounds-s-k-6
offset_bounds-s-k-6 c = let h = room c.before.before.before.before.before in search rules

pub bounds-s-k-6 : goal.bounds-s-k-6
bounds-s-k-6 c = let h = room c.before.before.before.before.before in search rules

pub overflow_add-result-3 : goal.overflow_add-result-3
overflow_add-result-3 c = let h = room c.before.before.before.before.before.before in search rules

pub offset_bounds-s-k-7 : goal.offset_bounds-s-k-7
offset_bounds-s-k-7 c = let h = room c.before.before.before.before.before.before in search rules

pub bounds-s-k-7 : goal.bounds-s-k-7
bounds-s-k-7 c = let h = room c.before.before.before.before.before.before in search rules

pub returns : goal.returns
unfolding front count
returns c =
    let c₅ = c.before in
    let c₄ = c₅.before in
    let c₃ = c₄.before in
    let c₂ = c₃.before in
    let c₁ = c₂.before in
    let c₀ = c₁.before in
    let s = c₀.before in
    let l = s.args.s.now in
    let i = s.args.i in
    let ax = read w32 (get_or l (i * width) (pos 0)) c₀.a-1.given in
    let ay = read w32 (get_or l (i * width + 1) (pos 0)) c₁.a-2-1.given in
    let bx = read w32 (get_or l (i * width + 2) (pos 0)) c₂.b-1.given in
    let by = read w32 (get_or l (i * width + 3) (pos 0)) c₃.b-2-1.given in
    let winding = read w32 (get_or l (i * width + 4) (pos 0)) c₄.result-1.given in
    let bits = read w32 (get_or l (i * width + 5) (pos 0)) c₅.result-2-1.given in
    let lot = read w32 (get_or l (i * width + 6) (pos 0)) c.result-3-1.given in
    simp (segments-at l i (room s), first-at l i, number_at l i, ax, ay, bx, by, winding, bits, lot)
