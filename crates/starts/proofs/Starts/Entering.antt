-- The list of a strip while segments enter.
use mathlib.Core.Path.{◌≡◌}
use mathlib.Core.List.{List}
use mathlib.Core.Bool.{true, false}
use Prim.Native.Nat.{ℕ, ◌<◌, ◌≤◌}
use native.Mathlib.Omega.{arith}
use native.Mathlib.Decide.{dec_lt}
use lib.ListN.{length}
use lib.IntN.{ℤ}
use Rattle.integers.proofs.Linear.{ints}
use Rattle.geom.proofs.Points.{lt_p-true}
use Rattle.lists.specs.Members.{◌∈◌}
use Rattle.segm.specs.Segments.{Drawing, segment_at}
use Rattle.lists.proofs.Members.{cases}
use Rattle.strip.specs.Strip.{is_vertical, spans}
use Rattle.strip.proofs.Strip.Apart.{Over}
use Rattle.strip.proofs.Strip.Above.{spans_on, spans-over}
use Rattle.strip.proofs.Strip.Vertical.{not_vertical_by, not_vertical_wide}
use Rattle.faults.specs.Faultless.{Faultless}
use Rattle.faults.proofs.Faultless.{proper_at}
use Rattle.count_up.specs.CountUp.{OpenAt}
use Rattle.open_list.specs.OpenList.{Entered}

-- places from..to enter, which start at y
pub entered_open : {d : Drawing} {from to : ℕ} {y : ℤ} {l l' : List ℕ} → Faultless d → from ≤ to → to ≤ length d → OpenAt d from y l → ((i : ℕ) → from ≤ i → i < to → (segment_at d i).a.x ≡ y) → Entered d from to l l' → OpenAt d to y l'
entered_open {d} {from} {to} {y} {l} {l'} faultless h t k starts e = record {
  order = e.order;
  mine = λ i n. cases (λ m. let (u, s) = k.mine i m in (omega arith, s)) (λ m. (m.1, start i m.0 m.1 m.2)) (e.mine i n);
  every = λ i u s. go i u s (dec_lt i from);
}
  where
    start : (i : ℕ) → from ≤ i → i < to → is_vertical (segment_at d i) ≡ false → spans (segment_at d i) y ≡ true
    start i a b v =
        let s = starts i a b in
        let w = (not_vertical_wide (segment_at d i) (lt_p-true (proper_at faultless i (omega arith)).rises) v).goes in
        spans_on (record { from = omega ints; to = omega ints })

    go : (i : ℕ) → i < to → spans (segment_at d i) y ≡ true → Dec (i < from) → i ∈ l'
    go i u s (yes v) = e.kept i (k.every i v s)
    go i u s (no v) = let o : Over y (segment_at d i) = spans-over s in e.came i (omega arith) u (not_vertical_by (segment_at d i) (λ q. let f = o.from in let t = o.to in omega ints))
