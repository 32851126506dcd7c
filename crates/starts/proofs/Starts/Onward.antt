-- From node to node.
use mathlib.Core.Path.{◌≡◌}
use mathlib.Core.List.{List}
use mathlib.Core.Bool.{true}
use Prim.Native.Nat.{ℕ, ◌<◌, ◌≤◌}
use native.Mathlib.Omega.{arith}
use native.Mathlib.Decide.{dec_lt}
use lib.ListN.{length}
use lib.IntN.{ℤ}
use Rattle.segm.specs.Segments.{Drawing, segment_at}
use Rattle.strip.specs.Strip.{is_vertical}
use Rattle.faults.specs.Faultless.{Faultless}
use Rattle.strip.specs.Neighbours.{InOrder}
use Rattle.open_list.specs.OpenList.{Entered}
use Rattle.open_list.proofs.OpenList.{none_entered, entered_more, can_enter_next}
use Rattle.starts.specs.Starts.{Gapped, Started, CanStart}
use Rattle.starts.proofs.Starts.Entering.{entered_open}

pub none_started : {d : Drawing} {l : List ℕ} {tops : List ℤ} (from : ℕ) → InOrder d l → Started d from from l l tops tops
none_started from o = record { entered = none_entered from o; gaps = λ v a b u. absurd (omega arith); counted = λ count c y h s t. t }

module _ {d : Drawing} (faultless : Faultless d) {from i to : ℕ} (since : from ≤ i) (till : i ≤ to) (few : to ≤ length d) where
  pub started_more : {l l₁ l₂ : List ℕ} {tops tops₁ tops₂ : List ℤ} → Started d from i l l₁ tops tops₁ → Started d i to l₁ l₂ tops₁ tops₂ → Started d from to l l₂ tops tops₂
  started_more {l} {l₁} p q = record {
    entered = entered_more from i to since till p.entered q.entered;
    gaps = λ v a b u. go v a b u (dec_lt v i);
    counted = λ count c y h s t. q.counted count c y (entered_open faultless since (omega arith) h (λ j a b. s j a (omega arith)) p.entered) (λ j a b. s j (omega arith) b) (p.counted count c y h (λ j a b. s j a (omega arith)) t);
  }
    where
      go : (v : ℕ) → from ≤ v → v < to → is_vertical (segment_at d v) ≡ true → Dec (v < i) → Gapped d from to l v
      go v a b u (yes h) = let g = p.gaps v a h u in record { m = g.m; own = g.own; till = omega (arith, g.till); splits = g.splits; between = g.between; entered = g.entered; in_gap = g.in_gap }
      go v a b u (no h) =
          let g = q.gaps v (omega arith) b u in
          record { m = g.m; own = g.own; till = g.till; splits = g.splits; between = g.between; entered = entered_more from i g.m since (omega (arith, g.own)) p.entered g.entered; in_gap = g.in_gap }

pub can_start_next : {d : Drawing} {from i next to : ℕ} {l l₁ : List ℕ} → from ≤ i → i ≤ next → next ≤ to → CanStart d from to l → Entered d from i l l₁ → CanStart d i next l₁
can_start_next {d} {from} {i} {next} {to} {l} {l₁} a b c w e = record {
  entering = can_enter_next d from i next to l l₁ a b c w.entering e;
  clears = λ m k f g n v h j. w.clears m k (omega arith) (omega arith) (entered_more from i m a f e n) v (omega arith) j;
}
