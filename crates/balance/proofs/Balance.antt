-- The laws of `NodesByPoint` and `first_place`: the nodes that `graph` builds, and the first place that passes a test.
use mathlib.Core.Path.{◌≡◌, refl, ◌∙◌}
use mathlib.Core.List.{List}
use mathlib.Core.Bool.{Bool, true, false, cond}
use Prim.Native.Nat.{ℕ, ◌*◌, zero, suc, ◌+◌, ◌-◌, ◌<◌, ◌≤◌}
use native.Mathlib.Numerals.{add-one}
use native.Mathlib.Omega.{arith}
use lib.ListN.{length}
use Rattle.std.specs.Prelude.{Some, None}
use Rattle.segm.specs.Segments.{Drawing}
use Rattle.graph.specs.Nodes.{Nodes}
use Rattle.balance.specs.Balance.{NodesByPoint, first_place}

pub nodes_by_point : {d : Drawing} {flat starts nodes : List ℕ} → Nodes d flat starts nodes → length nodes ≡ 2 * length d → NodesByPoint d nodes
nodes_by_point are each = record { each_end = each; few = are.few; same = are.same; at_one = are.at_one }

module _ (test : ℕ → Bool) where
  -- one place of the search
  step : (n i : ℕ) → i < n → first_place test (n - i) i ≡ cond (test i) (Some i) (first_place test (n - (i + 1)) (i + 1))
  unfolding first_place
  step n i h = let e : n - i ≡ suc (n - suc i) = omega arith in rw (add-one, e)

  pub place_passed : (n i : ℕ) → i < n → test i ≡ true → first_place test (n - i) i ≡ Some i
  place_passed n i h e = step n i h ∙ simp e

  pub place_failed : (n i : ℕ) → i < n → test i ≡ false → first_place test (n - i) i ≡ first_place test (n - (i + 1)) (i + 1)
  place_failed n i h e = step n i h ∙ simp e

  pub place_end : (n i : ℕ) → n ≤ i → first_place test (n - i) i ≡ None
  unfolding first_place
  place_end n i k = let e : n - i ≡ 0 = omega arith in rw e

-- two tests that say the same of every place looked at
pub same_first : (f g : ℕ → Bool) (left i : ℕ) → ((k : ℕ) → k < i + left → f k ≡ g k) → first_place f left i ≡ first_place g left i
unfolding first_place
same_first f g zero i h = refl
same_first f g (suc left) i h = rw (h i (omega arith), same_first f g left (suc i) (λ k l. h k (omega arith)))
