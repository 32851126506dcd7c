-- What is before low is below, what is from high on is above, and they come together.
use mathlib.Core.Path.{◌≡◌, sym, ap, ◌∙◌}
use mathlib.Core.Bool.{Bool, true, false}
use native.Mathlib.Omega.{arith}
use Prim.Native.Nat.{ℕ, ◌+◌, ◌-◌, ◌/◌, ◌<◌, ◌≤◌}
use Rattle.lists.proofs.Members.{in_at}
use Rattle.scan.specs.Scan.{Changes}
use Rattle.scan.proofs.place_of.Invariants.{Between}
use Rattle.scan.proofs.place_of.Goals as goal

abbrev middle : ℕ → ℕ → ℕ
middle low high = low + (high - low) / 2

module _ {test : ℕ → Bool} {many low high : ℕ} (b : Between test many low high) where
  upper : low < high → test (middle low high) ≡ true → Between test many (middle low high + 1) high
  upper h e =
      let last : middle low high + 1 - 1 ≡ middle low high = omega arith in
      record { order = omega arith; till = b.till; before = λ _. ap test last ∙ e; after = b.after }

  lower : low < high → test (middle low high) ≡ false → Between test many low (middle low high)
  lower h e = record { order = omega arith; till = omega (arith, b.till); before = b.before; after = λ _. e }

  met : high ≤ low → Changes test 0 many low
  met h =
      let one : low ≡ high = omega (arith, b.order) in
      record { from = omega arith; till = omega (arith, b.till); before = b.before; after = λ l. ap test one ∙ b.after (omega arith) }

pub loop-low-init : goal.loop-low-init
loop-low-init c = record { order = omega arith; till = omega arith; before = λ h. absurd (omega arith); after = λ h. absurd (omega arith) }

-- the number looked at
inside : {test : ℕ → Bool} {many low high : ℕ} → Between test many low high → low < high → middle low high < many
inside b h = omega (arith, b.till)

pub bounds-list-middle : goal.bounds-list-middle
bounds-list-middle c = inside c.loop-low.invariant c.loop-low-test.true

pub is_below-requires : goal.is_below-requires
is_below-requires c =
    (c.requires.0 _ (in_at c.args.list.now 0 (middle c.loop-low.low c.loop-low.high) (inside c.loop-low.invariant c.loop-low-test.true)), c.requires.1)

pub loop-low-preserved-then-is_below : goal.loop-low-preserved-then-is_below
loop-low-preserved-then-is_below c = upper c.loop-low.invariant c.loop-low-test.true (sym c.is_below.ensures ∙ c.if-is_below.true)

pub loop-low-preserved : goal.loop-low-preserved
loop-low-preserved c = lower c.loop-low.invariant c.loop-low-test.true (sym c.is_below.ensures ∙ c.if-is_below.false)

pub returns : goal.returns
returns c = met c.loop-low.invariant c.loop-low-test.false
