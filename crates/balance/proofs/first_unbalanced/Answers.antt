-- The sums are lent with 0 everywhere, and come back as those of the nodes.
use mathlib.Core.Path.{◌≡◌, sym, ap, subst, ◌∙◌}
use mathlib.Core.List.{List}
use native.Mathlib.Omega.{arith}
use Prim.Native.Nat.{ℕ, ◌*◌}
use lib.ListN.{length}
use lib.IntN.{ℤ}
use Rattle.segm.specs.Segments.{Drawing, segments}
use Rattle.segm.proofs.Segments.{length-segments}
use Rattle.balance.specs.Balance.{first_place}
use Rattle.balance.specs.Sums.{Summed, HaveSums, ends_unbalanced}
use Rattle.balance.proofs.Sums.{have_sums, first_is}
use Rattle.balance.proofs.first_unbalanced.Goals as goal
use Rattle.balance.proofs.first_unbalanced.Lts
use Rattle.balance.proofs.first_unbalanced.Reads
use Rattle.balance.proofs.first_unbalanced.Tie

abbrev Start : Type 0
Start = Lts.Start Tie.the-claims Reads.Pre Reads.Post

abbrev After-count : Type 0
After-count = Lts.After-count Tie.the-claims Reads.Pre Reads.Post

abbrev After-add_shares : Type 0
After-add_shares = Lts.After-add_shares Tie.the-claims Reads.Pre Reads.Post

module _ (s : Start) where
  abbrev d : Drawing
  d = segments s.args.s.now

  abbrev nodes : List ℕ
  nodes = s.args.nodes.now

pub add_shares-requires : goal.add_shares-requires
add_shares-requires c =
    let s = c.before.before.before in
    (s.requires.0, have_sums (d s) (nodes s) s.requires.1 s.requires.2, s.requires.3)

-- the sums that came back
module _ (c : After-count) where
  abbrev a : After-add_shares
  a = c.before.before

  abbrev s : Start
  s = a.before.before.before

  abbrev sums : List ℤ
  sums = a.add_shares.new.sums

  n-is : c.count.result ≡ length (d s)
  n-is = c.count.ensures ∙ sym (length-segments s.args.s.now)

  known : HaveSums (length (d s)) (nodes s) sums
  known = have_sums (d s) (nodes s) s.requires.1 (omega (arith, s.requires.2, a.add_shares.auto.sums))

  summed : Summed (d s) (nodes s) (2 * length (d s)) sums
  summed = subst (λ m. Summed (d s) (nodes s) m sums) known.each_end a.add_shares.ensures

pub find_first-requires : goal.find_first-requires
find_first-requires c = (omega (arith, n-is c.before, (s c.before).requires.0.few), subst (λ m. HaveSums m (nodes (s c.before)) (sums c.before)) (sym (n-is c.before)) (known c.before))

pub returns : goal.returns
returns c =
    let b = c.before.before in
    c.find_first.ensures
    ∙ ap (λ m. first_place (ends_unbalanced m (nodes (s b)) (sums b)) m 0) (n-is b)
    ∙ first_is (d (s b)) (nodes (s b)) (s b).requires.1 (known b) (summed b)
