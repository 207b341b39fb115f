use Prim.Native.Nat.{ℕ, ◌+◌, ◌≤◌, ◌<◌}
use native.Mathlib.Omega.{arith}
use native.Mathlib.Numerals.{add-one}
use mathlib.Core.Path.{◌≡◌}
use mathlib.Core.List.{List}
use lib.ListN.{length, get_or, drop, drop_of_length-le}
use lib.Seq.{drop-cons}
use lib.Dec.{eqb}
use Rattle.base.specs.Choice.{pick}
use Rattle.sheet.specs.Remarks.{feeds}
use Rattle.sheet.proofs.remarks.count_feeds.Goals as goal

one_on : (text : List ℕ) (i : ℕ) → i < length text → feeds (drop i text) ≡ pick (eqb (get_or text i 0) 10) 1 0 + feeds (drop (i + 1) text)
unfolding feeds
one_on text i h = rw (add-one i, drop-cons text i 0 h)

none_left : (text : List ℕ) (i : ℕ) → length text ≤ i → feeds (drop i text) ≡ 0
unfolding feeds
none_left text i h = rw (drop_of_length-le text h)

pub loop-b-preserved : goal.loop-b-preserved
loop-b-preserved c =
    let turn = c.loop-b in
    let on = one_on c.args.text.now turn.b-index c.loop-b-test.true in
    let one = c.one_if_feed-n.ensures in
    record { few = omega (arith, turn.invariant.few, one.upper_bound); so_far = omega (arith, turn.invariant.so_far, on, one.value) }

pub returns : goal.returns
returns c = let turn = c.loop-b in omega (arith, turn.invariant.so_far, none_left c.args.text.now turn.b-index c.loop-b-test.false)
