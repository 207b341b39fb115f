use native.Mathlib.Numerals.{add-one}
use native.Mathlib.Omega.{arith}
use lib.ListN.{drop_of_length-le}
use lib.Seq.{drop-cons}
use Rattle.printing.specs.Decimal.{spaced}
use Rattle.printing.proofs.Puts.{none, and-then, put-length}
use Rattle.printing.proofs.put_rest.Goals as goal

pub loop-v-init : goal.loop-v-init
loop-v-init c = record { same = omega arith; room = omega arith; small = omega arith; rest = λ zs q p. p }

pub loop-v-preserved : goal.loop-v-preserved
unfolding spaced
loop-v-preserved c =
    let put = c.put_spaced-end.ensures in
    let turn = c.loop-v in
    let keeps = put-length put.put in
    record {
      same = omega arith;
      room = omega arith;
      small = omega arith;
      rest = λ zs q p. turn.invariant.rest zs q (rw (drop-cons c.args.values.now turn.v-index 0 c.loop-v-test.true)
          (and-then put.put (rw add-one at p)));
    }

pub returns : goal.returns
unfolding spaced
returns c =
    let turn = c.loop-v in
    let done = drop_of_length-le c.args.values.now c.loop-v-test.false in
    record { put = turn.invariant.rest turn.out turn.end (rw done (none turn.out turn.end (omega arith))); upper_bound = omega arith }
