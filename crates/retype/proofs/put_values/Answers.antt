-- A blank and a value, one after the other. Assumes nothing.
use native.Mathlib.Omega.{arith}
use Rattle.printing.proofs.Puts.{put-length}
use Rattle.retype.proofs.Values.{value-back}
use Rattle.retype.proofs.Steps.{putting-none, putting-fits, putting-on, putting-end}
use Rattle.retype.proofs.put_values.Goals as goal

pub loop-i-init : goal.loop-i-init
loop-i-init c = putting-none _ _ _ _ (omega (arith, c.requires.values_in_bounds))

pub put_byte-blank-requires : goal.put_byte-blank-requires
put_byte-blank-requires c = omega (arith, putting-fits c.loop-i.invariant c.loop-i-test.true c.requires.values_in_bounds)

pub put_value-end-requires : goal.put_value-end-requires
put_value-end-requires c = let q = c.put_byte-blank.ensures in
    omega (arith, putting-fits c.loop-i.invariant c.loop-i-test.true c.requires.values_in_bounds, put-length q, q.next)

pub loop-i-preserved : goal.loop-i-preserved
loop-i-preserved c = let t = c.loop-i-test.true in
    putting-on c.loop-i.invariant t c.requires.values_in_bounds
    (value-back c.args.row c.args.values.now c.requires.of c.requires.values_value _ t)
    c.put_byte-blank.ensures c.put_value-end.ensures

pub shape_of-out : goal.shape_of-out
shape_of-out c = put-length c.loop-i.invariant.put

pub returns : goal.returns
returns c = let g = c.loop-i.invariant in
    record {
      put = putting-end g c.loop-i-test.false;
      upper_bound = omega (arith, g.room, g.inside);
    }
