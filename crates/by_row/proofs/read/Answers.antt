-- The invariant: storing the values that are left makes of twelve zeros what is wanted. Assumes nothing.
use mathlib.Core.Path.{refl, sym, ◌∙◌}
use Prim.Native.Nat.{◌+◌, ◌<◌, ◌≤◌}
use native.Mathlib.Omega.{arith}
use lib.ListN.{length, length-set}
use Rattle.codec.specs.Table.{fields}
use Rattle.codec.specs.Codec.{values_at}
use Rattle.codec.proofs.Values.{values_length}
use Rattle.codec.proofs.Rows.{fields-few, is_width}
use Rattle.by_row.proofs.FieldByField.{size-left, read-turn, all_read, in-twelve}
use Rattle.by_row.proofs.read.Goals as goal

pub number-requires : goal.number-requires
number-requires c =
    let k = c.loop-i in
    let there : k.i < length (fields c.args.row) = omega (arith, c.values_of-n.ensures) in
    let left = size-left (fields c.args.row) k.i there in
    (omega (arith, c.width-w.ensures, left, k.invariant.1), rw c.width-w.ensures (is_width c.args.row k.i there))

pub loop-i-preserved : goal.loop-i-preserved
loop-i-preserved c =
    let k = c.loop-i in
    let w = c.width-w.ensures in
    let row = c.args.row in
    let there : k.i < length (fields row) = omega (arith, c.values_of-n.ensures) in (
      length-set k.v k.i c.number.result ∙ k.invariant.0,
      omega (arith, w, size-left (fields row) k.i there, k.invariant.1),
      rw c.number.ensures (read-turn (fields row) k.i there w _ k.v k.p ∙ k.invariant.2),
    )

pub returns : goal.returns
returns c =
    let k = c.loop-i in
    let row = c.args.row in
    let few = values_length (fields row) c.args.s.now c.args.at in
    sym (all_read (fields row) k.i (omega (arith, c.values_of-n.ensures)) _ k.v k.p) ∙ k.invariant.2
    ∙ in-twelve (values_at (fields row) c.args.s.now c.args.at) (omega (arith, few, fields-few row))

pub loop-i-init : goal.loop-i-init
loop-i-init c = (refl, c.requires.1, refl)

-- no row has more than twelve fields
pub width-w-requires : goal.width-w-requires
width-w-requires c = (c.requires.0, omega (arith, c.values_of-n.ensures, fields-few c.args.row))

pub offset_bounds-v-i : goal.offset_bounds-v-i
offset_bounds-v-i c = omega (arith, c.values_of-n.ensures, fields-few c.args.row)

pub bounds-v-i : goal.bounds-v-i
bounds-v-i c = omega (arith, c.values_of-n.ensures, fields-few c.args.row)

pub overflow_add-p : goal.overflow_add-p
overflow_add-p c =
    let k = c.loop-i in
    let left = size-left (fields c.args.row) k.i (omega (arith, c.values_of-n.ensures)) in
    let there : k.p + c.width-w.result ≤ length c.args.s.now = omega (arith, c.width-w.ensures, left, k.invariant.1) in
    omega (arith, there)
