-- The invariant: storing the fields that are left makes of the slice what is wanted. Assumes nothing.
use mathlib.Core.Path.{refl, sym, ◌∙◌}
use Prim.Native.Nat.{◌+◌, ◌<◌, ◌≤◌}
use native.Mathlib.Omega.{arith}
use lib.ListN.{length}
use Rattle.codec.specs.Table.{fields}
use Rattle.codec.proofs.Rows.{fields-few, is_width}
use Rattle.by_row.proofs.FieldByField.{size-left, put-turn, all-put}
use Rattle.by_row.proofs.put_fields.Goals as goal

pub put-requires : goal.put-requires
put-requires c =
    let k = c.loop-i in
    let there : k.i < length (fields c.args.row) = omega (arith, c.requires.1.count) in
    let left = size-left (fields c.args.row) k.i there in
    (omega (arith, c.width-w.ensures, left, k.invariant.1), rw c.width-w.ensures (is_width c.args.row k.i there))

pub loop-i-preserved : goal.loop-i-preserved
loop-i-preserved c =
    let k = c.loop-i in
    let w = c.width-w.ensures in
    let row = c.args.row in
    let there : k.i < length (fields row) = omega (arith, c.requires.1.count) in (
      omega arith,
      omega (arith, w, size-left (fields row) k.i there, k.invariant.1),
      rw c.put.ensures (put-turn (fields row) k.i there w c.args.v.now k.out k.p ∙ k.invariant.2),
    )

pub returns : goal.returns
returns c =
    let k = c.loop-i in
    sym (all-put (fields c.args.row) k.i (omega (arith, c.requires.1.count)) c.args.v.now k.out k.p) ∙ k.invariant.2

pub loop-i-init : goal.loop-i-init
loop-i-init c = (refl, c.requires.0, refl)

-- no row has more than twelve fields
pub width-w-requires : goal.width-w-requires
width-w-requires c = (c.requires.1.most, omega (arith, c.requires.1.count, fields-few c.args.row))

pub overflow_add-p : goal.overflow_add-p
overflow_add-p c =
    let k = c.loop-i in
    let left = size-left (fields c.args.row) k.i (omega (arith, c.requires.1.count)) in
    let there : k.p + c.width-w.result ≤ length k.out = omega (arith, c.width-w.ensures, left, k.invariant.1) in
    omega (arith, there)

pub shape_of-out : goal.shape_of-out
shape_of-out c = c.loop-i.invariant.0
