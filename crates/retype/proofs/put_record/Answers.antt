-- The name, the values, and the line feed. Assumes nothing.
use mathlib.Core.Path.{sym}
use native.Mathlib.Omega.{arith}
use borrow.Author.Rules.{rules}
use lib.Seq.{length-take-le}
use Rattle.printing.proofs.Puts.{put-length}
use Rattle.retype.proofs.Steps.{values-there, name-put, name-end, count_most, values-first, values-typable, values-few, line-put}
use Rattle.retype.proofs.put_record.Goals as goal

pub row_at-row-requires : goal.row_at-row-requires
row_at-row-requires c = omega (arith, c.requires.typable.long)

pub read-values-requires : goal.read-values-requires
read-values-requires c = let v = values-there c.args.bytes.now c.requires.typable c.row_at-row.ensures in (v.0, omega (arith, v.1))

pub put_kind-name-requires : goal.put_kind-name-requires
put_kind-name-requires c = omega (arith, c.requires.line_most_in_bounds)

pub slice_bounds-values-end : goal.slice_bounds-values-end
slice_bounds-values-end c = let m = count_most c.args.bytes.now c.requires.typable c.row_at-row.ensures c.values_of-n.ensures in search rules

pub slice_bounds-put_values-end : goal.slice_bounds-put_values-end
slice_bounds-put_values-end c = let m = count_most c.args.bytes.now c.requires.typable c.row_at-row.ensures c.values_of-n.ensures in sym
    (length-take-le _ _ (search rules))

pub put_values-end-requires : goal.put_values-end-requires
put_values-end-requires c = let r = c.args.bytes.now in
    let t = c.requires.typable in
    let k = c.row_at-row.ensures in
    let v = values-first r t k c.values_of-n.ensures c.read-values.ensures in
    let p = name-put r t k c.requires.line_most_in_bounds c.put_kind-name.ensures in
    let of = values-typable r t k v in
    record {
      of = of.0;
      values_value = of.1;
      values_in_bounds = omega (arith, c.requires.line_most_in_bounds, name-end r t k p, values-few r t k v, put-length p);
    }

pub put_byte-requires : goal.put_byte-requires
put_byte-requires c = let r = c.args.bytes.now in
    let t = c.requires.typable in
    let k = c.row_at-row.ensures in
    let v = values-first r t k c.values_of-n.ensures c.read-values.ensures in
    let p = name-put r t k c.requires.line_most_in_bounds c.put_kind-name.ensures in
    let q = c.put_values-end.ensures in
    omega (arith, c.requires.line_most_in_bounds, name-end r t k p, values-few r t k v, put-length p, put-length q.put, q.upper_bound)

pub returns : goal.returns
returns c = let r = c.args.bytes.now in
    let t = c.requires.typable in
    let k = c.row_at-row.ensures in
    let v = values-first r t k c.values_of-n.ensures c.read-values.ensures in
    let p = name-put r t k c.requires.line_most_in_bounds c.put_kind-name.ensures in
    let q = c.put_values-end.ensures in
    let e = c.put_byte.ensures in
    record {
      put = line-put r t k v p q.put e;
      upper_bound = omega (arith, e.next, name-end r t k p, values-few r t k v, q.upper_bound);
    }
