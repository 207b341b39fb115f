-- One number after another. Assumes nothing.
use native.Mathlib.Omega.{arith}
use Rattle.printing.proofs.Puts.{and-then}
use Rattle.records.proofs.put_place.Goals as goal

pub returns : goal.returns
returns c = let c2 = c in
    let c6 = c2 in
    let c10 = c6 in
    let c14 = c10 in
    let c18 = c14 in
    let n = c18.put_decimal-number.ensures in
    let a = c14.put_byte-first.ensures in
    let f = c10.put_decimal-end.ensures in
    let b = c6.put_byte-last.ensures in
    let l = c2.put_decimal.ensures in record { put = and-then n.put (and-then a (and-then f.put (and-then b l.put))); result_bound = omega (arith, n.upper_bound, a.next, f.upper_bound, b.next, l.upper_bound) }
