-- A comma, and the number by its column. Assumes nothing.
use native.Mathlib.Omega.{arith}
use Rattle.printing.proofs.Puts.{and-then}
use Rattle.line_rows.proofs.Texts.{with-sign, without_sign}
use Rattle.records.proofs.put_column.Goals as goal

pub returns-then-is_signed : goal.returns-then-is_signed
returns-then-is_signed c = let c2 = c in
    let c4 = c2 in
    let c5 = c4 in
    let c8 = c5 in
    let c11 = c8 in
    let p = c2.put_signed.ensures in
    let b = c8.put_byte-after.ensures in
    let a = c11.args in record { put = rw (with-sign a.column a.v c5.is_signed.ensures c4.if-is_signed.true) (and-then b p.put); upper_bound = omega (arith, p.upper_bound, b.next) }

pub returns : goal.returns
returns c = let c2 = c in
    let c4 = c2 in
    let c5 = c4 in
    let c8 = c5 in
    let c11 = c8 in
    let p = c2.put_decimal.ensures in
    let b = c8.put_byte-after.ensures in
    let a = c11.args in record { put = rw (without_sign a.column a.v c5.is_signed.ensures c4.if-is_signed.false) (and-then b p.put); upper_bound = omega (arith, p.upper_bound, b.next) }
