-- The values that are typed, written. Assumes nothing.
use mathlib.Core.Path.{refl, sym}
use native.Mathlib.Omega.{arith}
use lib.ListN.{take}
use lib.Seq.{length-take-le, take_all}
use Rattle.writer.proofs.TypedLines.{entry-written}
use Rattle.writer.proofs.typed_line.write_entry.Goals as goal

pub returns-then-e-gt13 : goal.returns-then-e-gt13
returns-then-e-gt13 c = let e = c.completed-e in
    let a = c.args in let m = entry-written a.state a.entry e.result e.result.values a.out.now e.ensures.value
    (sym (take_all e.result.count e.result.values (omega (arith, e.ensures.values_len, c.if-e-gt13.true))))
    (c.write.ensures.result, (c.write.ensures.buffer, c.write.ensures.count))
    in record { result = m.0; buffer = m.1.0; count = m.1.1 }

pub slice_bounds-values-end : goal.slice_bounds-values-end
slice_bounds-values-end c = omega (arith, c.completed-e.ensures.values_len, c.if-e-gt13.false)

pub slice_bounds-write-end-2 : goal.slice_bounds-write-end-2
slice_bounds-write-end-2 c = let e = c.completed-e in
    sym (length-take-le e.result.count e.result.values (omega (arith, e.ensures.values_len, c.if-e-gt13.false)))

pub returns : goal.returns
returns c = let e = c.completed-e in
    let a = c.args in let m = entry-written a.state a.entry e.result (take e.result.count e.result.values) a.out.now e.ensures.value refl
    (c.write-2.ensures.result, (c.write-2.ensures.buffer, c.write-2.ensures.count))
    in record { result = m.0; buffer = m.1.0; count = m.1.1 }
