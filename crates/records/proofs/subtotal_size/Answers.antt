-- By the length and the kind of the first line. Assumes nothing.
use native.Mathlib.Omega.{arith}
use Rattle.records.proofs.Texts.{size-short, size-subtotal, size_none}
use Rattle.records.proofs.subtotal_size.Goals as goal

pub returns-then-lines-lt-LINE_SIZE : goal.returns-then-lines-lt-LINE_SIZE
returns-then-lines-lt-LINE_SIZE c = record { value = size-short c.args.lines.now c.if-lines-lt-LINE_SIZE.true; upper_bound = omega arith }

pub returns-then-lines-eq-SUBTOTAL : goal.returns-then-lines-eq-SUBTOTAL
returns-then-lines-eq-SUBTOTAL c = let c2 = c in
    let c3 = c2 in record { value = size-subtotal c3.args.lines.now c2.if-lines-lt-LINE_SIZE.false c.if-lines-eq-SUBTOTAL.true; upper_bound = c2.if-lines-lt-LINE_SIZE.false }

pub returns-else-lines-eq-SUBTOTAL : goal.returns-else-lines-eq-SUBTOTAL
returns-else-lines-eq-SUBTOTAL c = let c3 = c in record { value = size_none c3.args.lines.now c.if-lines-eq-SUBTOTAL.false; upper_bound = omega arith }
