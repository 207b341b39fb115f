-- `line_bytes::number_width` meets its contract.
-- Assumes nothing.
use native.Mathlib.Omega.{arith}
use Rattle.line_bytes.specs.Lines.{total_fields}
use Rattle.line_bytes.proofs.AnyLine.{figure-width}
use Rattle.line_bytes.proofs.number_width.Goals as goal

pub returns-then-place-eq0 : goal.returns-then-place-eq0
unfolding total_fields
returns-then-place-eq0 c = record { value = rw c.if-place-eq0.true; upper_bound = omega arith }

pub returns-then-place-eq1 : goal.returns-then-place-eq1
unfolding total_fields
returns-then-place-eq1 c = record { value = rw c.if-place-eq1.true; upper_bound = omega arith }

pub returns-else-place-eq1 : goal.returns-else-place-eq1
returns-else-place-eq1 c = record { value = figure-width c.args.place c.if-place-eq0.false c.if-place-eq1.false; upper_bound = omega arith }
