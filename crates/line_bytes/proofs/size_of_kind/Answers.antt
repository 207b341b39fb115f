-- `line_bytes::size_of_kind` meets its contract.
-- Assumes nothing.
use mathlib.Core.Path.{refl}
use native.Mathlib.Omega.{arith}
use borrow.Author.Tests.{eq-eqb, ne_eqb}
use Rattle.line_bytes.proofs.size_of_kind.Goals as goal

pub returns-then-kind-eq-CLOSE : goal.returns-then-kind-eq-CLOSE
returns-then-kind-eq-CLOSE c = record { value = rw (eq-eqb _ 8 c.if-kind-eq-CLOSE.true) refl; lower_bound = omega arith }

pub returns-else-kind-eq-CLOSE : goal.returns-else-kind-eq-CLOSE
returns-else-kind-eq-CLOSE c = record { value = rw (ne_eqb _ 8 c.if-kind-eq-CLOSE.false) refl; lower_bound = omega arith }
