-- `values::energy::first_bad` meets its contract: what each test has found out.
-- Assumes nothing.
use lib.Dec.{lit<, lit≤}
use Rattle.codec.specs.Table.{table, fields}
use Rattle.codec.proofs.Within.{too-low, too-high, none-bad}
use native.Mathlib.Omega.{arith}
use Rattle.values.proofs.energy.first_bad.Goals as goal

pub returns-then-v-lt1 : goal.returns-then-v-lt1
unfolding table
returns-then-v-lt1 c = too-low 0 (fields 6) _ 0 (omega arith) (lit< tt) (omega arith)

pub returns-then-v-gt8 : goal.returns-then-v-gt8
unfolding table
returns-then-v-gt8 c = too-high 0 (fields 6) _ 0 (omega arith) (lit< tt) (omega arith)

pub returns-then-v-gt10000000 : goal.returns-then-v-gt10000000
unfolding table
returns-then-v-gt10000000 c = too-high 1 (fields 6) _ 0 (omega arith) (lit< tt) (omega arith)

pub returns-then-v-gt10000000-2 : goal.returns-then-v-gt10000000-2
unfolding table
returns-then-v-gt10000000-2 c = too-high 2 (fields 6) _ 0 (omega arith) (lit< tt) (omega arith)

pub returns : goal.returns
unfolding table
returns c = none-bad 3 (fields 6) _ 0 (omega arith) (lit≤ tt)
