-- `values::pig::nitrogen_bad` meets its contract: what each test has found out.
-- Assumes nothing.
use lib.Dec.{lit<, lit≤}
use lib.ListN.{drop}
use native.Mathlib.Omega.{arith}
use Rattle.codec.specs.Table.{table, fields}
use Rattle.codec.proofs.Within.{too-high, none-bad}
use Rattle.values.proofs.pig.nitrogen_bad.Goals as goal

pub returns-then-v-gt4000 : goal.returns-then-v-gt4000
unfolding table
returns-then-v-gt4000 c = too-high 0 (drop 5 (fields 5)) _ 5 (omega arith) (lit< tt) (omega arith)

pub returns-then-v-gt2000 : goal.returns-then-v-gt2000
unfolding table
returns-then-v-gt2000 c = too-high 1 (drop 5 (fields 5)) _ 5 (omega arith) (lit< tt) (omega arith)

pub returns-then-v-gt10000 : goal.returns-then-v-gt10000
unfolding table
returns-then-v-gt10000 c = too-high 2 (drop 5 (fields 5)) _ 5 (omega arith) (lit< tt) (omega arith)

pub returns-then-v-gt1000 : goal.returns-then-v-gt1000
unfolding table
returns-then-v-gt1000 c = too-high 3 (drop 5 (fields 5)) _ 5 (omega arith) (lit< tt) (omega arith)

pub returns-then-v-gt10000-2 : goal.returns-then-v-gt10000-2
unfolding table
returns-then-v-gt10000-2 c = too-high 4 (drop 5 (fields 5)) _ 5 (omega arith) (lit< tt) (omega arith)

pub returns-then-v-gt1000-2 : goal.returns-then-v-gt1000-2
unfolding table
returns-then-v-gt1000-2 c = too-high 5 (drop 5 (fields 5)) _ 5 (omega arith) (lit< tt) (omega arith)

pub returns-then-v-gt10000-3 : goal.returns-then-v-gt10000-3
unfolding table
returns-then-v-gt10000-3 c = too-high 6 (drop 5 (fields 5)) _ 5 (omega arith) (lit< tt) (omega arith)

pub returns : goal.returns
unfolding table
returns c = none-bad 7 (drop 5 (fields 5)) _ 5 (omega arith) (lit≤ tt)
