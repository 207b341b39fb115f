-- `values::tillage::first_bad` meets its contract: what each test has found out.
-- Assumes nothing.
use lib.Dec.{lit<, lit≤}
use Rattle.codec.specs.Table.{table, fields}
use Rattle.codec.proofs.Within.{too-low, too-high, none-bad}
use native.Mathlib.Omega.{arith}
use Rattle.values.proofs.tillage.first_bad.Goals as goal

pub returns-then-v-lt1 : goal.returns-then-v-lt1
unfolding table
returns-then-v-lt1 c = too-low 0 (fields 9) _ 0 (omega arith) (lit< tt) (omega arith)

pub returns-then-v-gt9 : goal.returns-then-v-gt9
unfolding table
returns-then-v-gt9 c = too-high 0 (fields 9) _ 0 (omega arith) (lit< tt) (omega arith)

pub returns-then-v-lt1-2 : goal.returns-then-v-lt1-2
unfolding table
returns-then-v-lt1-2 c = too-low 1 (fields 9) _ 0 (omega arith) (lit< tt) (omega arith)

pub returns-then-v-gt3 : goal.returns-then-v-gt3
unfolding table
returns-then-v-gt3 c = too-high 1 (fields 9) _ 0 (omega arith) (lit< tt) (omega arith)

pub returns-then-v-lt1-3 : goal.returns-then-v-lt1-3
unfolding table
returns-then-v-lt1-3 c = too-low 2 (fields 9) _ 0 (omega arith) (lit< tt) (omega arith)

pub returns-then-v-gt6 : goal.returns-then-v-gt6
unfolding table
returns-then-v-gt6 c = too-high 2 (fields 9) _ 0 (omega arith) (lit< tt) (omega arith)

pub returns-then-v-lt1-4 : goal.returns-then-v-lt1-4
unfolding table
returns-then-v-lt1-4 c = too-low 3 (fields 9) _ 0 (omega arith) (lit< tt) (omega arith)

pub returns-then-v-gt100 : goal.returns-then-v-gt100
unfolding table
returns-then-v-gt100 c = too-high 3 (fields 9) _ 0 (omega arith) (lit< tt) (omega arith)

pub returns-then-v-gt10000000 : goal.returns-then-v-gt10000000
unfolding table
returns-then-v-gt10000000 c = too-high 4 (fields 9) _ 0 (omega arith) (lit< tt) (omega arith)

pub returns : goal.returns
unfolding table
returns c = none-bad 5 (fields 9) _ 0 (omega arith) (lit≤ tt)
