-- `values::pig::first_bad` meets its contract: what each test has found out.
-- Assumes nothing.
use mathlib.Core.Path.{sym, ◌∙◌}
use lib.Dec.{lit<}
use native.Mathlib.Omega.{arith}
use borrow.Author.Tests.{eqb-true}
use Rattle.codec.specs.Table.{table, fields}
use Rattle.codec.proofs.Within.{passed, too-low, too-high}
use Rattle.values.proofs.pig.first_bad.Goals as goal

pub returns-then-in_ranges : goal.returns-then-in_ranges
unfolding table
returns-then-in_ranges c = sym (eqb-true _ 0 (sym c.in_ranges.ensures ∙ c.if-in_ranges.true))

pub returns-then-v-lt1 : goal.returns-then-v-lt1
unfolding table
returns-then-v-lt1 c = too-low 0 (fields 5) _ 0 (omega arith) (lit< tt) (omega arith)

pub returns-then-v-gt366 : goal.returns-then-v-gt366
unfolding table
returns-then-v-gt366 c = too-high 0 (fields 5) _ 0 (omega arith) (lit< tt) (omega arith)

pub returns-then-v-gt1000 : goal.returns-then-v-gt1000
unfolding table
returns-then-v-gt1000 c = too-high 1 (fields 5) _ 0 (omega arith) (lit< tt) (omega arith)

pub returns-then-v-gt5000 : goal.returns-then-v-gt5000
unfolding table
returns-then-v-gt5000 c = too-high 2 (fields 5) _ 0 (omega arith) (lit< tt) (omega arith)

pub returns-then-v-gt2000 : goal.returns-then-v-gt2000
unfolding table
returns-then-v-gt2000 c = too-high 3 (fields 5) _ 0 (omega arith) (lit< tt) (omega arith)

pub returns-then-v-gt1000-2 : goal.returns-then-v-gt1000-2
unfolding table
returns-then-v-gt1000-2 c = too-high 4 (fields 5) _ 0 (omega arith) (lit< tt) (omega arith)

pub returns : goal.returns
unfolding table
returns c = c.nitrogen_bad.ensures ∙ sym (passed 5 (fields 5) _ 0 (omega arith))
