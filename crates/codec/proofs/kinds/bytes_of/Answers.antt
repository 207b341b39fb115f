-- Read off the table, row by row; none of them is row 0, which has no fields. Assumes nothing.
use mathlib.Core.Path.{◌≡◌}
use native.Mathlib.Omega.{arith}
use Rattle.codec.specs.Table.{table, size}
use Rattle.codec.proofs.kinds.bytes_of.Goals as goal

pub returns-in-1 : goal.returns-in-1
unfolding table size
returns-in-1 c = rw c.in-1.is

pub returns-in-2 : goal.returns-in-2
unfolding table size
returns-in-2 c = rw c.in-2.is

pub returns-in-3 : goal.returns-in-3
unfolding table size
returns-in-3 c = rw c.in-3.is

pub returns-in-4 : goal.returns-in-4
unfolding table size
returns-in-4 c = rw c.in-4.is

pub returns-in-5 : goal.returns-in-5
unfolding table size
returns-in-5 c = rw c.in-5.is

pub returns-in-6 : goal.returns-in-6
unfolding table size
returns-in-6 c = rw c.in-6.is

pub returns-in-7 : goal.returns-in-7
unfolding table size
returns-in-7 c = rw c.in-7.is

pub returns-in-8 : goal.returns-in-8
unfolding table size
returns-in-8 c = rw c.in-8.is

pub returns-in-9 : goal.returns-in-9
unfolding table size
returns-in-9 c = rw c.in-9.is

pub returns-in-10 : goal.returns-in-10
unfolding table size
returns-in-10 c = rw c.in-10.is

pub returns-in-11 : goal.returns-in-11
unfolding table size
returns-in-11 c = rw c.in-11.is

pub returns-in_default : goal.returns-in_default
unfolding table size
returns-in_default c = let none : c.args.row ≡ 0 = omega (arith, c.requires) in rw none
