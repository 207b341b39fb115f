-- `codec::numbers::put2` meets its contract.
-- Assumes nothing.
use mathlib.Core.Path.{refl}
use native.Mathlib.Omega.{arith}
use native.Mathlib.Numerals.{add-one}
use lib.ListN.{length-set}
use Rattle.codec.specs.Codec.{be}
use Rattle.codec.proofs.numbers.put2.Goals as goal

pub overflow_cast-out : goal.overflow_cast-out
unfolding be
overflow_cast-out c = omega arith

pub bounds-out-at : goal.bounds-out-at
unfolding be
bounds-out-at c = omega arith

pub overflow_cast-out-2 : goal.overflow_cast-out-2
unfolding be
overflow_cast-out-2 c = omega arith

pub overflow_add-out : goal.overflow_add-out
unfolding be
overflow_add-out c = omega arith

pub bounds-out-at-2 : goal.bounds-out-at-2
unfolding be
bounds-out-at-2 c = simp length-set (omega arith)

pub shape_of-out : goal.shape_of-out
unfolding be
shape_of-out c = simp length-set

pub returns : goal.returns
unfolding be
returns c = rw add-one refl
