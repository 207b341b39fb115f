use mathlib.Core.Path.{refl}
use native.Mathlib.Omega.{arith}
use borrow.Author.Rules.{rules}
use Rattle.codec.specs.Table.{size}
use Rattle.account.specs.Account.{account_fields}
use Rattle.desk.proofs.Images.{called-few}
use Rattle.desk.proofs.Number.{from-zeros, is_number}
use Rattle.desk.proofs.herd_desk.Goals as goal

pub slice_bounds-call-end : goal.slice_bounds-call-end
unfolding size account_fields
slice_bounds-call-end c = refl

pub call-whole-requires : goal.call-whole-requires
unfolding size account_fields
call-whole-requires c = tt

pub overflow_sub-book : goal.overflow_sub-book
unfolding size account_fields
overflow_sub-book c = c.call-whole.ensures.counts.0

pub code_of-code-requires : goal.code_of-code-requires
unfolding size account_fields
code_of-code-requires c = tt

pub overflow_mul-result : goal.overflow_mul-result
unfolding size account_fields
overflow_mul-result c = omega (arith, c.code_of-code.ensures.1)

pub overflow_add-result : goal.overflow_add-result
unfolding size account_fields
overflow_add-result c = omega (arith, c.code_of-code.ensures.1, called-few _ _ _ c.call-whole.ensures.result)

pub shape_of-lines : goal.shape_of-lines
unfolding size account_fields
shape_of-lines c = search rules

pub returns : goal.returns
unfolding size account_fields
returns c = let e = c.call-whole.ensures in record { number = is_number _ _ e.result c.code_of-code.ensures.0; lines = rw (from-zeros _ _) at e.lines }
