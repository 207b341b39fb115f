-- The code's widths are those of the specification, one after the other. Assumes nothing.
use mathlib.Core.Path.{refl}
use native.Mathlib.Omega.{arith}
use Rattle.codec.proofs.Within.{of_field}
use Rattle.account.specs.Account.{account_fields}
use Rattle.account.proofs.AsNumbers.{width-most}
use Rattle.account_numbers.proofs.width.Goals as goal

pub bounds-widths-i : goal.bounds-widths-i
unfolding account_fields
bounds-widths-i c = c.requires

pub returns : goal.returns
unfolding account_fields
returns c = of_field (λ f. f.0) refl account_fields c.args.i

pub overflow_cast-result : goal.overflow_cast-result
unfolding account_fields
overflow_cast-result c = let i = c.args.i in
    omega (arith, of_field (λ f. f.0) refl account_fields i, width-most i c.requires)
