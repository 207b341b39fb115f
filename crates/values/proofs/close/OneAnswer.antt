-- One answer of the functions of the close. The bytes that are read lie inside the slice; the range test asks nothing. Assumes nothing.
use mathlib.Core.Path.{sym, ◌∙◌}
use Rattle.base.specs.Answers.{AsksNothing, OneAnswer}
use Rattle.values.proofs.close.read.Kinds as values
use Rattle.values.proofs.close.read.Reads as values-contract
use Rattle.values.proofs.close.first_bad.Kinds as bad
use Rattle.values.proofs.close.first_bad.Reads as bad-contract

-- The values of its fields.
pub one-read : OneAnswer values.ps values.r values-contract.Learnt
one-read κs args f g e e' p q = p ∙ sym q

pub first-bad-asks-nothing : AsksNothing bad.ps bad-contract.Asked
first-bad-asks-nothing κs args = tt

-- The position of the first value out of its range.
pub one-first-bad : OneAnswer bad.ps bad.r bad-contract.Learnt
one-first-bad κs args f g e e' p q = p ∙ sym q
