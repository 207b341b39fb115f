-- One answer of Reading::new, which asks nothing (base, specs/Answers). The others read or write, and no contract says what a descriptor gives or
-- takes. Assumes nothing.
use mathlib.Core.Path.{sym, ◌∙◌}
use Rattle.base.specs.Answers.{AsksNothing, OneAnswer}
use Rattle.program.proofs.Reading.new.Kinds as new
use Rattle.program.proofs.Reading.new.Reads as new-contract

pub new-asks-nothing : AsksNothing new.ps new-contract.Asked
new-asks-nothing κs args = tt

-- An input of which nothing is read yet.
pub one-new : OneAnswer new.ps new.r new-contract.Learnt
one-new κs args f g e e' p q = p ∙ sym q
