-- One answer of Lines::new, which asks nothing (base, specs/Answers). `next` reads, and no contract says what a descriptor gives. Assumes nothing.
use mathlib.Core.Path.{sym, ◌∙◌}
use Rattle.base.specs.Answers.{AsksNothing, OneAnswer}
use Rattle.input_lines.proofs.Lines.new.Kinds as new
use Rattle.input_lines.proofs.Lines.new.Reads as new-contract

pub new-asks-nothing : AsksNothing new.ps new-contract.Asked
new-asks-nothing κs args = tt

-- An input of which no line is read yet.
pub one-new : OneAnswer new.ps new.r new-contract.Learnt
one-new κs args f g e e' p q = p ∙ sym q
