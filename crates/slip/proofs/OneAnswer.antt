-- One answer: what_if asks nothing of its caller, and two slips that meet its contract are equal (base, specs/Answers). Assumes nothing.
use mathlib.Core.Path.{sym, ◌∙◌}
use Rattle.base.specs.Answers.{AsksNothing, OneAnswer}
use Rattle.slip.proofs.what_if.Kinds as slip
use Rattle.slip.proofs.what_if.Reads as slip-contract

pub what-if-asks-nothing : AsksNothing slip.ps slip-contract.Asked
what-if-asks-nothing κs args = tt

-- Two slips that meet what_if's contract are equal: code, ration and kg; `one-pattern` says it of the kg's bits.
pub one-what-if : OneAnswer slip.ps slip.r slip-contract.Learnt
one-what-if κs args f g e e' p q = p.exact ∙ sym q.exact
