-- One answer of each public function (base, specs/Answers); none asks anything of its callers. Assumes nothing.
use mathlib.Core.Path.{sym, ◌∙◌}
use Rattle.base.specs.Answers.{AsksNothing, OneAnswer, OneAnswerWith}
use Rattle.printing.proofs.Examples.{one-put}
use Rattle.kilograms.proofs.lines.is_right.Kinds as right
use Rattle.kilograms.proofs.lines.is_right.Reads as right-contract
use Rattle.kilograms.proofs.lines.say_line.Kinds as line
use Rattle.kilograms.proofs.lines.say_line.Reads as line-contract
use Rattle.kilograms.proofs.lines.say_remark.Kinds as remark
use Rattle.kilograms.proofs.lines.say_remark.Reads as remark-contract
use Rattle.kilograms.proofs.lines.status.Kinds as digit
use Rattle.kilograms.proofs.lines.status.Reads as digit-contract

pub is-right-asks-nothing : AsksNothing right.ps right-contract.Asked
is-right-asks-nothing κs args = tt

pub say-line-asks-nothing : AsksNothing line.ps line-contract.Asked
say-line-asks-nothing κs args = tt

pub say-remark-asks-nothing : AsksNothing remark.ps remark-contract.Asked
say-remark-asks-nothing κs args = tt

pub status-asks-nothing : AsksNothing digit.ps digit-contract.Asked
status-asks-nothing κs args = tt

-- Whether a line is right.
pub one-is-right : OneAnswer right.ps right.r right-contract.Learnt
one-is-right κs args f g e e' p q = p ∙ sym q

-- What is printed of a line: its length, and the buffer at the end (the first parameter, out).
pub one-say-line : OneAnswerWith line.ps line.r line-contract.Learnt (λ κs e. e.0.now)
one-say-line κs args f g e e' p q = one-put p.put q.put

-- A remark: its length, and the buffer at the end.
pub one-say-remark : OneAnswerWith remark.ps remark.r remark-contract.Learnt (λ κs e. e.0.now)
one-say-remark κs args f g e e' p q = one-put p.put q.put

-- The exit status.
pub one-status : OneAnswer digit.ps digit.r digit-contract.Learnt
one-status κs args f g e e' p q = p ∙ sym q
