-- One answer: none of the public functions asks anything of its caller, and two answers that meet the contract of one are equal (base,
-- specs/Answers), the buffer at the end among them where one is lent. Assumes nothing.
use mathlib.Core.Path.{sym, ◌∙◌}
use Rattle.base.specs.Answers.{AsksNothing, OneAnswer, OneAnswerWith}
use Rattle.printing.proofs.Examples.{one-put}
use Rattle.why.proofs.why.Kinds as reason
use Rattle.why.proofs.why.Reads as reason-contract
use Rattle.why.proofs.remarks.say_first.Kinds as machine
use Rattle.why.proofs.remarks.say_first.Reads as machine-contract
use Rattle.why.proofs.remarks.say_second.Kinds as people
use Rattle.why.proofs.remarks.say_second.Reads as people-contract
use Rattle.why.proofs.remarks.accepted.Kinds as right
use Rattle.why.proofs.remarks.accepted.Reads as right-contract
use Rattle.why.proofs.remarks.status.Kinds as digit
use Rattle.why.proofs.remarks.status.Reads as digit-contract

pub why-asks-nothing : AsksNothing reason.ps reason-contract.Asked
why-asks-nothing κs args = tt

pub say-first-asks-nothing : AsksNothing machine.ps machine-contract.Asked
say-first-asks-nothing κs args = tt

pub say-second-asks-nothing : AsksNothing people.ps people-contract.Asked
say-second-asks-nothing κs args = tt

pub accepted-asks-nothing : AsksNothing right.ps right-contract.Asked
accepted-asks-nothing κs args = tt

pub status-asks-nothing : AsksNothing digit.ps digit-contract.Asked
status-asks-nothing κs args = tt

-- Why a book is refused: the verdict, with all that it says of the record.
pub one-why : OneAnswer reason.ps reason.r reason-contract.Learnt
one-why κs args f g e e' p q = p ∙ sym q

-- The line for machines: its length, and the buffer at the end.
pub one-say-first : OneAnswerWith machine.ps machine.r machine-contract.Learnt (λ κs e. e.0.now)
one-say-first κs args f g e e' p q = one-put p.put q.put

-- The line for people: its length, and the buffer at the end.
pub one-say-second : OneAnswerWith people.ps people.r people-contract.Learnt (λ κs e. e.0.now)
one-say-second κs args f g e e' p q = one-put p.put q.put

-- Whether the book is accepted.
pub one-accepted : OneAnswer right.ps right.r right-contract.Learnt
one-accepted κs args f g e e' p q = p ∙ sym q

-- The status byte.
pub one-status : OneAnswer digit.ps digit.r digit-contract.Learnt
one-status κs args f g e e' p q = p ∙ sym q
