-- One answer of each public function (base, specs/Answers). All but put_slip, which asks for room, ask nothing of their callers. Assumes nothing.
use Rattle.std.proofs.Common.{sym, ◌∙◌}
use Rattle.base.specs.Answers.{AsksNothing, OneAnswer, OneAnswerWith}
use Rattle.printing.proofs.Examples.{one-put}
use Rattle.whatif.proofs.put_slip.Kinds as slip
use Rattle.whatif.proofs.put_slip.Reads as slip-contract
use Rattle.whatif.proofs.read_line.Kinds as line
use Rattle.whatif.proofs.read_line.Reads as line-contract
use Rattle.whatif.proofs.telling.counted.Kinds as counting
use Rattle.whatif.proofs.telling.counted.Reads as counting-contract
use Rattle.whatif.proofs.telling.say_answer.Kinds as answer
use Rattle.whatif.proofs.telling.say_answer.Reads as answer-contract
use Rattle.whatif.proofs.telling.say_counts.Kinds as counts
use Rattle.whatif.proofs.telling.say_counts.Reads as counts-contract
use Rattle.whatif.proofs.telling.say_remark.Kinds as remark
use Rattle.whatif.proofs.telling.say_remark.Reads as remark-contract
use Rattle.whatif.proofs.telling.status.Kinds as digit
use Rattle.whatif.proofs.telling.status.Reads as digit-contract

pub read-line-asks-nothing : AsksNothing line.ps line-contract.Asked
read-line-asks-nothing κs args = tt

pub say-remark-asks-nothing : AsksNothing remark.ps remark-contract.Asked
say-remark-asks-nothing κs args = tt

pub say-answer-asks-nothing : AsksNothing answer.ps answer-contract.Asked
say-answer-asks-nothing κs args = tt

pub counted-asks-nothing : AsksNothing counting.ps counting-contract.Asked
counted-asks-nothing κs args = tt

pub say-counts-asks-nothing : AsksNothing counts.ps counts-contract.Asked
say-counts-asks-nothing κs args = tt

pub status-asks-nothing : AsksNothing digit.ps digit-contract.Asked
status-asks-nothing κs args = tt

-- What a line asks.
pub one-read-line : OneAnswer line.ps line.r line-contract.Learnt
one-read-line κs args f g e e' p q = p ∙ sym q

-- A slip's line: its end, and the buffer at the end (the first parameter, out).
pub one-put-slip : OneAnswerWith slip.ps slip.r slip-contract.Learnt (λ κs e. e.0.now)
one-put-slip κs args f g e e' p q = one-put p.0 q.0

-- A remark: its length, and the buffer at the end.
pub one-say-remark : OneAnswerWith remark.ps remark.r remark-contract.Learnt (λ κs e. e.0.now)
one-say-remark κs args f g e e' p q = one-put p.put q.put

-- An answer: its length, and the buffer at the end.
pub one-say-answer : OneAnswerWith answer.ps answer.r answer-contract.Learnt (λ κs e. e.0.now)
one-say-answer κs args f g e e' p q = one-put p.put q.put

-- The counts behind a line.
pub one-counted : OneAnswer counting.ps counting.r counting-contract.Learnt
one-counted κs args f g e e' p q = p ∙ sym q

-- The counts: their length, and the buffer at the end.
pub one-say-counts : OneAnswerWith counts.ps counts.r counts-contract.Learnt (λ κs e. e.0.now)
one-say-counts κs args f g e e' p q = one-put p.put q.put

-- The exit status.
pub one-status : OneAnswer digit.ps digit.r digit-contract.Learnt
one-status κs args f g e e' p q = p ∙ sym q
