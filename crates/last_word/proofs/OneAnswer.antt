-- One answer of each public function, with the buffer at the end where one is lent (base, specs/Answers). None asks anything of its caller.
-- Assumes nothing.
use mathlib.Core.Path.{sym, ◌∙◌}
use Rattle.base.specs.Answers.{AsksNothing, OneAnswer, OneAnswerWith}
use Rattle.printing.proofs.Examples.{one-put}
use Rattle.last_word.proofs.goes_on.Kinds as on
use Rattle.last_word.proofs.goes_on.Reads as on-contract
use Rattle.last_word.proofs.put_last.Kinds as word
use Rattle.last_word.proofs.put_last.Reads as word-contract
use Rattle.last_word.proofs.say_remark.Kinds as remark
use Rattle.last_word.proofs.say_remark.Reads as remark-contract
use Rattle.last_word.proofs.status.Kinds as digit
use Rattle.last_word.proofs.status.Reads as digit-contract

pub goes-on-asks-nothing : AsksNothing on.ps on-contract.Asked
goes-on-asks-nothing κs args = tt

pub put-last-asks-nothing : AsksNothing word.ps word-contract.Asked
put-last-asks-nothing κs args = tt

pub say-remark-asks-nothing : AsksNothing remark.ps remark-contract.Asked
say-remark-asks-nothing κs args = tt

pub status-asks-nothing : AsksNothing digit.ps digit-contract.Asked
status-asks-nothing κs args = tt

-- Whether more is read.
pub one-goes-on : OneAnswer on.ps on.r on-contract.Learnt
one-goes-on κs args f g e e' p q = p ∙ sym q

-- The last word: its length, and the buffer at the end.
pub one-put-last : OneAnswerWith word.ps word.r word-contract.Learnt (λ κs e. e.0.now)
one-put-last κs args f g e e' p q = one-put p q

-- A remark: its length, and the buffer at the end.
pub one-say-remark : OneAnswerWith remark.ps remark.r remark-contract.Learnt (λ κs e. e.0.now)
one-say-remark κs args f g e e' p q = one-put p.put q.put

-- The status byte.
pub one-status : OneAnswer digit.ps digit.r digit-contract.Learnt
one-status κs args f g e e' p q = p ∙ sym q
