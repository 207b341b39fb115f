-- One answer: none of the public functions asks anything of its caller, and two answers that meet the contract of one are equal (base,
-- specs/Answers), the buffer at the end among them where one is lent. Assumes nothing.
use mathlib.Core.Path.{◌≡◌, sym, ◌∙◌}
use Rattle.base.specs.Answers.{AsksNothing, OneAnswer, OneAnswerWith, TwoAnswers}
use Rattle.printing.proofs.Examples.{one-put}
use Rattle.compare.proofs.begin.Kinds as first
use Rattle.compare.proofs.begin.Reads as first-contract
use Rattle.compare.proofs.alike_on.Kinds as more
use Rattle.compare.proofs.alike_on.Reads as more-contract
use Rattle.compare.proofs.next.Kinds as piece
use Rattle.compare.proofs.next.Reads as piece-contract
use Rattle.compare.proofs.remarks.say_hint.Kinds as hint
use Rattle.compare.proofs.remarks.say_hint.Reads as hint-contract
use Rattle.compare.proofs.remarks.status.Kinds as digit
use Rattle.compare.proofs.remarks.status.Reads as digit-contract

pub begin-asks-nothing : AsksNothing first.ps first-contract.Asked
begin-asks-nothing κs args = tt

pub alike-on-asks-nothing : AsksNothing more.ps more-contract.Asked
alike-on-asks-nothing κs args = tt

pub next-asks-nothing : AsksNothing piece.ps piece-contract.Asked
next-asks-nothing κs args = tt

pub say-hint-asks-nothing : AsksNothing hint.ps hint-contract.Asked
say-hint-asks-nothing κs args = tt

pub status-asks-nothing : AsksNothing digit.ps digit-contract.Asked
status-asks-nothing κs args = tt

-- The cursor before the first step.
pub one-begin : OneAnswer first.ps first.r first-contract.Learnt
one-begin κs args f g e e' p q = p ∙ sym q

-- Whether these bytes are the same too.
pub one-alike-on : OneAnswer more.ps more.r more-contract.Learnt
one-alike-on κs args f g e e' p q = p ∙ sym q

-- A step: the cursor after it, and its piece.
pub one-next : TwoAnswers piece.ps piece.r piece-contract.Learnt
    (λ κs args f g e e'. (f.cursor ≡ g.cursor) × ((f.written ≡ g.written) × (e.1.1.1.1.0.now ≡ e'.1.1.1.1.0.now)))
one-next κs args f g e e' p q = (p.cursor ∙ sym q.cursor, one-put p.said.put q.said.put)

-- A hint.
pub one-say-hint : OneAnswerWith hint.ps hint.r hint-contract.Learnt (λ κs e. e.0.now)
one-say-hint κs args f g e e' p q = one-put p.put q.put

-- The status byte.
pub one-status : OneAnswer digit.ps digit.r digit-contract.Learnt
one-status κs args f g e e' p q = p ∙ sym q
