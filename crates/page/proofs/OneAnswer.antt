-- One answer: none of the public functions asks anything of its caller, and two answers that meet the contract of one are equal (base,
-- specs/Answers), the buffer at the end among them where one is lent. Assumes nothing.
use Rattle.std.proofs.Common.{◌≡◌, sym, ◌∙◌}
use Rattle.base.specs.Answers.{AsksNothing, TwoAnswers, OneAnswer, OneAnswerWith}
use Rattle.printing.proofs.Examples.{one-put}
use Rattle.page.proofs.figures.Kinds as survey
use Rattle.page.proofs.figures.Reads as survey-contract
use Rattle.page.proofs.say_first.Kinds as beginning
use Rattle.page.proofs.say_first.Reads as beginning-contract
use Rattle.page.proofs.say_last.Kinds as end
use Rattle.page.proofs.say_last.Reads as end-contract
use Rattle.page.proofs.start.Kinds as begun
use Rattle.page.proofs.start.Reads as begun-contract
use Rattle.page.proofs.next_row.Kinds as row
use Rattle.page.proofs.next_row.Reads as row-contract

pub figures-asks-nothing : AsksNothing survey.ps survey-contract.Asked
figures-asks-nothing κs args = tt

pub say-first-asks-nothing : AsksNothing beginning.ps beginning-contract.Asked
say-first-asks-nothing κs args = tt

pub say-last-asks-nothing : AsksNothing end.ps end-contract.Asked
say-last-asks-nothing κs args = tt

pub start-asks-nothing : AsksNothing begun.ps begun-contract.Asked
start-asks-nothing κs args = tt

pub next-row-asks-nothing : AsksNothing row.ps row-contract.Asked
next-row-asks-nothing κs args = tt

-- All figures but those of the groups.
pub one-figures : OneAnswer survey.ps survey.r survey-contract.Learnt
one-figures κs args f g e e' p q = p ∙ sym q

-- The page up to the rows of its groups: its length, and the buffer at the end (the first parameter, out).
pub one-say-first : OneAnswerWith beginning.ps beginning.r beginning-contract.Learnt (λ κs e. e.0.now)
one-say-first κs args f g e e' p q = one-put p.put q.put

-- The page after them: the same.
pub one-say-last : OneAnswerWith end.ps end.r end-contract.Learnt (λ κs e. e.0.now)
one-say-last κs args f g e e' p q = one-put p.put q.put

-- The place before the first record.
pub one-start : OneAnswer begun.ps begun.r begun-contract.Learnt
one-start κs args f g e e' p q = p ∙ sym q

-- The next record: the place after it, the row's length, and the buffer at the end (the fourth parameter, out).
pub one-next-row : TwoAnswers row.ps row.r row-contract.Learnt
    (λ κs args f g e e'. (f.place ≡ g.place) × ((f.written ≡ g.written) × (e.1.1.1.0.now ≡ e'.1.1.1.0.now)))
one-next-row κs args f g e e' p q = (p.0 ∙ sym q.0, one-put p.1.put q.1.put)
