-- One answer of the book's state: new, in_range and feed answer every input, and two answers that meet a contract are equal (base, specs/Answers).
-- Assumes nothing.
use mathlib.Core.Path.{sym, ◌∙◌}
use Rattle.base.specs.Answers.{AsksNothing, OneAnswer, OneAnswerWith}
use Rattle.book.proofs.State.new.Kinds as new
use Rattle.book.proofs.State.new.Reads as new-contract
use Rattle.book.proofs.State.in_range.Kinds as in-range
use Rattle.book.proofs.State.in_range.Reads as in-range-contract
use Rattle.book.proofs.State.feed.Kinds as feed
use Rattle.book.proofs.State.feed.Reads as feed-contract

-- None of them asks anything of its caller.
pub new-asks-nothing : AsksNothing new.ps new-contract.Asked
new-asks-nothing κs args = tt

pub in-range-asks-nothing : AsksNothing in-range.ps in-range-contract.Asked
in-range-asks-nothing κs args = tt

pub feed-asks-nothing : AsksNothing feed.ps feed-contract.Asked
feed-asks-nothing κs args = tt

-- Two states that meet new's contract are equal.
pub one-new : OneAnswer new.ps new.r new-contract.Learnt
one-new κs args s t e e' p q = p ∙ sym q

-- Two answers that meet in_range's contract are equal.
pub one-in-range : OneAnswer in-range.ps in-range.r in-range-contract.Learnt
one-in-range κs args b c e e' p q = p ∙ sym q

-- Two answers that meet feed's contract are equal: the state, the counts of bytes taken and written and the answer (all of Fed), and the line
-- buffer at the end (the third parameter, out).
pub one-feed : OneAnswerWith feed.ps feed.r feed-contract.Learnt (λ κs e. e.1.1.0.now)
one-feed κs args f g e e' p q = (p.0 ∙ sym q.0, p.1.0 ∙ sym q.1.0)
