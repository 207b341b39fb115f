-- One answer of each public function, with the buffers at the end where some are lent (base, specs/Answers). None asks anything of its caller.
-- Assumes nothing.
use mathlib.Core.Path.{◌≡◌, sym, ◌∙◌}
use Rattle.printing.proofs.Examples.{one-put}
use Rattle.base.specs.Answers.{AsksNothing, TwoAnswers, OneAnswer, OneAnswerWith}
use Rattle.salvage.proofs.salvage.Kinds as tool
use Rattle.salvage.proofs.salvage.Reads as met
use Rattle.salvage.proofs.Unsaved.number.Kinds as refusal
use Rattle.salvage.proofs.Unsaved.number.Reads as refusal-contract
use Rattle.salvage.proofs.Reading.new.Kinds as begun
use Rattle.salvage.proofs.Reading.new.Reads as begun-contract
use Rattle.salvage.proofs.how_far.reading_end.Kinds as far
use Rattle.salvage.proofs.how_far.reading_end.Reads as far-contract
use Rattle.salvage.proofs.how_far.ReadingEnd.followed.Kinds as followed
use Rattle.salvage.proofs.how_far.ReadingEnd.followed.Reads as followed-contract
use Rattle.salvage.proofs.how_far.ReadingEnd.all_read.Kinds as all
use Rattle.salvage.proofs.how_far.ReadingEnd.all_read.Reads as all-contract
use Rattle.salvage.proofs.lines.report_lines.Kinds as dropped
use Rattle.salvage.proofs.lines.report_lines.Reads as dropped-contract
use Rattle.salvage.proofs.remarks.say_end.Kinds as last
use Rattle.salvage.proofs.remarks.say_end.Reads as last-contract
use Rattle.salvage.proofs.remarks.say_answer.Kinds as answered
use Rattle.salvage.proofs.remarks.say_answer.Reads as answered-contract
use Rattle.salvage.proofs.remarks.say_too_long.Kinds as too_long
use Rattle.salvage.proofs.remarks.say_too_long.Reads as too-long-contract
use Rattle.salvage.proofs.remarks.status.Kinds as digit
use Rattle.salvage.proofs.remarks.status.Reads as digit-contract

pub salvage-asks-nothing : AsksNothing tool.ps met.Asked
salvage-asks-nothing κs args = tt

pub one-salvage : TwoAnswers tool.ps tool.r met.Learnt
    (λ κs args f g e e'. (f ≡ g) × (e.1.0.now ≡ e'.1.0.now) × (e.1.1.0.now ≡ e'.1.1.0.now))
one-salvage κs args f g e e' p q = (p.0 ∙ sym q.0, p.1.0 ∙ sym q.1.0, p.1.1.0 ∙ sym q.1.1.0)

pub new-asks-nothing : AsksNothing begun.ps begun-contract.Asked
new-asks-nothing κs args = tt

-- The reading before any record.
pub one-new : OneAnswer begun.ps begun.r begun-contract.Learnt
one-new κs args f g e e' p q = p ∙ sym q

pub reading-end-asks-nothing : AsksNothing far.ps far-contract.Asked
reading-end-asks-nothing κs args = tt

-- Where the reading ends.
pub one-reading-end : OneAnswer far.ps far.r far-contract.Learnt
one-reading-end κs args f g e e' p q = p ∙ sym q

pub followed-asks-nothing : AsksNothing followed.ps followed-contract.Asked
followed-asks-nothing κs args = tt

-- The same with more bytes after it.
pub one-followed : OneAnswer followed.ps followed.r followed-contract.Learnt
one-followed κs args f g e e' p q = p ∙ sym q

pub all-read-asks-nothing : AsksNothing all.ps all-contract.Asked
all-read-asks-nothing κs args = tt

-- Whether all was read.
pub one-all-read : OneAnswer all.ps all.r all-contract.Learnt
one-all-read κs args f g e e' p q = p ∙ sym q

pub report-lines-asks-nothing : AsksNothing dropped.ps dropped-contract.Asked
report-lines-asks-nothing κs args = tt

-- The lines of the records that are dropped: all of Reported, and the buffer at the end (the third parameter, out).
pub one-report-lines : TwoAnswers dropped.ps dropped.r dropped-contract.Learnt
    (λ κs args f g e e'. (f.reading ≡ g.reading) × (f.taken ≡ g.taken) × (f.more ≡ g.more)
    × ((f.written ≡ g.written) × (e.1.1.0.now ≡ e'.1.1.0.now)))
one-report-lines κs args f g e e' p q =
    (p.0.reading ∙ sym q.0.reading, p.0.taken ∙ sym q.0.taken, p.0.more ∙ sym q.0.more, one-put p.0.put q.0.put)

pub say-end-asks-nothing : AsksNothing last.ps last-contract.Asked
say-end-asks-nothing κs args = tt

-- The last word.
pub one-say-end : OneAnswerWith last.ps last.r last-contract.Learnt (λ κs e. e.0.now)
one-say-end κs args f g e e' p q = one-put p.put q.put

pub say-answer-asks-nothing : AsksNothing answered.ps answered-contract.Asked
say-answer-asks-nothing κs args = tt

-- The last words of an answer as it is given.
pub one-say-answer : OneAnswerWith answered.ps answered.r answered-contract.Learnt (λ κs e. e.0.now)
one-say-answer κs args f g e e' p q = one-put p.put q.put

pub say-too-long-asks-nothing : AsksNothing too_long.ps too-long-contract.Asked
say-too-long-asks-nothing κs args = tt

-- That the book is too long.
pub one-say-too-long : OneAnswerWith too_long.ps too_long.r too-long-contract.Learnt (λ κs e. e.0.now)
one-say-too-long κs args f g e e' p q = one-put p.put q.put

pub status-asks-nothing : AsksNothing digit.ps digit-contract.Asked
status-asks-nothing κs args = tt

-- The status byte.
pub one-status : OneAnswer digit.ps digit.r digit-contract.Learnt
one-status κs args f g e e' p q = p ∙ sym q

pub number-asks-nothing : AsksNothing refusal.ps refusal-contract.Asked
number-asks-nothing κs args = tt

-- The refusal's number.
pub one-number : OneAnswer refusal.ps refusal.r refusal-contract.Learnt
one-number κs args f g e e' p q = p ∙ sym q
