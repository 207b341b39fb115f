-- One answer: new, type_part, type_last, type_end, say_verdict and status ask nothing of their callers, and two answers that meet a contract are
-- equal (base, specs/Answers). Assumes nothing.
use mathlib.Core.Path.{◌≡◌, sym, ◌∙◌}
use Rattle.base.specs.Answers.{AsksNothing, TwoAnswers, OneAnswer, OneAnswerWith}
use Rattle.printing.proofs.Examples.{one-put}
use Rattle.writer.proofs.Typist.new.Kinds as beginning
use Rattle.writer.proofs.Typist.new.Reads as beginning-contract
use Rattle.writer.proofs.type_part.Kinds as part
use Rattle.writer.proofs.type_part.Reads as part-contract
use Rattle.writer.proofs.type_end.Kinds as end
use Rattle.writer.proofs.type_end.Reads as end-contract
use Rattle.writer.proofs.type_last.Kinds as last
use Rattle.writer.proofs.type_last.Reads as last-contract
use Rattle.writer.proofs.remarks.say_verdict.Kinds as verdict
use Rattle.writer.proofs.remarks.say_verdict.Reads as verdict-contract
use Rattle.writer.proofs.remarks.status.Kinds as digit
use Rattle.writer.proofs.remarks.status.Reads as digit-contract

pub new-asks-nothing : AsksNothing beginning.ps beginning-contract.Asked
new-asks-nothing κs args = tt

pub type-part-asks-nothing : AsksNothing part.ps part-contract.Asked
type-part-asks-nothing κs args = tt

pub type-last-asks-nothing : AsksNothing last.ps last-contract.Asked
type-last-asks-nothing κs args = tt

pub say-verdict-asks-nothing : AsksNothing verdict.ps verdict-contract.Asked
say-verdict-asks-nothing κs args = tt

pub status-asks-nothing : AsksNothing digit.ps digit-contract.Asked
status-asks-nothing κs args = tt

-- Two typists that meet new's contract are equal.
pub one-new : OneAnswer beginning.ps beginning.r beginning-contract.Learnt
one-new κs args f g e e' p q = p ∙ sym q

-- Two statuses that meet status's contract are equal.
pub one-status : OneAnswer digit.ps digit.r digit-contract.Learnt
one-status κs args f g e e' p q = p ∙ sym q

-- Two verdicts: the count of bytes said, and the buffer at the end (the first parameter, out).
pub one-verdict : OneAnswerWith verdict.ps verdict.r verdict-contract.Learnt (λ κs e. e.0.now)
one-verdict κs args f g e e' p q = one-put p.put q.put

-- Two last lines: the typist, the counts, and both buffers at the end (the third and fourth parameters, out and remarks).
pub one_last : TwoAnswers last.ps last.r last-contract.Learnt
    (λ κs args f g e e'. (f.typist ≡ g.typist) × (f.written ≡ g.written) × (e.1.1.0.now ≡ e'.1.1.0.now) × ((f.told ≡ g.told)
    × (e.1.1.1.0.now ≡ e'.1.1.1.0.now)))
one_last κs args f g e e' p q =
    (p.0 ∙ sym q.0, p.1.0 ∙ sym q.1.0, p.1.1.0 ∙ sym q.1.1.0, one-put p.1.1.1.put q.1.1.1.put)

-- Two calls: the typist and the line being read, the counts, and the three buffers at the end (line, out and remarks).
pub one-part : TwoAnswers part.ps part.r part-contract.Learnt
    (λ κs args f g e e'. (f.typing ≡ g.typing) × (f.taken ≡ g.taken) × (f.written ≡ g.written) × (e.1.0.now ≡ e'.1.0.now)
    × (e.1.1.1.0.now ≡ e'.1.1.1.0.now) × ((f.told ≡ g.told) × (e.1.1.1.1.0.now ≡ e'.1.1.1.1.0.now)))
one-part κs args f g e e' p q = (
  p.0 ∙ sym q.0,
  p.1.0 ∙ sym q.1.0,
  p.1.1.0 ∙ sym q.1.1.0,
  p.1.1.1.0 ∙ sym q.1.1.1.0,
  p.1.1.1.1.0 ∙ sym q.1.1.1.1.0,
  one-put p.1.1.1.1.1.0.put q.1.1.1.1.1.0.put,
)

pub type-end-asks-nothing : AsksNothing end.ps end-contract.Asked
type-end-asks-nothing κs args = tt

-- Two ends: the typist, the counts, and both buffers at the end (the third and fourth parameters, out and remarks).
pub one_end : TwoAnswers end.ps end.r end-contract.Learnt
    (λ κs args f g e e'. (f.typist ≡ g.typist) × (f.written ≡ g.written) × (e.1.1.0.now ≡ e'.1.1.0.now) × ((f.told ≡ g.told)
    × (e.1.1.1.0.now ≡ e'.1.1.1.0.now)))
one_end κs args f g e e' p q =
    (p.0 ∙ sym q.0, p.1.0 ∙ sym q.1.0, p.1.1.0 ∙ sym q.1.1.0, one-put p.1.1.1.put q.1.1.1.put)
